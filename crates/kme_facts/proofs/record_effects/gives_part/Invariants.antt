use Rattle.std.proofs.Common.{length, ◌-◌}
use Rattle.net_model.specs.Table.{is_part_of}
use Rattle.kme_facts.specs.Taken.{may_give}
use Rattle.kme_facts.proofs.Finding.{Missed}
use Rattle.kme_facts.proofs.record_effects.gives_part.Given as goal

abbrev pub invariant-loop-from : goal.invariant-loop-from
invariant-loop-from l = Missed (is_part_of l.name) (may_give l.known.me l.name l.sae) l.known.facts l.from

abbrev pub decreases-loop-from : goal.decreases-loop-from
decreases-loop-from l = length l.known.facts - l.from
