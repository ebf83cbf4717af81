use Rattle.std.proofs.Common.{length, ◌-◌}
use Rattle.net_model.specs.Table.{is_part_of}
use Rattle.relay_core.specs.Knowledge.{is_owed_by}
use Rattle.kme_facts.proofs.Finding.{Missed}
use Rattle.kme_facts.proofs.needs.has_owed_part.Given as goal

abbrev pub invariant-loop-from : goal.invariant-loop-from
invariant-loop-from l = Missed (is_part_of l.key) (is_owed_by l.known.me l.known.acked) l.known.facts l.from

abbrev pub decreases-loop-from : goal.decreases-loop-from
decreases-loop-from l = length l.known.facts - l.from
