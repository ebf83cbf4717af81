use Rattle.std.proofs.Common.{length, ◌-◌}
use Rattle.net_model.specs.Table.{is_part_of}
use Rattle.end_store.specs.Pooled.{ends_view}
use Rattle.kme_facts.specs.Parts.{passes}
use Rattle.kme_facts.proofs.Finding.{Missed}
use Rattle.kme_facts.proofs.part_test.first_part.Given as goal

abbrev pub invariant-loop-from : goal.invariant-loop-from
invariant-loop-from l = Missed (is_part_of l.key) (passes (ends_view l.ends) l.test) l.ends.known.facts l.from

abbrev pub decreases-loop-from : goal.decreases-loop-from
decreases-loop-from l = length l.ends.known.facts - l.from
