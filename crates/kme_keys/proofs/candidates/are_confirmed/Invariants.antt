use Rattle.std.proofs.Common.{◌≡◌, ◌-◌, length}
use Rattle.std.specs.List.{list_all}
use Rattle.net_model.specs.Table.{is_part_of, parts_of}
use Rattle.kme_keys.specs.Candidates.{is_fact_confirmed}
use Rattle.kme_keys.proofs.Behind.{passing}
use Rattle.kme_keys.proofs.candidates.are_confirmed.Given as goal

abbrev pub invariant-loop-from : goal.invariant-loop-from
invariant-loop-from l = list_all (is_fact_confirmed l.known.facts) (passing (is_part_of l.key) l.known.facts l.from) ≡ list_all (is_fact_confirmed l.known.facts) (parts_of l.known.facts l.key)

abbrev pub decreases-loop-from : goal.decreases-loop-from
decreases-loop-from l = length l.known.facts - l.from
