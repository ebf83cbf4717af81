use Rattle.std.proofs.Common.{◌≡◌, eqb, drop}
use Rattle.std.specs.List.{position_from}
use Rattle.item_audit.proofs.said.declared_by.Given as goal

abbrev pub invariant-loop-place : goal.invariant-loop-place
invariant-loop-place l = position_from (λ n. eqb n l.number) 0 l.lines ≡ position_from (λ n. eqb n l.number) l.place (drop l.place l.lines)
