use Rattle.std.proofs.Common.{◌≡◌, drop, eqb}
use Rattle.std.specs.List.{list_any}
use Rattle.scenario_text.proofs.group_lines.is_among.Given as goal

abbrev pub invariant-loop-other : goal.invariant-loop-other
invariant-loop-other l = list_any (λ other. eqb other l.sae) (drop l.other-index l.saes) ≡ list_any (λ other. eqb other l.sae) l.saes
