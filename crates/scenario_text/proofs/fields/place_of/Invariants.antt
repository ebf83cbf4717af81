use Rattle.std.proofs.Common.{◌≡◌, drop}
use Rattle.std.specs.List.{position_from}
use Rattle.std.specs.Str.{bytes_eq}
use Rattle.scenario_text.proofs.fields.place_of.Given as goal

abbrev pub invariant-loop-place : goal.invariant-loop-place
invariant-loop-place l = position_from (λ n. bytes_eq n l.name) 0 l.names ≡ position_from (λ n. bytes_eq n l.name) l.place (drop l.place l.names)
