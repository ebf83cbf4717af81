use Rattle.std.proofs.Common.{◌≡◌, drop}
use Rattle.std.specs.List.{position_from}
use Rattle.std.specs.Str.{bytes_eq}
use Rattle.sae_entitlements.proofs.entitlements.place_of.Given as goal

abbrev pub invariant-loop-place : goal.invariant-loop-place
invariant-loop-place l = position_from (λ a. bytes_eq a.id l.id) 0 l.applications ≡ position_from (λ a. bytes_eq a.id l.id) l.place (drop l.place l.applications)
