-- The ends of a manager that has nothing yet.
use Rattle.std.proofs.Common.{◌≡◌, List, [], ◌∷◌, map, refl, ap}
use Rattle.qkd_base.specs.declared.lane.Lane.{Lane}
use Rattle.net_model.specs.View.{Port}
use Rattle.net_model.specs.Fold.{empty_port}

pub empty_lanes : (ls : List Lane) → map (λ (p : Port). p.lane) (map empty_port ls) ≡ ls
empty_lanes [] = refl
empty_lanes (l ∷ ls) = ap (λ (ks : List Lane). l ∷ ks) (empty_lanes ls)
