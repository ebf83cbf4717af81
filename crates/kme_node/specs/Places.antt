-- A manager's ends of links have different lanes, and its orders fit in the bytes received.
use Rattle.std.specs.Prelude.{◌≢◌, ◌+◌, ◌≤◌, List, [], ◌∷◌}
use Rattle.std.specs.List.{AllByRecursion}
use Rattle.net_model.specs.declared.fact.Fact.{Fact}
use Rattle.net_model.specs.World.{Transmission, needs}
use Rattle.net_model.specs.View.{Port, received_of}
use Rattle.net_model.specs.Fold.{on_lane}

-- no two ends have the same lane
abbrev pub AreApart : List Port → Type 0
AreApart [] = Unit {0}
AreApart (p ∷ ps) = AllByRecursion (λ (q : Port). q.lane ≢ p.lane) ps × AreApart ps

-- the bytes that are planned at an end were received
abbrev pub AreWithin : List Port → Type 0
AreWithin ports = AllByRecursion (λ (p : Port). p.planned ≤ received_of p) ports

-- on each lane, the planned bytes and those that the transmissions need were received
abbrev pub HaveBytes : List Fact → List Transmission → List Port → Type 0
HaveBytes facts orders ports = AllByRecursion (λ (p : Port). p.planned + needs facts (on_lane p.lane orders) ≤ received_of p) ports
