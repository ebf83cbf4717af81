-- Routes that go from node to node over links of the site.
use Rattle.std.specs.Prelude.{◌≡◌, ℕ, ◌<◌, true, List, [], ◌∷◌}
use Rattle.std.specs.List.{AllByRecursion}
use Rattle.net_model.specs.declared.fact.Fact.{Fact}
use Rattle.net_model.specs.declared.record.Record.{Record}
use Rattle.net_model.specs.declared.record.Record.TheVariants.{Learned, Bare}
use Rattle.net_model.specs.Table.{route_of}
use Rattle.net_model.specs.Site.{Site}
use Rattle.net_model.specs.Routes.{are_joined}
use Rattle.net_model.specs.World.{Network, World}

-- A link joins each node of the route to the next one.
abbrev pub IsChain : Site → List ℕ → Type 0
IsChain s [] = Unit {0}
IsChain s (a ∷ []) = Unit {0}
IsChain s (a ∷ b ∷ rest) = (are_joined s (λ link. true) a b ≡ true) × IsChain s (b ∷ rest)

-- It is so of the route of this fact, and of the fact that this record teaches.

abbrev pub GoesOverLinks : Site → Fact → Type 0
GoesOverLinks s f = IsChain s (route_of f)

abbrev pub TeachesChains : Site → Record → Type 0
TeachesChains s (Learned f) = GoesOverLinks s f
TeachesChains s (Bare f) = GoesOverLinks s f
TeachesChains s _ = Unit {0}

-- It is so of the table, and of each batch in doubt.
pub record AreChained (net : Network) (w : World) : Type 0 where
  pub table : AllByRecursion (GoesOverLinks net.site) w.durable.facts
  pub doubts : (v : ℕ) → AllByRecursion (TeachesChains net.site) (w.in_doubt v).batch

-- Every node and every link of the network is up.
pub record IsAllUp (net : Network) (w : World) : Type 0 where
  pub nodes : (v : ℕ) → v < net.site.nodes → w.up v ≡ true
  pub links : (link : ℕ) → link < net.site.links → w.link_up link ≡ true
