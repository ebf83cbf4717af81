-- Worlds in which each node sees the same: the one that a life left, and the one that was made of its journals.
use Rattle.std.specs.Prelude.{◌≡◌, ℕ, ◌<◌, true, Some}
use Rattle.std.specs.List.{list_any}
use Rattle.qkd_base.specs.Name.{Name, has}
use Rattle.qkd_base.specs.Lane.{lane_eq}
use Rattle.qkd_base.specs.declared.lane.Lane.{Lane}
use Rattle.net_model.specs.declared.fact.Fact.{Fact}
use Rattle.net_model.specs.Table.{fact_at, was_handed}
use Rattle.net_model.specs.Site.{outgoing_lanes}
use Rattle.net_model.specs.World.{Network, World}
use Rattle.net_model.specs.Needed.{is_needed, view_of}
use Rattle.net_model.specs.Handings.{MayHave}
use Rattle.net_model.specs.Invariant.{Conserved}
use Rattle.law_lives.specs.Belongs.{IsLike, NothingBehind}

-- All that is conserved holds in both worlds, nothing is known behind the last node, and each node sees the same.
pub record SeeTheSame (a b : Network) (v w : World) : Type 0 where
  pub first : Conserved a v
  pub second : Conserved b w
  pub first_behind : NothingBehind a v
  pub second_behind : NothingBehind b w
  pub site : b.site ≡ a.site
  pub sees : (u : ℕ) → u < a.site.nodes → view_of b w u ≡ view_of a v u

-- The second world has what the first one has.
pub record HasAllOf (a : Network) (v w : World) : Type 0 where
  -- facts may have other bytes
  pub facts : (n : Name) (f : Fact) → fact_at v.durable.facts n ≡ Some f → IsLike f (fact_at w.durable.facts n)
  -- but not where a node needs these
  pub needed : (u : ℕ) (n : Name) (f : Fact) → fact_at v.durable.facts n ≡ Some f → has (v.durable.known u) n ≡ true → is_needed (view_of a v u) f ≡ true →
      fact_at w.durable.facts n ≡ Some f
  pub known : (u : ℕ) (n : Name) → has (v.durable.known u) n ≡ true → has (w.durable.known u) n ≡ true
  pub acked : (u : ℕ) (n : Name) → u < a.site.nodes → has (v.durable.acked u) n ≡ true → has (w.durable.acked u) n ≡ true
  pub closed : (u : ℕ) (n : Name) (sae : ℕ) → u < a.site.nodes → was_handed (v.durable.closed u) n sae ≡ true → was_handed (w.durable.closed u) n sae ≡ true
  -- no handing is forgotten
  pub handed : (n : Name) (sae : ℕ) → was_handed v.durable.handed n sae ≡ true → was_handed w.durable.handed n sae ≡ true
  -- what an application may have, it still may have
  pub ready : (n : Name) (sae : ℕ) → MayHave a.site v.durable.facts v.durable.known n sae → MayHave a.site w.durable.facts w.durable.known n sae
  -- each lane that leaves a node goes on at its lease
  pub lanes : (u : ℕ) (l : Lane) → u < a.site.nodes → list_any (λ k. lane_eq k l) (outgoing_lanes a.site u) ≡ true →
      (w.durable.blocks l ≡ v.durable.blocks l) × (w.durable.lease l ≡ v.durable.lease l)
