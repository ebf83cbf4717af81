-- Lives over one folder: each begins in a world in which each node sees what the earlier life's journals give it back.
use Rattle.std.specs.Prelude.{◌≡◌, ℕ, ◌<◌, true, List, [], ◌∷◌, Some, slice_get}
use Rattle.std.specs.List.{list_any}
use Rattle.qkd_base.specs.Name.{Name, has}
use Rattle.qkd_base.specs.Lane.{lane_eq}
use Rattle.qkd_base.specs.declared.lane.Lane.{Lane}
use Rattle.net_model.specs.declared.fact.Fact.{Fact}
use Rattle.net_model.specs.Table.{fact_at, was_handed}
use Rattle.net_model.specs.Site.{Site, outgoing_lanes}
use Rattle.net_model.specs.Needed.{view_of}
use Rattle.net_model.specs.Fold.{recovered_view}
use Rattle.net_model.specs.Ownership.{covers}
use Rattle.net_model.specs.Handings.{MayHaveOne}
use Rattle.net_model.specs.Deliveries.{Delivery}
use Rattle.run_model.specs.Begin.{MayBegin}
use Rattle.law_lives.specs.Belongs.{IsLike, NothingBehind}
use Rattle.law_lives.specs.Lives.{Life, end_of, handed_in, IsLife}

pub record BeginsLife (l : Life) : Type 0 where
  pub begins : MayBegin l.net l.begin
  pub behind : NothingBehind l.net l.begin
  pub life : IsLife l

-- The next life has the same site. It begins in any world that gives each node what its image gives back.
pub record IsNextOver (l next : Life) : Type 0 where
  pub site : next.net.site ≡ l.net.site
  pub sees : (v : ℕ) → v < l.net.site.nodes → view_of next.net next.begin v ≡ recovered_view l.net.site v (l.images v)

abbrev pub FollowOver : Life → List Life → Type 0
FollowOver l [] = Unit {0}
FollowOver l (m ∷ ls) = IsNextOver l m × BeginsLife m × FollowOver m ls

-- Each life goes on from what the one before left in the folder.
abbrev pub AreLivesOver : List Life → Type 0
AreLivesOver [] = Unit {0}
AreLivesOver (l ∷ ls) = BeginsLife l × FollowOver l ls

-- What holds of two lives over one folder, one of which came before the other.
pub record IsEarlierOver (a b : Life) : Type 0 where
  -- no fact is lost, but for bytes
  pub facts : (n : Name) (f : Fact) → fact_at (end_of a).durable.facts n ≡ Some f → IsLike f (fact_at (end_of b).durable.facts n)
  pub known : (v : ℕ) (n : Name) → has ((end_of a).durable.known v) n ≡ true → has ((end_of b).durable.known v) n ≡ true
  -- no handing is forgotten
  pub handed : (n : Name) (sae : ℕ) → was_handed (end_of a).durable.handed n sae ≡ true → was_handed (end_of b).durable.handed n sae ≡ true
  -- a key or chunk that an application may have stays so
  pub ready : (s : Site) (n : Name) (sae : ℕ) → MayHaveOne s (end_of a).durable.facts (end_of a).durable.known n sae →
      MayHaveOne s (end_of b).durable.facts (end_of b).durable.known n sae
  -- no byte of a lane that leaves a node masks a frame of each
  pub apart : (u : ℕ) (l : Lane) (i j x : ℕ) → u < a.net.site.nodes → list_any (λ k. lane_eq k l) (outgoing_lanes a.net.site u) ≡ true →
      covers (end_of a).durable.facts (slice_get ((end_of a).frames l) i) x ≡ true → covers (end_of b).durable.facts (slice_get ((end_of b).frames l) j) x ≡ true → ⊥
  -- no key is handed to one application in both
  pub once : (i j : ℕ) (d e : Delivery) → slice_get (handed_in a) i ≡ Some d → slice_get (handed_in b) j ≡ Some e → d.name ≡ e.name → d.sae ≡ e.sae → ⊥
  -- what is handed out under one name has the same bytes
  pub equal : (i j : ℕ) (d e : Delivery) → slice_get (handed_in a) i ≡ Some d → slice_get (handed_in b) j ≡ Some e → d.name ≡ e.name → d.bytes ≡ e.bytes
