-- Lives: processes that follow one another over the same disks.
use Rattle.std.specs.Prelude.{◌≡◌, ℕ, ◌<◌, Bool, true, List, [], ◌∷◌, Some, slice_get}
use Rattle.qkd_base.specs.Name.{Name}
use Rattle.qkd_base.specs.declared.lane.Lane.{Lane}
use Rattle.net_model.specs.declared.record.Record.{Record}
use Rattle.net_model.specs.Site.{Site}
use Rattle.net_model.specs.Handings.{MayHaveOne}
use Rattle.net_model.specs.Premises.{IsNetwork}
use Rattle.net_model.specs.World.{Network, World, Journal}
use Rattle.net_model.specs.Ownership.{covers}
use Rattle.net_model.specs.Invariant.{IsJournal}
use Rattle.net_model.specs.Action.{Action}
use Rattle.net_model.specs.Step.{run, IsRun}
use Rattle.net_model.specs.Deliveries.{Delivery, deliveries}
use Rattle.law_lives.specs.AtRest.{at_rest}
use Rattle.law_lives.specs.Images.{IsImage}
use Rattle.law_lives.specs.Lasting.{Lasts}
use Rattle.law_lives.specs.NextNetwork.{with_drawn, IsNextNetwork}

-- A life: its network, the world in which it began, and what happened. Then what was read of its disks: the batches of one
-- image of each, the doubts that these have, and the journals.
pub record Life : Type 0 where
  pub net : Network
  pub begin : World
  pub actions : List Action
  pub images : ℕ → List (List Record)
  pub made : ℕ → Bool
  pub journals : ℕ → Journal

abbrev pub end_of : Life → World
end_of l = run l.net l.begin l.actions

-- the world at rest that the life left
abbrev pub rest_of : Life → World
rest_of l = at_rest l.net.site l.made l.journals (end_of l)

abbrev pub handed_in : Life → List Delivery
handed_in l = deliveries l.net l.begin l.actions

pub record IsLife (l : Life) : Type 0 where
  pub network : IsNetwork l.net
  pub steps : IsRun l.net l.begin l.actions
  pub read : (v : ℕ) → v < l.net.site.nodes → IsImage l.net (end_of l) v (l.made v) (l.images v)
  pub sized : (v : ℕ) → IsJournal (l.journals v)

-- The next life begins in the world at rest that this one left, but for its entropies, of which so much is drawn.
pub record IsNextLife (l next : Life) : Type 0 where
  pub drawn : ℕ → ℕ
  pub begin : next.begin ≡ with_drawn drawn (rest_of l)
  pub network : IsNextNetwork l.net next.net drawn (rest_of l)

abbrev pub Follow : Life → List Life → Type 0
Follow l [] = Unit {0}
Follow l (m ∷ ls) = IsNextLife l m × IsLife m × Follow m ls

-- Each life follows the one before it.
abbrev pub AreLives : List Life → Type 0
AreLives [] = Unit {0}
AreLives (l ∷ ls) = IsLife l × Follow l ls

-- What holds of two lives, one of which came before the other.
pub record IsEarlier (a b : Life) : Type 0 where
  -- nothing that was on disks is lost
  pub lasts : Lasts (end_of a).durable (end_of b).durable
  -- a key or chunk that an application may have stays so: its home knows it, and for a master or source it is confirmed
  pub ready : (s : Site) (n : Name) (sae : ℕ) → MayHaveOne s (end_of a).durable.facts (end_of a).durable.known n sae →
      MayHaveOne s (end_of b).durable.facts (end_of b).durable.known n sae
  -- no byte of a lane masks a frame of each
  pub apart : (l : Lane) (i j x : ℕ) → covers (end_of a).durable.facts (slice_get ((end_of a).frames l) i) x ≡ true →
      covers (end_of b).durable.facts (slice_get ((end_of b).frames l) j) x ≡ true → ⊥
  -- no key is handed to one application in both
  pub once : (i j : ℕ) (d e : Delivery) → slice_get (handed_in a) i ≡ Some d → slice_get (handed_in b) j ≡ Some e → d.name ≡ e.name → d.sae ≡ e.sae → ⊥
  -- what is handed out under one name has the same bytes
  pub equal : (i j : ℕ) (d e : Delivery) → slice_get (handed_in a) i ≡ Some d → slice_get (handed_in b) j ≡ Some e → d.name ≡ e.name → d.bytes ≡ e.bytes
