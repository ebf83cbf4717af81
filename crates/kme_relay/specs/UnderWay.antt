-- For each lane, the place up to which the facts that it owes are on their way.
use Rattle.std.specs.Prelude.{◌≡◌, ℕ, ◌<◌, ◌≤◌, ◌||◌, ◌&&◌, Bool, true, false, List, length, slice_get, slice_index, Some}
use Rattle.qkd_base.specs.Name.{Name, name_eq}
use Rattle.qkd_base.specs.Lane.{lane_eq, lane_place, reverse_lane}
use Rattle.qkd_base.specs.declared.lane.Lane.{Lane}
use Rattle.net_model.specs.declared.fact.Fact.{Fact}
use Rattle.net_model.specs.Site.{Site, receiver}
use Rattle.net_model.specs.Table.{name_of}
use Rattle.net_model.specs.World.{Volatile}
use Rattle.kme_base.specs.declared.change.Change.{Change}
use Rattle.kme_base.specs.declared.change.Change.TheVariants.{Acknowledged}
use Rattle.relay_core.specs.Index.{is_owed_to}
use Rattle.kme_relay.specs.Wanted.{data_on, is_awaited, is_held}

-- the place of a lane, in a list of places by lane
abbrev pub front_of : List ℕ → Lane → ℕ
front_of fronts l = slice_index fronts (lane_place l)

-- a fact is on its way: it is in the window on this lane, or awaits its placing there
abbrev pub is_under_way : Volatile → Lane → Name → Bool
is_under_way vol l n = is_held vol l n || is_awaited vol (data_on l n)

-- each fact before the place is on its way, if it is owed to the neighbour
pub record AreUnderWay (me : ℕ) (acked : List Name) (facts : List Fact) (vol : Volatile) (l : Lane) (to place : ℕ) : Type 0 where
  pub within : place ≤ length facts
  pub each : (p : ℕ) (f : Fact) → p < place → slice_get facts p ≡ Some f → is_owed_to me acked to f ≡ true → is_under_way vol l (name_of f) ≡ true

-- for each lane, the facts before its place that are owed to its receiver are on their way
abbrev pub AreFronts : Site → ℕ → List Name → List Fact → Volatile → List ℕ → Type 0
AreFronts site me acked facts vol fronts = (l : Lane) → AreUnderWay me acked facts vol l (receiver site l) (front_of fronts l)

-- this change of the window removes the frames of this fact on this lane
abbrev pub is_let_go : Change → Lane → Name → Bool
is_let_go (Acknowledged lane n) l m = lane_eq l (reverse_lane lane) && name_eq m n
is_let_go _ l m = false

-- each fact before the place is on its way, if it is owed to the neighbour and the change doesn't remove its frames
pub record AreLeft (me : ℕ) (acked : List Name) (facts : List Fact) (vol : Volatile) (change : Change) (l : Lane) (to place : ℕ) : Type 0 where
  pub within : place ≤ length facts
  pub each : (p : ℕ) (f : Fact) → p < place → slice_get facts p ≡ Some f → is_owed_to me acked to f ≡ true → (is_let_go change l (name_of f) || is_under_way vol l (name_of f)) ≡ true

abbrev pub AreFrontsBut : Change → Site → ℕ → List Name → List Fact → Volatile → List ℕ → Type 0
AreFrontsBut change site me acked facts vol fronts = (l : Lane) → AreLeft me acked facts vol change l (receiver site l) (front_of fronts l)
