-- The index groups of frames, acknowledgements and orders.
use Rattle.std.specs.Prelude.{ℕ, Bool, true, false, List, [], ◌∷◌, ◌++◌, Option, Some, None}
use Rattle.qkd_base.specs.Lane.{lane_place}
use Rattle.qkd_base.specs.Name.{Name}
use Rattle.qkd_base.specs.declared.lane.Lane.{Lane}
use Rattle.relay_core.specs.Index.{origin_number, tagged}
use Rattle.resend_window.specs.declared.held.Held.{Held}
use Rattle.resend_window.specs.declared.edit.Query.{Query}
use Rattle.resend_window.specs.declared.edit.Query.TheVariants.{At, Answering, DataOf, SentAt}
use Rattle.resend_window.specs.declared.edit.Edit.{Edit}
use Rattle.resend_window.specs.declared.edit.Edit.TheVariants.{Remove}
use Rattle.resend_window.specs.declared.arrival.Arrival.{Arrival}
use Rattle.resend_window.specs.declared.arrival.Arrivals.{Arrivals}
use Rattle.resend_window.specs.declared.arrival.Arrivals.TheVariants.{Of, From}
use Rattle.resend_window.specs.declared.awaited.Awaited.{Awaited}

-- lists with empty slots, and for how many more items there is room

pub record HeldItems : Type 0 where
  pub items : List (Option Held)
  pub spare : ℕ

pub record ArrivalItems : Type 0 where
  pub items : List (Option Arrival)
  pub spare : ℕ

pub record AwaitedItems : Type 0 where
  pub items : List (Option Awaited)
  pub spare : ℕ

-- Groups of a lane and an offset, and of a lane and a name. The offset or the count differs most and stands first. One number holds both
-- the lane's number and a tag below 4.

abbrev pub offset_group : ℕ → Lane → ℕ → List ℕ
offset_group tag l x = x ∷ tagged tag (lane_place l) ∷ 0 ∷ 0 ∷ []

abbrev pub name_group : ℕ → Lane → Name → ℕ → List ℕ
name_group tag l n x = n.count ∷ tagged tag (lane_place l) ∷ origin_number n ∷ x ∷ []

-- frames

-- the group of a tick, for all lanes together
abbrev pub sent_group : ℕ → List ℕ
sent_group tick = tick ∷ tagged 3 0 ∷ 0 ∷ 0 ∷ []

-- the group of the tick at which the frame was last sent, if it carries a fact
abbrev pub sent_groups : Option ℕ → ℕ → List (List ℕ)
sent_groups None tick = sent_group tick ∷ []
sent_groups (Some x) tick = []

abbrev pub query_group : Query → List ℕ
query_group (At l x) = offset_group 0 l x
query_group (Answering l x) = offset_group 1 l x
query_group (DataOf l n) = name_group 2 l n 0
query_group (SentAt tick) = sent_group tick

abbrev pub item_group : Lane → Name → Option ℕ → List ℕ
item_group l n None = name_group 2 l n 0
item_group l n (Some x) = offset_group 1 l x

abbrev pub held_groups : Option Held → List (List ℕ)
held_groups None = []
held_groups (Some h) = sent_groups h.ack_of h.sent ++ offset_group 0 h.lane h.offset ∷ item_group h.lane h.name h.ack_of ∷ []

abbrev pub is_removal : Edit → Bool
is_removal Remove = true
is_removal _ = false

-- acknowledgements

abbrev pub arrivals_group : Arrivals → List ℕ
arrivals_group (Of l) = offset_group 0 l 0
arrivals_group (From l x) = offset_group 1 l x

abbrev pub arrival_groups : Option Arrival → List (List ℕ)
arrival_groups None = []
arrival_groups (Some a) = offset_group 0 a.lane 0 ∷ offset_group 1 a.lane a.offset ∷ []

-- orders

abbrev pub awaited_by : Lane → Name → Bool → Option ℕ → List ℕ
awaited_by l n false None = name_group 0 l n 0
awaited_by l n false (Some x) = name_group 1 l n x
awaited_by l n true None = name_group 2 l n 0
awaited_by l n true (Some x) = name_group 3 l n x

abbrev pub awaited_group : Awaited → List ℕ
awaited_group a = awaited_by a.lane a.name a.is_ack a.ack_of

abbrev pub awaited_groups : Option Awaited → List (List ℕ)
awaited_groups None = []
awaited_groups (Some a) = awaited_group a ∷ []
