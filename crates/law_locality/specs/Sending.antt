-- The part of a plan that is still to be sent.
use Rattle.std.specs.Prelude.{◌≡◌, ℕ, true, false, List, [], ◌∷◌, map, filter, Some}
use Rattle.std.specs.List.{AllByRecursion}
use Rattle.qkd_base.specs.Lane.{lane_eq}
use Rattle.qkd_base.specs.declared.lane.Lane.{Lane}
use Rattle.net_model.specs.declared.order.Order.{Order}
use Rattle.net_model.specs.declared.repeat.Repeat.{Repeat}
use Rattle.net_model.specs.Item.{item_of, payload}
use Rattle.net_model.specs.Site.{sender}
use Rattle.net_model.specs.World.{Network, World, Allocation, Entry, Outgoing}
use Rattle.net_model.specs.Window.{repeat_of}
use Rattle.net_model.specs.Windows.{IsEntry}
use Rattle.net_model.specs.Handle.{frame_at, outgoing_repeat}
use Rattle.net_model.specs.Frames.{outgoing_of}
use Rattle.net_model.specs.Events.{is_lane}
use Rattle.net_model.specs.Step.{is_node}
use Rattle.net_model.specs.Tick.{Emission, Again, New, item_in, ordered}

-- The new orders among the frames to be sent, and the repeats among them.

abbrev pub orders_in : List Emission → List Order
orders_in [] = []
orders_in (Again r ∷ es) = orders_in es
orders_in (New o ∷ es) = o ∷ orders_in es

abbrev pub repeats_in : List Emission → List Repeat
repeats_in [] = []
repeats_in (Again r ∷ es) = r ∷ repeats_in es
repeats_in (New o ∷ es) = repeats_in es

-- The waiting frame of a repeat: the frame at its offset on the lane.
abbrev pub repeated : List Allocation → Repeat → Outgoing
repeated frames r =
    record {
      frame = frame_at frames r.offset;
      transmission = record { lane = r.lane; item = item_of r.ack_of r.name; received_offset = r.ack_of };
      fresh = false;
    }

-- The order is on a lane that leaves the node, and its payload is the table's.
pub record IsNew (net : Network) (w : World) (v : ℕ) (o : Order) : Type 0 where
  pub site : is_lane net.site o.lane ≡ true
  pub lane : sender net.site o.lane ≡ v
  pub spelled : payload w.durable.facts (item_in o.payload) ≡ Some o.payload

-- The repeat is of a frame that the node sent on a lane that leaves it.
pub record IsAgain (net : Network) (w : World) (v : ℕ) (r : Repeat) : Type 0 where
  pub entry : Entry
  pub is : r ≡ repeat_of entry
  pub sent : IsEntry net w v entry

abbrev pub IsEmission : Network → World → ℕ → Emission → Type 0
IsEmission net w v (Again r) = IsAgain net w v r
IsEmission net w v (New o) = IsNew net w v o

-- Just these frames of the node's plan are still to be sent, in this order. On each lane, its new orders wait for
-- their bytes and its repeats wait for the wire. No other node has notes waiting.
pub record Sends (net : Network) (w : World) (v : ℕ) (es : List Emission) : Type 0 where
  pub node : is_node net v ≡ true
  pub each : AllByRecursion (IsEmission net w v) es
  pub unclaimed : (l : Lane) → w.unclaimed l ≡ map ordered (filter (λ (o : Order). lane_eq o.lane l) (orders_in es))
  pub outgoing : (l : Lane) → w.outgoing l ≡ map (repeated (w.frames l)) (filter (λ (r : Repeat). lane_eq r.lane l) (repeats_in es))
  pub others : (u : ℕ) → (u ≡ v → ⊥) → w.placings u ≡ []

-- The repeat is of a window entry of its lane's sender, and its frame waits for the wire.
pub record MayGoAgain (net : Network) (w : World) (r : Repeat) : Type 0 where
  pub entry : Entry
  pub is : r ≡ repeat_of entry
  pub sent : IsEntry net w (sender net.site r.lane) entry
  pub outgoing : outgoing_of (frame_at (w.frames r.lane) r.offset) (w.outgoing r.lane) ≡ Some (outgoing_repeat (w.frames r.lane) entry)
