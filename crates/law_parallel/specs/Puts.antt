-- The frames that a lane puts in a block, and what they leave.
use Rattle.std.specs.Prelude.{ℕ, ◌+◌, ◌-◌, ◌||◌, not, Bool, true, false, List, [], ◌∷◌, ◌++◌, length, map, filter, replicate, slice_get, Option, Some, None, if◌then◌else◌}
use Rattle.std.specs.List.{flat_map}
use Rattle.qkd_base.specs.declared.lane.Lane.{Lane}
use Rattle.net_model.specs.declared.fact.Fact.{Fact}
use Rattle.net_model.specs.declared.order.Order.{Order}
use Rattle.net_model.specs.declared.placing.Placing.{Placing}
use Rattle.net_model.specs.Item.{Item, item_of, item_name, need}
use Rattle.net_model.specs.World.{Network, World, Allocation, Owner, Frame}
use Rattle.net_model.specs.Window.{room_octets}
use Rattle.net_model.specs.Handle.{frame_at}
use Rattle.net_model.specs.Frames.{frame_octets}
use Rattle.net_model.specs.Tick.{Emission, Again, New, item_in}
use Rattle.net_model.specs.Action.{Environment, Outcome, Put, Unsent, is_no_memory, is_io_fault}
use Rattle.run_model.specs.Outcomes.{put_items}
use Rattle.run_model.specs.Block.{PutDone}
use Rattle.law_parallel.specs.Logs.{Deed, Claims, Puts, Repeats, claims_in}

-- A frame that the plan of the line at a place orders: its number on its lane and the offset of its first byte.
pub record LaneFrame : Type 0 where
  pub place : ℕ
  pub emission : Emission
  pub number : ℕ
  pub offset : ℕ

-- The item that the frame carries, the frame that it acknowledges, and whether it is sent for the first time.

abbrev pub item_sent : Emission → Item
item_sent (Again r) = item_of r.ack_of r.name
item_sent (New o) = item_in o.payload

abbrev pub answered_by : Emission → Option ℕ
answered_by (Again r) = r.ack_of
answered_by (New o) = o.ack_of

abbrev pub is_new : Emission → Bool
is_new (Again r) = false
is_new (New o) = true

abbrev pub allocation_of : LaneFrame → Allocation
allocation_of f = record { offset = f.offset; item = item_sent f.emission }

-- The frames of these claims in sequence, from a number and an offset on.
abbrev pub claimed_from : List Fact → (number offset : ℕ) → List (ℕ × Order) → List LaneFrame
claimed_from facts number offset [] = []
claimed_from facts number offset (x ∷ xs) =
    record { place = x.0; emission = New (x.1); number = number; offset = offset } ∷ claimed_from facts (number + 1) (offset + need facts (item_in (x.1).payload)) xs

-- The new frames of a log, from the state of the lane before the log.
abbrev pub new_frames : World → Lane → List Deed → List LaneFrame
new_frames w l log = claimed_from w.durable.facts (length (w.frames l)) (length (w.durable.own l)) (claims_in log)

abbrev pub with_answer : Environment → Option LaneFrame → List (LaneFrame × Environment)
with_answer answer None = []
with_answer answer (Some f) = (f, answer) ∷ []

abbrev pub put_by : (older : List Allocation) → (new : List LaneFrame) → Deed → List (LaneFrame × Environment)
put_by older new (Claims place order) = []
put_by older new (Puts claim answer) = with_answer answer (slice_get new claim)
put_by older new (Repeats place r answer) = (record { place = place; emission = Again r; number = frame_at older r.offset; offset = r.offset }, answer) ∷ []

-- The frames that the log puts, in order, each with the answer of the wire.
abbrev pub frames_put : World → Lane → List Deed → List (LaneFrame × Environment)
frames_put w l log = flat_map (put_by (w.frames l) (new_frames w l log)) log

-- What the log leaves on the lane: the owners of its bytes, its frames, and the frames on its wire.

abbrev pub is_taken : Environment → Bool
is_taken answer = not (is_no_memory answer || is_io_fault answer)

abbrev pub owners : List Fact → LaneFrame → List Owner
owners facts f = replicate (need facts (item_sent f.emission)) (Frame f.number)

abbrev pub own_after : World → Lane → List Deed → List Owner
own_after w l log = w.durable.own l ++ flat_map (owners w.durable.facts) (new_frames w l log)

abbrev pub frames_after : World → Lane → List Deed → List Allocation
frames_after w l log = w.frames l ++ map allocation_of (new_frames w l log)

-- The number of bytes that are claimed.
abbrev pub octets_claimed : List Fact → List (ℕ × Order) → ℕ
octets_claimed facts [] = 0
octets_claimed facts (x ∷ xs) = need facts (item_in (x.1).payload) + octets_claimed facts xs

abbrev pub numbers_taken : List (LaneFrame × Environment) → List ℕ
numbers_taken puts = map (λ (p : LaneFrame × Environment). (p.0).number) (filter (λ (p : LaneFrame × Environment). is_taken p.1) puts)

abbrev pub wire_after : World → Lane → List Deed → List ℕ
wire_after w l log = w.wire l ++ numbers_taken (frames_put w l log)

-- The reports of the frames, which depend on how many frames are on the wire.

abbrev pub answer_at : (count : ℕ) → Environment → Outcome
answer_at count answer = if is_no_memory answer || is_io_fault answer then Unsent (is_no_memory answer) else Put count

abbrev pub count_after : ℕ → Environment → ℕ
count_after count answer = if is_no_memory answer || is_io_fault answer then count else count + 1

abbrev pub reported_from : List Fact → Lane → (count : ℕ) → List (LaneFrame × Environment) → List PutDone
reported_from facts l count [] = []
reported_from facts l count (p ∷ ps) =
    record {
      lane = l;
      offset = (p.0).offset;
      place = (p.0).place;
      took = is_taken p.1;
      reported = put_items l (p.0).offset (need facts (item_sent (p.0).emission) - 8) (answer_at count p.1);
    } ∷ reported_from facts l (count_after count p.1) ps

abbrev pub reported_on : World → Lane → List Deed → List PutDone
reported_on w l log = reported_from w.durable.facts l (length (w.wire l)) (frames_put w l log)

-- The notes on the frames for their sender.

abbrev pub number_at : (count : ℕ) → Environment → Option ℕ
number_at count answer = if is_no_memory answer || is_io_fault answer then None else Some count

abbrev pub placed : Network → World → Lane → LaneFrame → Option ℕ → Placing
placed net w l f number =
    let frame = frame_octets net w l (Some (allocation_of f)) in
    record {
      lane = l;
      offset = f.offset;
      name = item_name (item_sent f.emission);
      ack_of = answered_by f.emission;
      fresh = is_new f.emission;
      number = number;
      length = length frame;
      frame = room_octets frame;
    }

abbrev pub placings_from : Network → World → Lane → (count : ℕ) → List (LaneFrame × Environment) → List Placing
placings_from net w l count [] = []
placings_from net w l count (p ∷ ps) = placed net w l p.0 (number_at count p.1) ∷ placings_from net w l (count_after count p.1) ps

abbrev pub placings_on : Network → World → Lane → List Deed → List Placing
placings_on net w l log = placings_from net w l (length (w.wire l)) (frames_put w l log)

-- The octets of frames.

abbrev pub octets_on_wire : Network → World → Lane → List (List ℕ)
octets_on_wire net w l = map (λ j. frame_octets net w l (slice_get (w.frames l) j)) (w.wire l)

-- The octets of the frames that the wire took.
abbrev pub octets_taken : Network → World → Lane → List Deed → List (List ℕ)
octets_taken net w l log =
    map (λ (p : LaneFrame × Environment). frame_octets net w l (Some (allocation_of p.0))) (filter (λ (p : LaneFrame × Environment). is_taken p.1) (frames_put w l log))
