-- Frames in the world: they are claimed, put on a wire, and delivered to a receiver, unchanged or changed.
use Rattle.std.specs.Prelude.{ℕ, ◌+◌, ◌*◌, ◌-◌, ◌/◌, ◌%◌, ◌^◌, ◌==◌, ◌&&◌, ◌||◌, not, nat_lt, nat_le, Bool, true, false, List, [], ◌∷◌, ◌++◌, length, find, replicate, slice_get, slice_set, slice_index_or, bit_xor, Option, Some, None, if◌then◌else◌}
use Rattle.std.specs.List.{list_any}
use Rattle.qkd_base.specs.Family.{lane_set, number_set}
use Rattle.qkd_base.specs.declared.lane.Lane.{Lane}
use Rattle.net_model.specs.declared.payload.Payload.{Payload}
use Rattle.net_model.specs.declared.placing.Placing.{Placing}
use Rattle.net_model.specs.declared.reply.Reply.TheVariants.{Down, NoBits}
use Rattle.net_model.specs.Item.{item_name, need, payload}
use Rattle.net_model.specs.Site.{sender, receiver}
use Rattle.qkd_base.specs.Lane.{reverse_lane}
use Rattle.qkd_base.specs.LaneBytes.{lane_octets}
use Rattle.net_model.specs.OctetSequence.{first_blocks}
use Rattle.net_model.specs.Sealing.{Opened, Opens, Rejected, Forged}
use Rattle.net_model.specs.World.{Network, World, Allocation, Transmission, Outgoing, Frame, received_there}
use Rattle.net_model.specs.Needed.{view_of}
use Rattle.net_model.specs.Window.{transmission_eq, room_octets}
use Rattle.net_model.specs.Relay.{receive}
use Rattle.net_model.specs.Action.{Environment, Outcome, Replies, Allocated, Put, Unsent, NoFrame, NoBit, ForgedMatch, Nothing, is_no_memory, is_io_fault}
use Rattle.net_model.specs.Handle.{perform}

-- the bytes of a lane that its sender has received, and those that its receiver has
abbrev pub octets_sent : Network → World → Lane → List ℕ
octets_sent net w l = lane_octets l.way (first_blocks (net.device l.link) (w.durable.blocks l))

abbrev pub octets_received : Network → World → Lane → List ℕ
octets_received net w l = lane_octets l.way (first_blocks (net.device l.link) (w.durable.blocks (reverse_lane l)))

abbrev pub sealed : Network → World → Lane → ℕ → Option Payload → List ℕ
sealed net w l offset None = []
sealed net w l offset (Some p) = net.sealing.seal l (octets_sent net w l) offset p

-- the octets of a frame
abbrev pub frame_octets : Network → World → Lane → Option Allocation → List ℕ
frame_octets net w l None = []
frame_octets net w l (Some a) = sealed net w l a.offset (payload w.durable.facts a.item)

-- ---- claims

abbrev pub without : Transmission → List Transmission → List Transmission
without t [] = []
without t (x ∷ xs) = if transmission_eq t x then xs else x ∷ without t xs

abbrev pub is_unclaimed : World → Transmission → Bool
is_unclaimed w t = list_any (transmission_eq t) (w.unclaimed t.lane)

-- An order gets the next bytes of its lane, as many as it needs. Its frame may then be put on the wire.
unfoldable pub allocate : World → Transmission → World × Outcome
allocate w t =
    let l = t.lane in
    let offset = length (w.durable.own l) in
    let j = length (w.frames l) in (
      record w {
        durable = record (w.durable) { own = lane_set w.durable.own l (w.durable.own l ++ replicate (need w.durable.facts t.item) (Frame j)) };
        frames = lane_set w.frames l (w.frames l ++ record { offset = offset; item = t.item } ∷ []);
        unclaimed = lane_set w.unclaimed l (without t (w.unclaimed l));
        outgoing = lane_set w.outgoing l (w.outgoing l ++ record { frame = j; transmission = t; fresh = true } ∷ []);
      },
      Allocated offset,
    )

-- ---- puts

abbrev pub outgoing_of : ℕ → List Outgoing → Option Outgoing
outgoing_of j os = find (λ o. o.frame == j) os

abbrev pub without_frame : ℕ → List Outgoing → List Outgoing
without_frame j [] = []
without_frame j (o ∷ os) = if o.frame == j then os else o ∷ without_frame j os

abbrev pub offset_or_zero : Option Allocation → ℕ
offset_or_zero None = 0
offset_or_zero (Some a) = a.offset

abbrev pub placing_of : Network → World → Lane → Outgoing → Option ℕ → Placing
placing_of net w l o number =
    let allocation = slice_get (w.frames l) o.frame in
    let frame = frame_octets net w l allocation in
    record {
      lane = l;
      offset = offset_or_zero allocation;
      name = item_name o.transmission.item;
      ack_of = o.transmission.received_offset;
      fresh = o.fresh;
      number = number;
      length = length frame;
      frame = room_octets frame;
    }

-- A frame that may be put is put on the wire or refused by it. Its sender notes this next.
abbrev pub put : Network → World → Lane → Outgoing → List ℕ → Option ℕ → World
put net w l o wire number =
    let v = sender net.site l in
    record w {
      wire = lane_set w.wire l wire;
      outgoing = lane_set w.outgoing l (without_frame o.frame (w.outgoing l));
      placings = number_set w.placings v (w.placings v ++ placing_of net w l o number ∷ []);
    }

abbrev pub transmit_one : Network → World → Lane → Environment → Option Outgoing → World × Outcome
transmit_one net w l environment None = (w, Nothing)
transmit_one net w l environment (Some o) =
    if is_no_memory environment || is_io_fault environment then (put net w l o (w.wire l) None, Unsent (is_no_memory environment))
    else (put net w l o (w.wire l ++ o.frame ∷ []) (Some (length (w.wire l))), Put (length (w.wire l)))

unfoldable pub transmit : Network → World → Lane → ℕ → Environment → World × Outcome
transmit net w l j environment = transmit_one net w l environment (outgoing_of j (w.outgoing l))

-- ---- deliveries

abbrev pub receive_item : Network → World → Lane → ℕ → Environment → Option Payload → World × Outcome
receive_item net w l offset environment None = (w, Nothing)
receive_item net w l offset environment (Some p) =
    perform net w (receiver net.site l) 0 environment (receive net.site (view_of net w (receiver net.site l)) l offset p)

-- a frame is delivered to the receiver of its lane, which must have the lane bytes for it
unfoldable pub deliver_frame : Network → World → Lane → Environment → Option Allocation → World × Outcome
deliver_frame net w l environment None = (w, Nothing)
deliver_frame net w l environment (Some a) =
    if not (w.up (receiver net.site l)) then (w, Replies Down)
    else if nat_lt (received_there w.durable l) (a.offset + need w.durable.facts a.item) then (w, Replies (NoBits (received_there w.durable l)))
    else receive_item net w l a.offset environment (payload w.durable.facts a.item)

abbrev pub deliver_number : Network → World → Lane → Environment → Option ℕ → World × Outcome
deliver_number net w l environment None = (w, NoFrame (length (w.wire l)))
deliver_number net w l environment (Some j) = deliver_frame net w l environment (slice_get (w.frames l) j)

unfoldable pub deliver : Network → World → Lane → ℕ → Environment → World × Outcome
deliver net w l number environment = deliver_number net w l environment (slice_get (w.wire l) number)

abbrev pub octets_eq : List ℕ → List ℕ → Bool
octets_eq [] [] = true
octets_eq [] (y ∷ ys) = false
octets_eq (x ∷ xs) [] = false
octets_eq (x ∷ xs) (y ∷ ys) = (x == y) && octets_eq xs ys

-- what opening octets that nobody put on the wire gives: a refusal, or the end of the run
abbrev pub unmatched : World → Opened → World × Outcome
unmatched w (Opens offset p) = (w, ForgedMatch)
unmatched w (Rejected reply) = (w, Replies reply)
unmatched w (Forged place) = (w, ForgedMatch)

abbrev pub tampered_or_put : Network → World → Lane → List ℕ → Environment → Option ℕ → World × Outcome
tampered_or_put net w l octets environment (Some j) = deliver_frame net w l environment (slice_get (w.frames l) j)
tampered_or_put net w l octets environment None =
    if not (w.up (receiver net.site l)) then (w, Replies Down)
    else unmatched w (net.sealing.unseal l (octets_received net w l) octets)

-- Octets are delivered to a receiver. If a frame on the lane's wire has the same octets, they count as this frame.
unfoldable pub tampered : Network → World → Lane → List ℕ → Environment → World × Outcome
tampered net w l octets environment =
    tampered_or_put net w l octets environment (find (λ j. octets_eq (frame_octets net w l (slice_get (w.frames l) j)) octets) (w.wire l))

-- Octets with one bit flipped. Bit b is bit 7 - b mod 8 of octet b / 8, and bit 7 is the highest bit of an octet.
abbrev pub with_flipped : List ℕ → ℕ → List ℕ
with_flipped octets bit = slice_set octets (bit / 8) (bit_xor (slice_index_or octets (bit / 8) 0) (2 ^ (7 - bit % 8)))

abbrev pub flip_octets : Network → World → Lane → List ℕ → ℕ → Environment → World × Outcome
flip_octets net w l octets bit environment =
    if nat_le (8 * length octets) bit then (w, NoBit (8 * length octets)) else tampered net w l (with_flipped octets bit) environment

abbrev pub flip_number : Network → World → Lane → ℕ → Environment → Option ℕ → World × Outcome
flip_number net w l bit environment None = (w, NoFrame (length (w.wire l)))
flip_number net w l bit environment (Some j) = flip_octets net w l (frame_octets net w l (slice_get (w.frames l) j)) bit environment

unfoldable pub flip : Network → World → Lane → ℕ → ℕ → Environment → World × Outcome
flip net w l number bit environment = flip_number net w l bit environment (slice_get (w.wire l) number)
