-- Other keys for the same wires of a network (one-time pad).
use Rattle.std.specs.Prelude.{◌≡◌, ℕ, ◌==◌, Bool, true, false, List, [], ◌∷◌, ◌++◌, map, slice_get, Option, Some, None}
use Rattle.std.specs.List.{list_any}
use Rattle.qkd_base.specs.declared.lane.Lane.{Lane}
use Rattle.net_model.specs.declared.fact.Fact.{Fact}
use Rattle.net_model.specs.declared.payload.Payload.{Payload}
use Rattle.net_model.specs.Table.{without_bytes}
use Rattle.net_model.specs.Item.{payload}
use Rattle.net_model.specs.Sealing.{Sealing}
use Rattle.net_model.specs.World.{Network, World, Allocation}
use Rattle.net_model.specs.Events.{is_lane}
use Rattle.net_model.specs.Frames.{octets_sent}
use Rattle.frame_codec.specs.Payload.{payload_octets}
use Rattle.run_model.specs.Left.{wire_octets}
use Rattle.pad_veil.specs.declared.sealed_frame.SealedFrame.{SealedFrame}
use Rattle.pad_veil.specs.Veil.{veil, IsVeil}

-- ---- the different frames of a wire

abbrev pub stands_in : List ℕ → ℕ → Bool
stands_in ns n = list_any (λ m. m == n) ns

abbrev pub unless_seen : Bool → ℕ → List ℕ → List ℕ
unless_seen true n rest = rest
unless_seen false n rest = n ∷ rest

-- the numbers that are not among the earlier ones, without repeats, in the order of their first occurrences
unfoldable pub new_after : (earlier : List ℕ) → List ℕ → List ℕ
new_after earlier [] = []
new_after earlier (n ∷ ns) = unless_seen (stands_in earlier n) n (new_after (earlier ++ n ∷ []) ns)

abbrev pub each_once : List ℕ → List ℕ
each_once ns = new_after [] ns

-- ---- other payloads in these frames

abbrev pub octets_or_none : Option Payload → List ℕ
octets_or_none None = []
octets_or_none (Some p) = payload_octets p

-- a frame with its payload under `facts`, and with its payload under `others`
abbrev pub sealed_with : (facts others : List Fact) → Option Allocation → SealedFrame
sealed_with facts others None = record { offset = 0; old = []; new = [] }
sealed_with facts others (Some a) = record { offset = a.offset; old = octets_or_none (payload facts a.item); new = octets_or_none (payload others a.item) }

-- the frames on a lane's wire
abbrev pub sealed_on : World → (others : List Fact) → Lane → List SealedFrame
sealed_on w others l = map (λ j. sealed_with w.durable.facts others (slice_get (w.frames l) j)) (each_once (w.wire l))

-- the lane's bytes under which the wire carries the other facts
abbrev pub other_bytes : Network → World → (others : List Fact) → Lane → List ℕ
other_bytes net w others l = veil (octets_sent net w l) (sealed_on w others l)

-- ---- the wires for given bytes and facts

abbrev pub sealed_over : Sealing → Lane → List ℕ → ℕ → Option Payload → List ℕ
sealed_over f l bytes offset None = []
sealed_over f l bytes offset (Some p) = f.seal l bytes offset p

abbrev pub frame_over : Sealing → Lane → List ℕ → List Fact → Option Allocation → List ℕ
frame_over f l bytes facts None = []
frame_over f l bytes facts (Some a) = sealed_over f l bytes a.offset (payload facts a.item)

-- the lane's wire for these bytes and these facts
abbrev pub wire_over : Network → World → List ℕ → List Fact → Lane → List (List ℕ)
wire_over net w bytes facts l = map (λ j. frame_over net.sealing l bytes facts (slice_get (w.frames l) j)) (w.wire l)

-- ---- every other key fits

-- the other facts have the same names, kinds, routes and lengths; only the bytes of keys, chunks and parts may differ
abbrev pub DifferInBytes : (facts others : List Fact) → Type 0
DifferInBytes facts others = map without_bytes others ≡ map without_bytes facts

-- The lane's wire has the same octets. The lane's bytes differ only where they mask a payload, and there by the difference of the two payloads.
pub record FitsWire (net : Network) (w : World) (others : List Fact) (l : Lane) : Type 0 where
  pub wire : wire_over net w (other_bytes net w others l) others l ≡ wire_octets net w l
  pub bytes : IsVeil (octets_sent net w l) (sealed_on w others l) (other_bytes net w others l)

-- The wires fit every choice of keys, chunks and parts of the same lengths.
abbrev pub EveryKeyFits : Network → World → Type 0
EveryKeyFits net w = (others : List Fact) → DifferInBytes w.durable.facts others → (l : Lane) → is_lane net.site l ≡ true → FitsWire net w others l
