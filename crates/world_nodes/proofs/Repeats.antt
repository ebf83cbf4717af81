-- The frame of a repeat is put again or refused.
use Rattle.std.proofs.Common.{◌≡◌, ℕ, ◌<◌, ◌≤◌, Bool, false, List, [], length, take, refl, sym, ◌∙◌, ap, subst, arith, Option, Some, None, Result, Ok, Err}
use Rattle.std.specs.Prelude.{slice_get, slice_index_or, IfSome}
use Rattle.std.proofs.lemmas.List.{take_at}
use Rattle.std.proofs.lemmas.Bool.{lt-ltb}
use Rattle.std.proofs.lemmas.Option.{slice_get_within}
use Rattle.qkd_base.specs.declared.lane.Lane.{Lane}
use Rattle.net_model.specs.declared.repeat.Repeat.{Repeat}
use Rattle.net_model.specs.declared.placing.Placing.{Placing}
use Rattle.net_model.specs.Item.{item_name}
use Rattle.net_model.specs.Site.{sender}
use Rattle.net_model.specs.Window.{room_octets, repeat_of}
use Rattle.net_model.specs.Windows.{IsOnWire, IsEntry}
use Rattle.net_model.specs.World.{Network, World, Allocation, Entry, Outgoing}
use Rattle.net_model.specs.Action.{Outcome, is_shown}
use Rattle.net_model.specs.Handle.{frame_at, outgoing_repeat}
use Rattle.net_model.specs.Frames.{frame_octets, offset_or_zero, outgoing_of, placing_of}
use Rattle.net_model.specs.Step.{step, is_enabled}
use Rattle.source_devices.specs.declared.wire.WireFailed.{WireFailed}
use Rattle.source_devices.specs.Frames.{TakesFrame, TakesAgain}
use Rattle.pad_ledger.specs.Ledger.{Ledger}
use Rattle.lane_sender.specs.Lane.{LaneForm}
use Rattle.lane_sender.specs.declared.sent.Sent.{Sent}
use Rattle.lane_sender.specs.Sending.{sent, answer_of, TakesEither, TakesNumbered, TakesRepeat}
use Rattle.law_base.proofs.Base.{and_both}
use Rattle.law_base.proofs.Owners.{frame_at_finds}
use Rattle.law_base.proofs.Lists.{lane_set_same}
use Rattle.world_nodes.specs.LaneStands.{IsRunning, spelled_wire, LaneStands}
use Rattle.world_nodes.specs.Emitting.{wire_answer, wire_outcome, repeat_placing, with_placing, MayRepeat, repetition, Repeated}
use Rattle.world_nodes.proofs.Puts.{put_by, is_put, is_enabled_put, is_seen, short_frame}
use Rattle.world_nodes.proofs.Wires.{get-map, index_from, added, numbered, IsNumbered, IsNext, is_next, octets_at, wire_more}
use Rattle.source_devices.specs.declared.wire.Wire as Wire

-- Putting the frame of a number again puts a frame with the same octets.
taken_number : (old new : Option (List (List ℕ))) (answer : Result ℕ WireFailed) (all : List (List ℕ)) (n : ℕ) (frame : List ℕ) →
    IfSome old (λ x. x ≡ all) → slice_get all n ≡ Some frame → TakesAgain old new answer n → TakesFrame old new answer frame
taken_number None new answer all n frame is at takes = takes
taken_number (Some xs) new answer all n frame is at takes =
    subst (TakesFrame (Some xs) new answer) (ap (λ (ys : List (List ℕ)). slice_index_or ys n []) is ∙ index_from all n frame [] at) takes

module _ {X : Type 0} (wire_says : Wire.Ghosts X) (net : Network) (w : World) (running : IsRunning net w) (side : LaneForm X) (e : Entry)
    (stands : LaneStands wire_says net w e.transmission.lane side) (known : IsEntry net w (sender net.site e.transmission.lane) e) where
  abbrev l : Lane
  l = e.transmission.lane

  abbrev a : Allocation
  a = record { offset = e.offset; item = e.transmission.item }

  -- the frame of the repeat, found by its offset
  abbrev j : ℕ
  j = frame_at (w.frames l) e.offset

  is_own : j ≡ known.number
  is_own = frame_at_finds w.durable.facts (w.durable.own l) (w.frames l) _ (running.conserved.now.owned l) known.number a known.frame

  there : slice_get (w.frames l) j ≡ Some a
  there = ap (slice_get (w.frames l)) is_own ∙ known.frame

  octets : e.frame ≡ octets_at net w l j
  octets = known.octets ∙ ap (frame_octets net w l) (sym there)

  pub is_short : length e.frame ≤ 600
  is_short = subst (λ (xs : List ℕ). length xs ≤ 600) (sym known.octets) (short_frame net w running l known.site known.number a known.frame)

  -- What goes on the wire is the frame of the repeat, whether it is given by its number or by its octets.

  by_number : (n : ℕ) → slice_get (w.wire l) n ≡ Some known.number → slice_get (spelled_wire net w l) n ≡ Some (octets_at net w l j)
  by_number n at = get-map (octets_at net w l) (w.wire l) n known.number at ∙ ap (λ (k : ℕ). Some (octets_at net w l k)) (sym is_own)

  taken_as : (number : Option ℕ) → IsOnWire (w.wire l) known.number number → (new : Option (List (List ℕ))) (answer : Result ℕ WireFailed) →
      TakesNumbered (wire_says.counted side.wire) (wire_says.frames side.wire) new answer number (take (length e.frame) (room_octets e.frame).octets) →
      TakesFrame (wire_says.frames side.wire) new answer (octets_at net w l j)
  taken_as None on new answer takes = subst (TakesFrame (wire_says.frames side.wire) new answer) (take_at e.frame _ _ refl ∙ octets) takes
  taken_as (Some n) on new answer takes =
      let lt : n < wire_says.counted side.wire = omega (arith, slice_get_within (w.wire l) n known.number on, stands.wire.count) in
      taken_number (wire_says.frames side.wire) new answer (spelled_wire net w l) n (octets_at net w l j) stands.wire.told (by_number n on)
      (subst (λ (b : Bool). TakesEither b (wire_says.frames side.wire) new answer n (take (length e.frame) (room_octets e.frame).octets)) (lt-ltb n (wire_says.counted side.wire) lt) takes)

  module _ (may_be_put : outgoing_of j (w.outgoing l) ≡ Some (outgoing_repeat (w.frames l) e)) where
    abbrev o : Outgoing
    o = outgoing_repeat (w.frames l) e

    abbrev noted : Option Allocation → List ℕ → Option ℕ → Placing
    noted allocation frame number =
        record {
          lane = l;
          offset = offset_or_zero allocation;
          name = item_name e.transmission.item;
          ack_of = e.transmission.received_offset;
          fresh = false;
          number = number;
          length = length frame;
          frame = room_octets frame;
        }

    noted_as : (answer : Result ℕ WireFailed) → IsNext answer (length (w.wire l)) →
        noted (Some a) e.frame (numbered answer (length (w.wire l))) ≡ repeat_placing (repeat_of e) (sent e.offset (length e.frame) (room_octets e.frame) answer)
    noted_as (Ok n) next = λ i. record (noted (Some a) e.frame None) { number = Some (sym next i) }
    noted_as (Err x) next = refl

    is_noted : (number : Option ℕ) → placing_of net w l o number ≡ noted (Some a) e.frame number
    is_noted number =
        ap (λ (x : Option Allocation). noted x (frame_octets net w l x) number) there
        ∙ ap (λ (frame : List ℕ). noted (Some a) frame number) (sym known.octets)

    module _ (s : Sent) where
      abbrev answer : Result ℕ WireFailed
      answer = answer_of s

      abbrev then' : World
      then' = put_by net w l o may_be_put answer

      module _ (new : LaneForm X) (lane : (new.lane ≡ side.lane) × (new.bytes ≡ side.bytes) × (new.ledger ≡ side.ledger))
          (takes : TakesRepeat (wire_says.counted side.wire) (wire_says.frames side.wire) (wire_says.frames new.wire) answer (repeat_of e)) (number : IsNumbered answer (wire_says.counted side.wire) (wire_says.counted new.wire))
          (is : s ≡ sent e.offset (length e.frame) (room_octets e.frame) answer) where
        stands_after : LaneStands wire_says net then' l new
        stands_after = record {
          lane = lane.0 ∙ stands.lane;
          bytes = lane.1 ∙ stands.bytes;
          received = ap (λ (g : Ledger). g.received) lane.2 ∙ stands.received;
          used = ap (λ (g : Ledger). g.used) lane.2 ∙ stands.used;
          burnt = ap (λ (g : Ledger). g.burnt) lane.2 ∙ stands.burnt;
          end = subst (λ (g : Ledger). g.end ≤ w.durable.lease l) (sym lane.2) stands.end;
          wire = wire_more wire_says net w then' l side.wire new.wire stands.wire (λ n i at. refl) answer j (octets_at net w l j) refl
              (lane_set_same w.wire l (added answer (w.wire l) j)) (taken_as e.number known.wire (wire_says.frames new.wire) answer takes) number;
        }

        next : IsNext answer (length (w.wire l))
        next = is_next answer (wire_says.counted side.wire) (wire_says.counted new.wire) (length (w.wire l)) number stands.wire.count

        is_step' : step net w (repetition w (repeat_of e) (wire_answer answer)) ≡ (then', wire_outcome answer)
        unfolding step
        is_step' = is_put net w l o may_be_put answer next

        pub repeated_as : Repeated wire_says net w new (repeat_of e) s
        repeated_as =
            let p : Placing = placing_of net w l o (numbered answer (length (w.wire l))) in
            let placed : p ≡ repeat_placing (repeat_of e) s = is_noted (numbered answer (length (w.wire l))) ∙ noted_as answer next ∙ ap (repeat_placing (repeat_of e)) (sym is) in
            record {
              may = and_both (is_enabled net w (repetition w (repeat_of e) (wire_answer answer))) _ (is_enabled_put net w l o may_be_put known.site answer)
                  (ap (λ (r : World × Outcome). is_shown (wire_answer answer) r.1) is_step' ∙ is_seen answer);
              said = ap (λ (r : World × Outcome). r.1) is_step';
              stands = subst (λ (r : World × Outcome). LaneStands wire_says net r.0 l new) (sym is_step') stands_after;
              placed = ap (λ (r : World × Outcome). r.0.placings) is_step' ∙ ap (with_placing net w) placed;
            }

-- the whole repetition, for the repeat of an entry

module _ {X : Type 0} (wire_says : Wire.Ghosts X) (net : Network) (w : World) (side : LaneForm X) (repeat : Repeat) (m : MayRepeat wire_says net w side repeat) where
  stands_of : LaneStands wire_says net w m.entry.transmission.lane side
  stands_of = subst (λ (r : Repeat). LaneStands wire_says net w r.lane side) m.is m.stands

  known_of : IsEntry net w (sender net.site m.entry.transmission.lane) m.entry
  known_of = subst (λ (r : Repeat). IsEntry net w (sender net.site r.lane) m.entry) m.is m.sent

  pub repeat_short : repeat.length ≤ 600
  repeat_short = subst (λ (r : Repeat). r.length ≤ 600) (sym m.is) (is_short wire_says net w m.running side m.entry stands_of known_of)

  pub repeated : (new : LaneForm X) (s : Sent) → (new.lane ≡ side.lane) × (new.bytes ≡ side.bytes) × (new.ledger ≡ side.ledger) →
      TakesRepeat (wire_says.counted side.wire) (wire_says.frames side.wire) (wire_says.frames new.wire) (answer_of s) repeat → IsNumbered (answer_of s) (wire_says.counted side.wire) (wire_says.counted new.wire) →
      s ≡ sent repeat.offset repeat.length repeat.frame (answer_of s) → Repeated wire_says net w new repeat s
  repeated new s lane takes number is =
      subst (λ (r : Repeat). Repeated wire_says net w new r s) (sym m.is)
      (repeated_as wire_says net w m.running side m.entry stands_of known_of
      (subst (λ (r : Repeat). outgoing_of (frame_at (w.frames r.lane) r.offset) (w.outgoing r.lane) ≡ Some (outgoing_repeat (w.frames r.lane) m.entry)) m.is m.outgoing)
      s new lane
      (subst (TakesRepeat (wire_says.counted side.wire) (wire_says.frames side.wire) (wire_says.frames new.wire) (answer_of s)) m.is takes) number
      (is ∙ ap (λ (r : Repeat). sent r.offset r.length r.frame (answer_of s)) m.is))
