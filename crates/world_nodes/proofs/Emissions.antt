-- An order is claimed, and its frame is put or refused.
use Rattle.std.proofs.Common.{◌≡◌, ℕ, ◌+◌, ◌≤◌, true, List, [], ◌∷◌, ◌++◌, length, length-append, replicate, refl, sym, ◌∙◌, ap, subst, arith, Option, Some, None, Result, Ok, Err}
use Rattle.std.specs.Prelude.{slice_get, count_by}
use Rattle.std.proofs.lemmas.List.{length-replicate}
use Rattle.std.proofs.lemmas.Option.{slice_get_within}
use Rattle.qkd_base.specs.Family.{lane_set}
use Rattle.qkd_base.specs.declared.lane.Lane.{Lane}
use Rattle.net_model.specs.declared.fact.Fact.{Fact}
use Rattle.net_model.specs.declared.order.Order.{Order}
use Rattle.net_model.specs.declared.payload.Payload.{Payload}
use Rattle.net_model.specs.declared.payload.Payload.TheVariants.{Data, Ack}
use Rattle.net_model.specs.declared.placing.Placing.{Placing}
use Rattle.net_model.specs.Window.{room_octets}
use Rattle.net_model.specs.Facts.{IsWellFormed}
use Rattle.net_model.specs.Table.{fact_at, name_of}
use Rattle.net_model.specs.Item.{item_name, need, payload, data_payload, len_or_zero}
use Rattle.net_model.specs.Ledger.{is_burnt}
use Rattle.net_model.specs.Sealing.{Sealing}
use Rattle.net_model.specs.World.{Network, World, Allocation, Transmission, Outgoing, Owner, Frame}
use Rattle.net_model.specs.Tick.{item_in, ordered}
use Rattle.net_model.specs.Action.{Allocate, Transmit, Allocated}
use Rattle.net_model.specs.Frames.{frame_octets, sealed, octets_sent, allocate, is_unclaimed, without, outgoing_of, offset_or_zero, placing_of, put}
use Rattle.net_model.specs.Events.{is_lane}
use Rattle.net_model.specs.Step.{step, is_enabled, run, outcomes, IsRun}
use Rattle.source_devices.specs.declared.wire.WireFailed.{WireFailed}
use Rattle.source_devices.specs.Frames.{TakesFrame}
use Rattle.frame_codec.specs.Payload.{payload_octets}
use Rattle.hop_frames.specs.Frame.{spell}
use Rattle.pad_ledger.specs.Ledger.{Ledger}
use Rattle.lane_sender.specs.Lane.{LaneForm, claimed, frame_need, next_frame}
use Rattle.lane_sender.specs.declared.sent.Sent.{Sent}
use Rattle.lane_sender.specs.Sending.{sent_frame, answer_of}
use Rattle.law_base.proofs.Base.{and_left, and_right, slice_get-append_left}
use Rattle.law_base.proofs.LaneBlocks.{lane_length}
use Rattle.law_base.proofs.Lists.{lane_set_same, get_last, needs-without}
use Rattle.world_nodes.specs.LaneStands.{LaneStands}
use Rattle.world_nodes.specs.Emitting.{wire_answer, wire_outcome, offset_of, order_placing, with_placing, MayEmit, emission, Emitted}
use Rattle.world_nodes.proofs.Puts.{two_steps, sent_offset, is_put, is_enabled_put, is_seen}
use Rattle.world_nodes.proofs.Wires.{found_last, burnt-both, none_burnt, KeepsOctets, added, IsNumbered, numbered, IsNext, is_next, wire_more}
use Rattle.source_devices.specs.declared.wire.Wire as Wire

module _ {X : Type 0} (wire_says : Wire.Ghosts X) (net : Network) (w : World) (side : LaneForm X) (lease : ℕ) (order : Order) (m : MayEmit wire_says net w side lease order) where
  abbrev l : Lane
  l = order.lane

  abbrev t : Transmission
  t = ordered order

  -- the lane's next frame
  abbrev j : ℕ
  j = length (w.frames l)

  abbrev a : Allocation
  a = record { offset = length (w.durable.own l); item = item_in order.payload }

  abbrev o : Outgoing
  o = record { frame = j; transmission = t; fresh = true }

  abbrev spent : List Owner
  spent = replicate (need w.durable.facts t.item) (Frame j)

  abbrev after : World
  after = record w {
    durable = record (w.durable) { own = lane_set w.durable.own l (w.durable.own l ++ spent) };
    frames = lane_set w.frames l (w.frames l ++ a ∷ []);
    unclaimed = lane_set w.unclaimed l (without t (w.unclaimed l));
    outgoing = lane_set w.outgoing l (w.outgoing l ++ o ∷ []);
  }

  is_allocated : allocate w t ≡ (after, Allocated (length (w.durable.own l)))
  unfolding allocate
  is_allocated = refl

  at : is_lane net.site l ≡ true
  unfolding is_enabled
  at = and_left (is_lane net.site l) (is_unclaimed w t) m.enabled

  there : is_unclaimed w t ≡ true
  unfolding is_enabled
  there = and_right (is_lane net.site l) (is_unclaimed w t) m.enabled

  needed : need w.durable.facts t.item ≡ frame_need order.payload
  needed = ap (λ (p : Option Payload). len_or_zero p + 8) m.spelled

  -- what the call on the lane requires

  pub may_raise : side.ledger.end ≤ lease
  may_raise = subst (λ (n : ℕ). side.ledger.end ≤ n) (sym m.leased) m.stands.end

  pub within : lease ≤ length side.bytes
  within = omega (arith, m.leased, (m.running.conserved.now.room l).leased, ap length m.stands.bytes, lane_length l.way (net.device l.link) (w.durable.blocks l))

  pub reaches : side.ledger.used + frame_need order.payload ≤ lease
  reaches = omega (arith, m.leased, m.stands.used, needed, (m.running.conserved.now.room l).planned, needs-without w.durable.facts t (w.unclaimed l) there)

  found_fact : (found : Option Fact) (f : Fact) → data_payload found ≡ Some (Data f) → found ≡ Some f
  found_fact None f e = cc
  found_fact (Some g) f e = cc

  formed_as : (p : Payload) → payload w.durable.facts (item_in p) ≡ Some p → IsWellFormed p
  formed_as (Data f) h = (m.running.conserved.now.table (name_of f) f (found_fact (fact_at w.durable.facts (name_of f)) f h)).formed
  formed_as (Ack n) h = tt

  pub is_formed : IsWellFormed order.payload
  is_formed = formed_as order.payload m.spelled

  -- the order's frame

  framed : frame_octets net w l (Some a) ≡ next_frame side order.payload
  framed =
      ap (sealed net w l a.offset) m.spelled ∙ ap (λ (f : Sealing). f.seal l (octets_sent net w l) a.offset order.payload) m.running.sealing
      ∙ λ i. spell (sym m.stands.lane i) (sym m.stands.used i) (sym m.stands.bytes i) (payload_octets order.payload)

  stands_there : slice_get (after.frames l) j ≡ Some a
  stands_there = ap (λ (fs : List Allocation). slice_get fs j) (lane_set_same w.frames l (w.frames l ++ a ∷ [])) ∙ get_last (w.frames l) a

  may_be_put : outgoing_of j (after.outgoing l) ≡ Some o
  may_be_put =
      ap (outgoing_of j) (lane_set_same w.outgoing l (w.outgoing l ++ o ∷ []))
      ∙ found_last (w.outgoing l) o (λ n x at. let r = (m.running.conserved.wired l).put n x at in slice_get_within (w.frames l) x.frame r.0 r.1)

  -- the world after the emission

  abbrev put_after : Result ℕ WireFailed → World
  put_after answer = put net after l o (added answer (w.wire l) j) (numbered answer (length (w.wire l)))

  steps : (answer : Result ℕ WireFailed) → IsNext answer (length (w.wire l)) →
      IsRun net w (emission w order (wire_answer answer)) × (run net w (emission w order (wire_answer answer)) ≡ put_after answer)
      × (outcomes net w (emission w order (wire_answer answer)) ≡ Allocated (length (w.durable.own l)) ∷ wire_outcome answer ∷ [])
  unfolding step
  steps answer next =
      two_steps net w after (put_after answer) (Allocate t) (Transmit l j (wire_answer answer)) (Allocated (length (w.durable.own l))) (wire_outcome answer)
      is_allocated (is_put net after l o may_be_put answer next) m.enabled refl (is_enabled_put net after l o may_be_put at answer) (is_seen answer)

  -- the sender's note

  abbrev noted : Option Allocation → List ℕ → Option ℕ → Placing
  noted allocation frame number =
      record {
        lane = l;
        offset = offset_or_zero allocation;
        name = item_name (item_in order.payload);
        ack_of = order.ack_of;
        fresh = true;
        number = number;
        length = length frame;
        frame = room_octets frame;
      }

  noted_as : (answer : Result ℕ WireFailed) → IsNext answer (length (w.wire l)) →
      noted (Some a) (next_frame side order.payload) (numbered answer (length (w.wire l))) ≡ order_placing order (sent_frame side.ledger.used (next_frame side order.payload) answer)
  noted_as (Ok n) next = λ i. record (noted (Some a) (next_frame side order.payload) None) { offset = sym m.stands.used i; number = Some (sym next i) }
  noted_as (Err e) next = λ i. record (noted (Some a) (next_frame side order.payload) None) { offset = sym m.stands.used i }

  is_noted : (number : Option ℕ) → placing_of net after l o number ≡ noted (Some a) (next_frame side order.payload) number
  is_noted number =
      ap (λ (x : Option Allocation). noted x (frame_octets net w l x) number) stands_there
      ∙ ap (λ (frame : List ℕ). noted (Some a) frame number) framed

  -- Older frames stay, and the lane stands for the lane of the new world.

  module _ (s : Sent) where
    abbrev answer : Result ℕ WireFailed
    answer = answer_of s

    abbrev then' : World
    then' = put_after answer

    keeps : KeepsOctets net w then' l
    keeps n i there =
        ap (frame_octets net w l)
        (ap (λ (fs : List Allocation). slice_get fs i) (lane_set_same w.frames l (w.frames l ++ a ∷ []))
        ∙ slice_get-append_left (w.frames l) (a ∷ []) i ((m.running.conserved.wired l).wired n i there))

    module _ (new : LaneForm X) (lane : (new.lane ≡ side.lane) × (new.bytes ≡ side.bytes)) (ledger : new.ledger ≡ claimed (frame_need order.payload) (record (side.ledger) { end = lease }))
        (takes : TakesFrame (wire_says.frames side.wire) (wire_says.frames new.wire) answer (next_frame side order.payload)) (number : IsNumbered answer (wire_says.counted side.wire) (wire_says.counted new.wire))
        (is : s ≡ sent_frame side.ledger.used (next_frame side order.payload) answer) where
      stands_after : LaneStands wire_says net then' l new
      stands_after = record {
        lane = lane.0 ∙ m.stands.lane;
        bytes = lane.1 ∙ m.stands.bytes;
        received = ap (λ (g : Ledger). g.received) ledger ∙ m.stands.received;
        used = ap (λ (g : Ledger). g.used) ledger
            ∙ omega (arith, m.stands.used, needed, length-append (w.durable.own l) spent, length-replicate (need w.durable.facts t.item) (Frame j))
            ∙ ap length (sym (lane_set_same w.durable.own l (w.durable.own l ++ spent)));
        burnt = ap (λ (g : Ledger). g.burnt) ledger ∙ m.stands.burnt
            ∙ omega (arith, burnt-both (w.durable.own l) spent, none_burnt (need w.durable.facts t.item) j)
            ∙ ap (count_by is_burnt) (sym (lane_set_same w.durable.own l (w.durable.own l ++ spent)));
        end = omega (arith, ap (λ (g : Ledger). g.end) ledger, m.leased);
        wire = wire_more wire_says net w then' l side.wire new.wire m.stands.wire keeps answer j (next_frame side order.payload)
            (ap (frame_octets net w l) stands_there ∙ framed) (lane_set_same w.wire l (added answer (w.wire l) j)) takes number;
      }

      -- The number that the wire gives is the next one.
      next : IsNext answer (length (w.wire l))
      next = is_next answer (wire_says.counted side.wire) (wire_says.counted new.wire) (length (w.wire l)) number m.stands.wire.count

      pub emitted_as : Emitted wire_says net w new order s
      emitted_as =
          let made = steps answer next in
          let p : Placing = placing_of net after l o (numbered answer (length (w.wire l))) in
          let placed : p ≡ order_placing order s = is_noted (numbered answer (length (w.wire l))) ∙ noted_as answer next ∙ ap (order_placing order) (sym is) in
          record {
            may = made.0;
            said = made.2 ∙ ap (λ (n : ℕ). Allocated n ∷ wire_outcome answer ∷ []) (sym (ap offset_of is ∙ sent_offset side.ledger.used (next_frame side order.payload) answer ∙ m.stands.used));
            stands = subst (λ (x : World). LaneStands wire_says net x l new) (sym made.1) stands_after;
            placed = ap (λ (x : World). x.placings) made.1 ∙ ap (with_placing net w) placed;
          }

  -- the whole emission, over the lane with its end raised
  abbrev raised : LaneForm X
  raised = record side { ledger = record (side.ledger) { end = lease } }

  pub reaches_raised : (r : LaneForm X) → r ≡ raised → r.ledger.used + frame_need order.payload ≤ r.ledger.end
  reaches_raised r e = subst (λ (x : LaneForm X). x.ledger.used + frame_need order.payload ≤ x.ledger.end) (sym e) reaches

  pub emitted_raised : (r new : LaneForm X) (s : Sent) → r ≡ raised → (new.lane ≡ r.lane) × (new.bytes ≡ r.bytes) → new.ledger ≡ claimed (frame_need order.payload) r.ledger →
      TakesFrame (wire_says.frames r.wire) (wire_says.frames new.wire) (answer_of s) (next_frame r order.payload) → IsNumbered (answer_of s) (wire_says.counted r.wire) (wire_says.counted new.wire) →
      s ≡ sent_frame r.ledger.used (next_frame r order.payload) (answer_of s) → Emitted wire_says net w new order s
  emitted_raised r new s e lane ledger takes number is =
      emitted_as s new
      (lane.0 ∙ ap (λ (x : LaneForm X). x.lane) e, lane.1 ∙ ap (λ (x : LaneForm X). x.bytes) e)
      (ledger ∙ ap (λ (x : LaneForm X). claimed (frame_need order.payload) x.ledger) e)
      (subst (λ (x : LaneForm X). TakesFrame (wire_says.frames x.wire) (wire_says.frames new.wire) (answer_of s) (next_frame x order.payload)) e takes)
      (subst (λ (x : LaneForm X). IsNumbered (answer_of s) (wire_says.counted x.wire) (wire_says.counted new.wire)) e number)
      (is ∙ ap (λ (x : LaneForm X). sent_frame x.ledger.used (next_frame x order.payload) (answer_of s)) e)
