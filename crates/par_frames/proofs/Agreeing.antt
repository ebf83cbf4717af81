-- The record of a frame says which frame was put.
use Rattle.std.proofs.Common.{◌≡◌, ℕ, ◌+◌, ◌-◌, true, List, length, refl, sym, ◌∙◌, ap, arith, Option, Some, None, Result, Ok, Err}
use Rattle.std.specs.Prelude.{slice_get}
use Rattle.qkd_base.specs.declared.lane.Lane.{Lane}
use Rattle.qkd_base.specs.declared.frame_octets.FrameOctets.{FrameOctets}
use Rattle.net_model.specs.declared.order.Order.{Order}
use Rattle.net_model.specs.declared.payload.Payload.{Payload}
use Rattle.net_model.specs.declared.repeat.Repeat.{Repeat}
use Rattle.net_model.specs.Facts.{payload_len}
use Rattle.net_model.specs.Item.{Item, item_of, item_name, payload, need, len_or_zero}
use Rattle.net_model.specs.Sealing.{Sealing}
use Rattle.net_model.specs.Site.{sender}
use Rattle.net_model.specs.World.{Network, World, Allocation}
use Rattle.net_model.specs.Window.{room_octets}
use Rattle.net_model.specs.Events.{is_lane}
use Rattle.net_model.specs.Frames.{frame_octets, sealed, octets_sent}
use Rattle.net_model.specs.Tick.{Again, New, item_in}
use Rattle.source_devices.specs.declared.wire.WireFailed.{WireFailed}
use Rattle.frame_codec.specs.Payload.{payload_octets}
use Rattle.hop_frames.specs.Frame.{spell}
use Rattle.lane_sender.specs.Sending.{sent, sent_frame, answer_of}
use Rattle.law_locality.specs.Sending.{IsNew, IsAgain}
use Rattle.law_parallel.specs.Puts.{LaneFrame, allocation_of, item_sent, answered_by, is_new}
use Rattle.world_state.specs.Passed.{IsRunning, offset_of, length_of, frame_of}
use Rattle.par_lanes.specs.declared.emitted.Emitted.{Emitted}
use Rattle.par_lanes.specs.Calls.{IsOf}
use Rattle.par_frames.proofs.Sizes.{frame_size}

-- The record of a frame has its offset, its length and its octets, whatever the wire answered.

sent_from : (offset n : ℕ) (room : FrameOctets) (answer : Result ℕ WireFailed) → offset_of (sent offset n room answer) ≡ offset
sent_from offset n room (Ok k) = refl
sent_from offset n room (Err e) = refl

sent_long : (offset n : ℕ) (room : FrameOctets) (answer : Result ℕ WireFailed) → length_of (sent offset n room answer) ≡ n
sent_long offset n room (Ok k) = refl
sent_long offset n room (Err e) = refl

sent_room : (offset n : ℕ) (room : FrameOctets) (answer : Result ℕ WireFailed) → frame_of (sent offset n room answer) ≡ room
sent_room offset n room (Ok k) = refl
sent_room offset n room (Err e) = refl

module _ (net : Network) (w : World) (l : Lane) where
  abbrev pub octets : LaneFrame → List ℕ
  octets f = frame_octets net w l (Some (allocation_of f))

  pub record Agrees (f : LaneFrame) (out : Emitted) : Type 0 where
    pub lane : out.lane ≡ l
    pub line : out.line ≡ f.place
    pub offset : offset_of out.sent ≡ f.offset
    pub name : out.name ≡ item_name (item_sent f.emission)
    pub ack_of : out.ack_of ≡ answered_by f.emission
    pub fresh : out.fresh ≡ is_new f.emission
    pub size : out.size ≡ need w.durable.facts (item_sent f.emission) - 8
    pub long : length_of out.sent ≡ length (octets f)
    pub room : frame_of out.sent ≡ room_octets (octets f)

  module _ (running : IsRunning net w) where
    -- ---- a new order's frame

    needed : (o : Order) → payload w.durable.facts (item_in o.payload) ≡ Some o.payload → need w.durable.facts (item_in o.payload) ≡ payload_len o.payload + 8
    needed o spelled = ap (λ (p : Option Payload). len_or_zero p + 8) spelled

    pub order_framed : (o : Order) (start : ℕ) → payload w.durable.facts (item_in o.payload) ≡ Some o.payload →
        frame_octets net w l (Some (record { offset = start; item = item_in o.payload })) ≡ spell l start (octets_sent net w l) (payload_octets o.payload)
    order_framed o start spelled = ap (sealed net w l start) spelled ∙ ap (λ (f : Sealing). f.seal l (octets_sent net w l) start o.payload) running.sealing

    pub order_agrees : (o : Order) (start number : ℕ) (out : Emitted) → IsOf out.line (New o) out → o.lane ≡ l → IsNew net w (sender net.site l) o →
        out.sent ≡ sent_frame start (spell l start (octets_sent net w l) (payload_octets o.payload)) (answer_of out.sent) →
        Agrees (record { place = out.line; emission = New o; number = number; offset = start }) out
    order_agrees o start number out of here new says =
        let frame : List ℕ = spell l start (octets_sent net w l) (payload_octets o.payload) in
        let is = order_framed o start new.spelled in
        record {
          lane = of.lane ∙ here;
          line = refl;
          offset = ap offset_of says ∙ sent_from start (length frame) (room_octets frame) (answer_of out.sent);
          name = of.name;
          ack_of = of.ack_of;
          fresh = of.fresh;
          size = let n = needed o new.spelled in let s = of.size in omega (arith, n, s);
          long = ap length_of says ∙ sent_long start (length frame) (room_octets frame) (answer_of out.sent) ∙ ap length (sym is);
          room = ap frame_of says ∙ sent_room start (length frame) (room_octets frame) (answer_of out.sent) ∙ ap room_octets (sym is);
        }

    -- ---- a repeated frame

    module _ (r : Repeat) (here : r.lane ≡ l) (again : IsAgain net w (sender net.site l) r) where
      abbrev pub there : Allocation
      there = record { offset = r.offset; item = item_of r.ack_of r.name }

      pub on : again.entry.transmission.lane ≡ l
      on = sym (ap (λ (q : Repeat). q.lane) again.is) ∙ here

      its : there ≡ record { offset = again.entry.offset; item = again.entry.transmission.item }
      its =
          ap (λ (q : Repeat). record { offset = q.offset; item = item_of q.ack_of q.name }) again.is
          ∙ ap (λ (i : Item). record { offset = again.entry.offset; item = i }) (sym again.sent.shaped)

      pub repeat_frame : frame_octets net w l (Some there) ≡ again.entry.frame
      repeat_frame =
          ap (λ (a : Allocation). frame_octets net w l (Some a)) its
          ∙ ap (λ (k : Lane). frame_octets net w k (Some (record { offset = again.entry.offset; item = again.entry.transmission.item }))) (sym on) ∙ sym again.sent.octets

      pub stands_there : slice_get (w.frames l) again.sent.number ≡ Some there
      stands_there = ap (λ (k : Lane). slice_get (w.frames k) again.sent.number) (sym on) ∙ again.sent.frame ∙ ap (λ (a : Allocation). Some a) (sym its)

      declared : is_lane net.site l ≡ true
      declared = ap (is_lane net.site) (sym on) ∙ again.sent.site

      repeat_size : r.length - 24 ≡ need w.durable.facts there.item - 8
      repeat_size =
          ap (λ (q : Repeat). q.length - 24) again.is ∙ ap (λ (f : List ℕ). length f - 24) (sym repeat_frame)
          ∙ sym (frame_size net w running l declared again.sent.number there stands_there).more

      pub repeat_agrees : (number : ℕ) (out : Emitted) → IsOf out.line (Again r) out → out.sent ≡ sent r.offset r.length r.frame (answer_of out.sent) →
          Agrees (record { place = out.line; emission = Again r; number = number; offset = r.offset }) out
      repeat_agrees number out of says = record {
        lane = of.lane ∙ here;
        line = refl;
        offset = ap offset_of says ∙ sent_from r.offset r.length r.frame (answer_of out.sent);
        name = of.name ∙ name_kept r.ack_of r.name;
        ack_of = of.ack_of;
        fresh = of.fresh;
        size = of.size ∙ repeat_size;
        long = ap length_of says ∙ sent_long r.offset r.length r.frame (answer_of out.sent) ∙ ap (λ (q : Repeat). q.length) again.is ∙ ap length (sym repeat_frame);
        room = ap frame_of says ∙ sent_room r.offset r.length r.frame (answer_of out.sent) ∙ ap (λ (q : Repeat). q.frame) again.is ∙ ap room_octets (sym repeat_frame);
      }
        where
          name_kept : (ack : Option ℕ) (n : _) → n ≡ item_name (item_of ack n)
          name_kept None n = refl
          name_kept (Some k) n = refl
