-- A frame of a lane's wire comes to the lane's receiver.
use Rattle.std.proofs.Common.{◌≡◌, ℕ, ◌+◌, ◌<◌, ◌≤◌, Bool, true, false, not, List, refl, sym, ap, subst, ◌∙◌, arith}
use Rattle.std.specs.Prelude.{◌==◌, nat_lt, slice_get, Option, Some, if◌then◌else◌}
use Rattle.std.specs.List.{list_all}
use Rattle.std.proofs.lemmas.Bool.Decides.{nat_tests}
use Rattle.qkd_base.specs.Lane.{reverse_way}
use Rattle.qkd_base.specs.LaneBytes.{lane_octets}
use Rattle.qkd_base.specs.declared.lane.Way.{Way}
use Rattle.qkd_base.specs.declared.lane.Way.TheVariants.{Up, Down}
use Rattle.qkd_base.specs.declared.lane.Lane.{Lane}
use Rattle.net_model.specs.declared.event.Event.TheVariants.{Heard}
use Rattle.net_model.specs.declared.payload.Payload.{Payload}
use Rattle.net_model.specs.declared.payload.Payload.TheVariants.{Data, Ack}
use Rattle.net_model.specs.declared.reply.Reply.TheVariants as replies
use Rattle.net_model.specs.Item.{Item, DataItem, AckItem, need, payload}
use Rattle.net_model.specs.OctetSequence.{first_blocks}
use Rattle.net_model.specs.Sealing.{Opened, Opens, Rejected}
use Rattle.net_model.specs.Site.{of_way, sender, receiver, lane_of, outgoing_lane, is_incident}
use Rattle.net_model.specs.World.{Network, World, Allocation, received_there}
use Rattle.net_model.specs.View.{View, port_of, incoming_octets}
use Rattle.net_model.specs.Needed.{view_of}
use Rattle.net_model.specs.Knowledge.{MayCarry}
use Rattle.net_model.specs.Relay.{receive}
use Rattle.net_model.specs.Decision.{Does, Effect}
use Rattle.net_model.specs.Decide.{decide, random_need, received_frame}
use Rattle.net_model.specs.Events.{is_lane}
use Rattle.net_model.specs.Fold.{view_after}
use Rattle.net_model.specs.Frames.{frame_octets, octets_received, receive_item, deliver_frame, deliver_number, deliver}
use Rattle.net_model.specs.Handle.{is_numbered, commit, perform, resolve, handle}
use Rattle.net_model.specs.Action.{Environment, Outcome, Replies}
use Rattle.net_model.specs.Premises.{IsLink}
use Rattle.law_base.proofs.Base.{eq_same, or_left, or_right}
use Rattle.law_safety.proofs.Opening.{opened, too_few}
use Rattle.law_recovery.specs.Fitting.{AllFit}
use Rattle.law_recovery.proofs.Arriving.{receive_goes, receiving_fits}
use Rattle.world_nodes.specs.LaneStands.{IsRunning}
use Rattle.world_nodes.proofs.LaneGoing.{get_within}
use Rattle.world_nodes.specs.Handled.{BatchFits, ViewGoesOn}
use Rattle.world_nodes.proofs.Ports.{port_there}

module _ (net : Network) (w : World) (r : IsRunning net w) (l : Lane) (at : is_lane net.site l ≡ true) where
  abbrev v : ℕ
  v = receiver net.site l

  abbrev see : View
  see = view_of net w v

  below : l.link < net.site.links
  below = grind (arith, nat_tests)

  ends : IsLink net.site l.link
  ends = r.network.site.ends l.link below

  apart : (net.site.low l.link == net.site.high l.link) ≡ false
  apart = let rising = ends.order in grind (arith, nat_tests)

  joins_by : (way : Way) → is_incident net.site (of_way way (net.site.high l.link) (net.site.low l.link)) l.link ≡ true
  joins_by Up = or_right (net.site.low l.link == net.site.high l.link) (net.site.high l.link == net.site.high l.link) (eq_same (net.site.high l.link))
  joins_by Down = or_left (net.site.low l.link == net.site.low l.link) (net.site.high l.link == net.site.low l.link) (eq_same (net.site.low l.link))

  comes_by : (way : Way) → outgoing_lane net.site (of_way way (net.site.high l.link) (net.site.low l.link)) l.link ≡ lane_of l.link (reverse_way way)
  comes_by Up = ap (λ (t : Bool). lane_of l.link (if t then Up else Down)) apart
  comes_by Down = ap (λ (t : Bool). lane_of l.link (if t then Up else Down)) (eq_same (net.site.low l.link))

  -- The lane's bytes in the receiver's view are those that it received.
  pub received : incoming_octets l (port_of see l.link) ≡ octets_received net w l
  received =
      ap (incoming_octets l) (port_there net w v l.link (joins_by l.way) below)
      ∙ ap (λ (m : Lane). lane_octets l.way (first_blocks (net.device l.link) (w.durable.blocks m))) (comes_by l.way)

  -- The fact that a frame carries is known.
  item_there : (i : Item) → MayCarry w.durable.facts w.durable.known (sender net.site l) v i → (p : Payload) × (payload w.durable.facts i ≡ Some p)
  item_there (DataItem n) m = (Data m.fact, rw (m.there) refl)
  item_there (AckItem n) m = (Ack n, refl)

  pub frame_there : (number frame : ℕ) → slice_get (w.wire l) number ≡ Some frame → (a : Allocation) × (slice_get (w.frames l) frame ≡ Some a)
  frame_there number frame there = get_within (w.frames l) frame ((r.conserved.wired l).wired number frame there)

  pub payload_there : (frame : ℕ) (a : Allocation) → slice_get (w.frames l) frame ≡ Some a → (p : Payload) × (payload w.durable.facts a.item ≡ Some p)
  payload_there frame a framed = item_there a.item ((r.conserved.now.carried l).framed frame a framed)

  module _ (frame : ℕ) (a : Allocation) (framed : slice_get (w.frames l) frame ≡ Some a) (p : Payload) (is : payload w.durable.facts a.item ≡ Some p) where
    abbrev have : ℕ
    have = received_there w.durable l

    abbrev end : ℕ
    end = a.offset + need w.durable.facts a.item

    abbrev opening : Bool → Opened
    opening few = if few then Rejected (replies.NoBits have) else Opens a.offset p

    abbrev outcome : Environment → Bool → Bool → World × Outcome
    outcome environment up few =
        if not up then (w, Replies replies.Down) else if few then (w, Replies (replies.NoBits have)) else perform net w v 0 environment (receive net.site see l a.offset p)

    opens_as : (t : Bool) → nat_lt have end ≡ t → net.sealing.unseal l (octets_received net w l) (frame_octets net w l (Some a)) ≡ opening t
    opens_as true few = let less : have < end = grind (arith, nat_tests) in too_few net w r.network r.conserved l at frame a p framed is less
    opens_as false few = let enough : end ≤ have = grind (arith, nat_tests) in opened net w r.network r.conserved l at frame a p framed is enough

    -- The network delivers the frame.
    delivers : (environment : Environment) → deliver_frame net w l environment (Some a) ≡ outcome environment (w.up v) (nat_lt have end)
    unfolding deliver_frame
    delivers environment =
        ap (λ (o : Option Payload). if not (w.up v) then (w, Replies replies.Down) else if nat_lt have end then (w, Replies (replies.NoBits have)) else receive_item net w l a.offset environment o) is

    -- The receiver hears the frame's octets.
    module _ (octets : List ℕ) (are : octets ≡ frame_octets net w l (Some a)) where
      unsealed : net.sealing.unseal l (incoming_octets l (port_of see l.link)) octets ≡ opening (nat_lt have end)
      unsealed = (λ i. net.sealing.unseal l (received i) (are i)) ∙ opens_as (nat_lt have end) refl

      by : (environment : Environment) (up few : Bool) → (if up then resolve net w v 0 environment (received_frame net.site see l (opening few)) else (w, Replies replies.Down)) ≡ outcome environment up few
      by environment false few = refl
      by environment true true = refl
      by environment true false = refl

      hears : (environment : Environment) → handle net w v (Heard l octets) environment ≡ outcome environment (w.up v) (nat_lt have end)
      unfolding handle decide random_need
      hears environment =
          ap (λ (o : Opened). if w.up v then resolve net w v 0 environment (received_frame net.site see l o) else (w, Replies replies.Down)) unsealed ∙ by environment (w.up v) (nat_lt have end)

      pub delivered_heard : (environment : Environment) → deliver_frame net w l environment (Some a) ≡ handle net w v (Heard l octets) environment
      delivered_heard environment = delivers environment ∙ sym (hears environment)

      effect_is : (few : Bool) (e : Effect) → received_frame net.site see l (opening few) ≡ Does e → receive net.site see l a.offset p ≡ e
      effect_is true e h = absurd (cc h)
      effect_is false e h = cc

      -- The receiver's view changes by just the effect.
      pub hearing_goes : ViewGoesOn net w v (Heard l octets)
      unfolding decide
      hearing_goes octets' e decides numbered =
          let same : receive net.site see l a.offset p ≡ e = effect_is (nat_lt have end) e (ap (received_frame net.site see l) (sym unsealed) ∙ decides) in
          subst (λ (x : Effect). view_of net (commit net.site w v octets' x) v ≡ view_after see x) same
          (receive_goes net w l frame a.offset octets' a p r.conserved framed is (ap (λ (x : Effect). list_all is_numbered x.batch) same ∙ numbered))

      pub hearing_fits : BatchFits net w v (Heard l octets)
      unfolding decide
      hearing_fits e decides =
          let same : receive net.site see l a.offset p ≡ e = effect_is (nat_lt have end) e (ap (received_frame net.site see l) (sym unsealed) ∙ decides) in
          subst (λ (x : Effect). AllFit net see x.batch) same (receiving_fits net see l a.offset p)

  -- the frame with this number
  pub delivers_number : (number frame : ℕ) → slice_get (w.wire l) number ≡ Some frame → (environment : Environment) → deliver net w l number environment ≡ deliver_frame net w l environment (slice_get (w.frames l) frame)
  unfolding deliver
  delivers_number number frame there environment = ap (deliver_number net w l environment) there
