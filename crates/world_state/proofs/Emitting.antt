-- The next order of a plan is put: the actions in the network, and their part of the script.
use Rattle.std.proofs.Common.{◌≡◌, ℕ, ◌-◌, true, false, ◌&&◌, List, [], ◌∷◌, ◌++◌, length, length-append, refl, sym, ap, subst, ◌∙◌, arith, Some, Result, Ok, Err}
use Rattle.std.specs.Prelude.{slice_get, IsErrOf}
use Rattle.qkd_base.specs.Faults.{Rose}
use Rattle.qkd_base.specs.Family.{number_set}
use Rattle.qkd_base.specs.declared.lane.Lane.{Lane}
use Rattle.net_model.specs.Facts.{payload_len}
use Rattle.net_model.specs.declared.order.Order.{Order}
use Rattle.net_model.specs.declared.placing.Placing.{Placing}
use Rattle.net_model.specs.World.{Network, World, Allocation}
use Rattle.net_model.specs.Site.{sender}
use Rattle.net_model.specs.Events.{is_frame_size}
use Rattle.net_model.specs.Frames.{allocate}
use Rattle.net_model.specs.Tick.{Emission, New, item_in, ordered}
use Rattle.net_model.specs.Action.{Environment, Action, Allocate, Transmit, Outcome, Allocated, Ok as Fine}
use Rattle.net_model.specs.Step.{step, is_step, IsStep, run, is_run, outcomes}
use Rattle.run_types.specs.declared.item.Item.{Item}
use Rattle.source_devices.specs.declared.wire.WireFailed.{WireFailed}
use Rattle.source_devices.specs.declared.wire.WireFailed.TheVariants.{Fault, Memory}
use Rattle.lane_sender.specs.Lane.{LaneForm}
use Rattle.lane_sender.specs.declared.sent.Sent.{Sent}
use Rattle.lane_sender.specs.Sending.{answer_of}
use Rattle.law_base.proofs.Base.{and_left, and_right, number_set_same}
use Rattle.law_base.proofs.Lists.{lane_set_same}
use Rattle.law_locality.proofs.ManagerSteps.{claim_unseen, transmit_unseen}
use Rattle.law_locality.specs.Sending.{Sends, IsNew}
use Rattle.law_locality.proofs.Orders.{order_enabled, order_goes}
use Rattle.run_model.specs.Outcomes.{put_items}
use Rattle.run_model.specs.Script.{Script, Reports, Looks, Asks}
use Rattle.run_model.specs.Play.{numbered, reporting, play, IsPlay, is_forged}
use Rattle.run_model.specs.Lines.{offset_in, emitted}
use Rattle.world_nodes.specs.LaneStands.{LaneStands}
use Rattle.world_nodes.specs.Emitting.{wire_answer, wire_outcome, offset_of, order_placing, MayEmit, Emitted}
use Rattle.world_state.specs.Stands.{Stands, place_of}
use Rattle.world_state.specs.Sending.{Sending, Puts, PutsOn, Breaks}
use Rattle.world_state.specs.declared.state.State.{State}
use Rattle.world_state.proofs.OneSide.{OneSide}
use Rattle.world_state.proofs.OtherLanes.{others_of, others_claimed, others_put, stands_with}
use Rattle.world_state.proofs.Plays.{asks_is, asks_said}
use Rattle.world_state.proofs.Sized.{put_sized, all_sized}
use Rattle.world_state.proofs.StateGoesOn.{enabled_of}
use Rattle.world_state.proofs.Tallying.{emitted_tallied}
use Rattle.world_state.proofs.Disks.{has_disks}
use Rattle.world_state.proofs.Sendings.{puts_ends}
use Rattle.world_state.specs.Outside.{Outside}

-- The answer of a wire is never a forged match.
pub open_answer : (answer : Result ℕ WireFailed) → is_forged (wire_outcome answer) ≡ false
open_answer (Ok n) = refl
open_answer (Err Fault) = refl
open_answer (Err Memory) = refl

first_same : {x y a b : Outcome} → ◌≡◌ {A = List Outcome} (x ∷ y ∷ []) (a ∷ b ∷ []) → x ≡ a
first_same h = cc

second_same : {x y a b : Outcome} → ◌≡◌ {A = List Outcome} (x ∷ y ∷ []) (a ∷ b ∷ []) → y ≡ b
second_same h = cc

one_less : (xs : List Allocation) (a : Allocation) → length (xs ++ a ∷ []) - 1 ≡ length xs
one_less xs a = omega (arith, length-append xs (a ∷ []))

module _ {K Q E X : Type 0} (outside : Outside K Q E X) (net : Network) (w : World) (v : ℕ) (order : Order) (es : List Emission) (old : State K Q E X) (placings : List Placing)
    (sending : Sending outside old net w v (New order ∷ es) placings) where
  abbrev l : Lane
  l = order.lane

  pub next : IsNew net w v order
  next = sending.sends.each.0

  pub may_emit : (side : LaneForm X) → slice_get old.lanes.items (place_of l) ≡ Some side → (lease : ℕ) → lease ≡ w.durable.lease l → MayEmit outside.wire net w side lease order
  may_emit side there lease leased = record {
    running = sending.stands.running;
    stands = sending.stands.lanes l side next.site there;
    enabled = order_enabled net w v order es sending.sends;
    spelled = next.spelled;
    leased = leased;
  }

  module _
      (new : State K Q E X) (before now : LaneForm X) (one : OneSide old new l before now) (s : Sent) (e : Emitted outside.wire net w now order s)
      (cause : IsErrOf (answer_of s) Fault → Rose (outside.wire.faults before.wire) (outside.wire.faults now.wire)) (calm : (IsErrOf (answer_of s) Fault → ⊥) → outside.wire.faults now.wire ≡ outside.wire.faults before.wire) where
    abbrev environment : Environment
    environment = wire_answer (answer_of s)

    abbrev first : Action
    first = Allocate (ordered order)

    abbrev second : Action
    second = Transmit l (length (w.frames l)) environment

    abbrev w₁ : World
    w₁ = (step net w first).0

    abbrev w₂ : World
    w₂ = (step net w₁ second).0

    run_is : run net w (first ∷ second ∷ []) ≡ w₂
    unfolding run
    run_is = refl

    may_first : IsStep net w first
    unfolding is_run
    may_first = and_left (is_step net w first) (is_step net w₁ second && true) e.may

    may_second : IsStep net w₁ second
    unfolding is_run
    may_second = and_left (is_step net w₁ second) true (and_right (is_step net w first) (is_step net w₁ second && true) e.may)

    both_said : ◌≡◌ {A = List Outcome} ((step net w first).1 ∷ (step net w₁ second).1 ∷ []) (Allocated (offset_of s) ∷ wire_outcome (answer_of s) ∷ [])
    unfolding outcomes
    both_said = e.said

    said_first : (step net w first).1 ≡ Allocated (offset_of s)
    said_first = first_same both_said

    said_second : (step net w₁ second).1 ≡ wire_outcome (answer_of s)
    said_second = second_same both_said

    stands_after : Stands outside new net w₂
    stands_after =
        stands_with outside old net l w w₂ new before now one sending.stands
        (others_put outside old net l w₁ (length (w.frames l)) environment may_second
        (others_claimed outside old net l w (ordered order) refl may_first
        (others_of outside old net l w sending.stands)))
        (subst (λ (x : World). LaneStands outside.wire net x l now) run_is e.stands)

    abbrev p : Placing
    p = order_placing order s

    placed_after : w₂.placings v ≡ placings ++ p ∷ []
    placed_after =
        ap (λ (x : World). x.placings v) (sym run_is) ∙ ap (λ (f : ℕ → List Placing). f v) e.placed
        ∙ ap (λ (u : ℕ). number_set w.placings u (w.placings u ++ p ∷ []) v) next.lane ∙ number_set_same w.placings v (w.placings v ++ p ∷ [])
        ∙ ap (λ (ps : List Placing). ps ++ p ∷ []) (sym sending.placed)

    claimed_placings : w₁.placings ≡ w.placings
    unfolding step allocate
    claimed_placings = refl

    sized_after : is_frame_size p.length ≡ true
    sized_after =
        put_sized net w₁ l (length (w.frames l)) environment w₂ refl stands_after.running (enabled_of net w₁ second may_second) p placings
        (sending.placed ∙ ap (λ (u : ℕ). w.placings u) (sym next.lane) ∙ ap (λ (f : ℕ → List Placing). f (sender net.site l)) (sym claimed_placings))
        (ap w₂.placings next.lane ∙ placed_after)

    sending_after : Sending outside new net w₂ v es (placings ++ p ∷ [])
    sending_after = record {
      stands = stands_after;
      sends = subst (λ (x : World). Sends net x v es) run_is (order_goes net w v order es sending.sends environment sending.stands.running.network sending.stands.running.conserved);
      up = (transmit_unseen net w₁ v l (length (w.frames l)) environment).up ∙ (claim_unseen net w v (ordered order) (enabled_of net w first may_first)).manager.up ∙ sending.up;
      placed = sym placed_after;
      sized = all_sized placings p sending.sized sized_after;
    }

    -- the order's part of the script

    next_frame : length (w₁.frames l) - 1 ≡ length (w.frames l)
    unfolding step allocate
    next_frame =
        ap (λ (fs : List Allocation). length fs - 1) (lane_set_same w.frames l (w.frames l ++ record { offset = length (w.durable.own l); item = item_in order.payload } ∷ []))
        ∙ one_less (w.frames l) (record { offset = length (w.durable.own l); item = item_in order.payload })

    -- the script after the order was claimed, and after its frame was put

    abbrev put_next : Outcome → Outcome → Script
    put_next claimed out = Reports (put_items l (offset_in claimed) (payload_len order.payload) out) (emitted v es)

    abbrev claimed_next : Outcome → Script
    claimed_next claimed = Looks (λ x. Asks (Transmit l (length (x.frames l) - 1) Fine) (put_next claimed))

    played : (rest : List Action) → IsPlay net w₂ (emitted v es) rest → IsPlay net w (emitted v (New order ∷ es)) (first ∷ second ∷ rest)
    unfolding emitted
    played rest h =
        asks_is net w first claimed_next first (second ∷ rest) (ap is_forged said_first) refl may_first
        (asks_is net w₁ (Transmit l (length (w₁.frames l) - 1) Fine) (put_next (step net w first).1) second rest (ap is_forged said_second ∙ open_answer (answer_of s)) (ap (λ (n : ℕ). Transmit l n Fine) (sym next_frame)) may_second h)

    items_said : put_items l (offset_in (step net w first).1) (payload_len order.payload) (step net w₁ second).1 ≡ put_items l (offset_of s) (payload_len order.payload) (wire_outcome (answer_of s))
    items_said = λ i. put_items l (offset_in (said_first i)) (payload_len order.payload) (said_second i)

    played_as : (number : ℕ) (rest : List Action) → play net number w (emitted v (New order ∷ es)) (first ∷ second ∷ rest) ≡
        reporting (numbered number (put_items l (offset_of s) (payload_len order.payload) (wire_outcome (answer_of s)))) (play net number w₂ (emitted v es) rest)
    unfolding emitted play
    played_as number rest =
        asks_said net w first claimed_next first (second ∷ rest) (ap is_forged said_first) number
        ∙ asks_said net w₁ (Transmit l (length (w₁.frames l) - 1) Fine) (put_next (step net w first).1) second rest (ap is_forged said_second ∙ open_answer (answer_of s)) number
        ∙ ap (λ (xs : List Item). reporting (numbered number xs) (play net number w₂ (emitted v es) rest)) items_said

    pub order_puts : (item : Item) → item ∷ [] ≡ put_items l (offset_of s) (payload_len order.payload) (wire_outcome (answer_of s)) →
        Puts outside old new net w v (New order ∷ es) es (item ∷ []) (placings ++ p ∷ [])
    order_puts item is = record {
      actions = first ∷ second ∷ [];
      after = w₂;
      is = played;
      said = λ number rest. played_as number rest ∙ ap (λ (xs : List Item). reporting (numbered number xs) (play net number w₂ (emitted v es) rest)) (sym is);
      sending = sending_after;
      tallied = emitted_tallied outside net.site old new l before now one
          (has_disks outside old net w sending.stands) (length (w.frames l)) (answer_of s) cause calm (ordered order);
    }

    module _ (item : Item) (offset size : ℕ) (out : Outcome) (is : item ∷ [] ≡ put_items l offset size out) (from : offset ≡ offset_of s) (long : size ≡ payload_len order.payload)
        (said : out ≡ wire_outcome (answer_of s)) where
      reported_is : item ∷ [] ≡ put_items l (offset_of s) (payload_len order.payload) (wire_outcome (answer_of s))
      reported_is = is ∙ λ i. put_items l (from i) (long i) (said i)

      pub order_puts_on : (placing : Placing) → placing ≡ p → (items items' : List Item) (placings' : List Placing) → items' ≡ items ++ item ∷ [] → placings' ≡ placings ++ placing ∷ [] →
          PutsOn outside old new net w v (New order ∷ es) es items items' placings'
      order_puts_on placing same items items' placings' more noted = record {
        reported = item ∷ [];
        items = more;
        puts = subst (λ (ps : List Placing). Puts outside old new net w v (New order ∷ es) es (item ∷ []) ps)
            (sym (noted ∙ ap (λ (x : Placing). placings ++ x ∷ []) same)) (order_puts item reported_is);
      }

      pub order_breaks : Breaks outside old new net w v (New order ∷ es)
      order_breaks =
          puts_ends outside old new new net w v (New order ∷ es) es (item ∷ []) (placings ++ p ∷ [])
          (order_puts item reported_is)
