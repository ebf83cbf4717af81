-- The next repeat of a plan is put: the action in the network, and its part of the script.
use Rattle.std.proofs.Common.{◌≡◌, ℕ, ◌-◌, true, List, [], ◌∷◌, ◌++◌, refl, sym, ap, subst, ◌∙◌, Some}
use Rattle.std.specs.Prelude.{slice_get, IsErrOf}
use Rattle.qkd_base.specs.Faults.{Rose}
use Rattle.qkd_base.specs.Family.{number_set}
use Rattle.qkd_base.specs.declared.lane.Lane.{Lane}
use Rattle.net_model.specs.declared.repeat.Repeat.{Repeat}
use Rattle.net_model.specs.declared.placing.Placing.{Placing}
use Rattle.net_model.specs.World.{Network, World}
use Rattle.net_model.specs.Site.{sender}
use Rattle.net_model.specs.Events.{is_lane, is_frame_size}
use Rattle.net_model.specs.Handle.{frame_at}
use Rattle.net_model.specs.Tick.{Emission, Again}
use Rattle.net_model.specs.Action.{Environment, Action, Transmit, Outcome, Ok as Fine}
use Rattle.net_model.specs.Step.{step}
use Rattle.run_types.specs.declared.item.Item.{Item}
use Rattle.source_devices.specs.declared.wire.WireFailed.TheVariants.{Fault}
use Rattle.lane_sender.specs.Lane.{LaneForm}
use Rattle.lane_sender.specs.declared.sent.Sent.{Sent}
use Rattle.lane_sender.specs.Sending.{answer_of}
use Rattle.law_base.proofs.Base.{number_set_same}
use Rattle.law_locality.proofs.ManagerSteps.{transmit_unseen}
use Rattle.law_locality.specs.Sending.{IsAgain, MayGoAgain}
use Rattle.law_locality.proofs.TickRepeats.{may_go_again, again_goes}
use Rattle.run_model.specs.Outcomes.{put_items}
use Rattle.run_model.specs.Script.{Script, Reports}
use Rattle.run_model.specs.Play.{numbered, reporting, play, IsPlay, is_forged}
use Rattle.run_model.specs.Lines.{emitted}
use Rattle.world_nodes.specs.Emitting.{wire_answer, wire_outcome, repeat_placing, MayRepeat, Repeated}
use Rattle.world_state.specs.Stands.{Stands, place_of}
use Rattle.world_state.specs.Sending.{Sending, Puts, PutsOn, Breaks}
use Rattle.world_state.specs.declared.state.State.{State}
use Rattle.world_state.proofs.OneSide.{OneSide}
use Rattle.world_state.proofs.OtherLanes.{others_of, others_put, stands_with}
use Rattle.world_state.proofs.Plays.{asks_is, asks_said}
use Rattle.world_state.proofs.Sized.{put_sized, all_sized}
use Rattle.world_state.proofs.StateGoesOn.{enabled_of}
use Rattle.world_state.proofs.Tallying.{put_tallied}
use Rattle.world_state.proofs.Disks.{has_disks}
use Rattle.world_state.proofs.Emitting.{open_answer}
use Rattle.world_state.proofs.Sendings.{puts_ends}
use Rattle.world_state.specs.Outside.{Outside}

module _ {K Q E X : Type 0} (outside : Outside K Q E X) (net : Network) (w : World) (v : ℕ) (repeat : Repeat) (es : List Emission) (old : State K Q E X) (placings : List Placing)
    (sending : Sending outside old net w v (Again repeat ∷ es) placings) where
  abbrev l : Lane
  l = repeat.lane

  again : IsAgain net w v repeat
  again = sending.sends.each.0

  pub lane_there : is_lane net.site l ≡ true
  lane_there = ap (λ (x : Repeat). is_lane net.site x.lane) again.is ∙ again.sent.site

  pub lane_from : sender net.site l ≡ v
  lane_from = ap (λ (x : Repeat). sender net.site x.lane) again.is ∙ again.sent.lane

  pub may_repeat : (side : LaneForm X) → slice_get old.lanes.items (place_of l) ≡ Some side → MayRepeat outside.wire net w side repeat
  may_repeat side there =
      let may : MayGoAgain net w repeat = may_go_again net w v repeat es sending.sends in
      record {
        running = sending.stands.running;
        stands = sending.stands.lanes l side lane_there there;
        entry = may.entry;
        is = may.is;
        sent = may.sent;
        outgoing = may.outgoing;
      }

  module _
      (new : State K Q E X) (before now : LaneForm X) (one : OneSide old new l before now) (s : Sent) (e : Repeated outside.wire net w now repeat s)
      (cause : IsErrOf (answer_of s) Fault → Rose (outside.wire.faults before.wire) (outside.wire.faults now.wire)) (calm : (IsErrOf (answer_of s) Fault → ⊥) → outside.wire.faults now.wire ≡ outside.wire.faults before.wire) where
    abbrev environment : Environment
    environment = wire_answer (answer_of s)

    abbrev j : ℕ
    j = frame_at (w.frames l) repeat.offset

    abbrev action : Action
    action = Transmit l j environment

    abbrev after : World
    after = (step net w action).0

    stands_after : Stands outside new net after
    stands_after =
        stands_with outside old net l w after new before now one sending.stands
        (others_put outside old net l w j environment e.may (others_of outside old net l w sending.stands)) e.stands

    abbrev p : Placing
    p = repeat_placing repeat s

    placed_after : after.placings v ≡ placings ++ p ∷ []
    placed_after =
        ap (λ (f : ℕ → List Placing). f v) e.placed
        ∙ ap (λ (u : ℕ). number_set w.placings u (w.placings u ++ p ∷ []) v) lane_from ∙ number_set_same w.placings v (w.placings v ++ p ∷ [])
        ∙ ap (λ (ps : List Placing). ps ++ p ∷ []) (sym sending.placed)

    sized_after : is_frame_size p.length ≡ true
    sized_after =
        put_sized net w l j environment after refl stands_after.running (enabled_of net w action e.may) p placings
        (sending.placed ∙ ap (λ (u : ℕ). w.placings u) (sym lane_from)) (ap after.placings lane_from ∙ placed_after)

    sending_after : Sending outside new net after v es (placings ++ p ∷ [])
    sending_after = record {
      stands = stands_after;
      sends = again_goes net w v repeat es sending.sends environment sending.stands.running.network sending.stands.running.conserved;
      up = (transmit_unseen net w v l j environment).up ∙ sending.up;
      placed = sym placed_after;
      sized = all_sized placings p sending.sized sized_after;
    }

    -- the repeat's part of the script

    abbrev put_next : Outcome → Script
    put_next out = Reports (put_items l repeat.offset (repeat.length - 24) out) (emitted v es)

    played : (rest : List Action) → IsPlay net after (emitted v es) rest → IsPlay net w (emitted v (Again repeat ∷ es)) (action ∷ rest)
    unfolding emitted
    played rest h = asks_is net w (Transmit l j Fine) put_next action rest (ap is_forged e.said ∙ open_answer (answer_of s)) refl e.may h

    played_as : (number : ℕ) (rest : List Action) → play net number w (emitted v (Again repeat ∷ es)) (action ∷ rest) ≡
        reporting (numbered number (put_items l repeat.offset (repeat.length - 24) (wire_outcome (answer_of s)))) (play net number after (emitted v es) rest)
    unfolding emitted play
    played_as number rest =
        asks_said net w (Transmit l j Fine) put_next action rest (ap is_forged e.said ∙ open_answer (answer_of s)) number
        ∙ ap (λ (x : Outcome). reporting (numbered number (put_items l repeat.offset (repeat.length - 24) x)) (play net number after (emitted v es) rest)) e.said

    pub repeat_puts : (item : Item) → item ∷ [] ≡ put_items l repeat.offset (repeat.length - 24) (wire_outcome (answer_of s)) →
        Puts outside old new net w v (Again repeat ∷ es) es (item ∷ []) (placings ++ p ∷ [])
    repeat_puts item is = record {
      actions = action ∷ [];
      after = after;
      is = played;
      said = λ number rest. played_as number rest ∙ ap (λ (xs : List Item). reporting (numbered number xs) (play net number after (emitted v es) rest)) (sym is);
      sending = sending_after;
      tallied = put_tallied outside net.site old new l before now one
          (has_disks outside old net w sending.stands) j (answer_of s) cause calm;
    }

    module _ (item : Item) (size : ℕ) (out : Outcome) (is : item ∷ [] ≡ put_items l repeat.offset size out) (long : size ≡ repeat.length - 24) (said : out ≡ wire_outcome (answer_of s)) where
      reported_is : item ∷ [] ≡ put_items l repeat.offset (repeat.length - 24) (wire_outcome (answer_of s))
      reported_is = is ∙ λ i. put_items l repeat.offset (long i) (said i)

      pub repeat_puts_on : (placing : Placing) → placing ≡ p → (items items' : List Item) (placings' : List Placing) → items' ≡ items ++ item ∷ [] → placings' ≡ placings ++ placing ∷ [] →
          PutsOn outside old new net w v (Again repeat ∷ es) es items items' placings'
      repeat_puts_on placing same items items' placings' more noted = record {
        reported = item ∷ [];
        items = more;
        puts = subst (λ (ps : List Placing). Puts outside old new net w v (Again repeat ∷ es) es (item ∷ []) ps)
            (sym (noted ∙ ap (λ (x : Placing). placings ++ x ∷ []) same)) (repeat_puts item reported_is);
      }

      pub repeat_breaks : Breaks outside old new net w v (Again repeat ∷ es)
      repeat_breaks =
          puts_ends outside old new new net w v (Again repeat ∷ es) es (item ∷ []) (placings ++ p ∷ [])
          (repeat_puts item reported_is)
