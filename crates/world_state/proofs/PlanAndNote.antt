-- A post of a state plans, and notes what became of its frames.
use Rattle.std.proofs.Common.{◌≡◌, ℕ, ◌<◌, true, ◌&&◌, List, [], refl, arith, Some}
use Rattle.std.specs.Prelude.{slice_get}
use Rattle.std.proofs.lemmas.Bool.{lt-ltb}
use Rattle.std.proofs.lemmas.Option.{slice_get_within}
use Rattle.net_model.specs.declared.event.Event.TheVariants.{Plan, Note}
use Rattle.net_model.specs.declared.placing.Placing.{Placing}
use Rattle.net_model.specs.Site.{Site}
use Rattle.net_model.specs.World.{Network, World}
use Rattle.net_model.specs.Events.{is_valid_event}
use Rattle.net_model.specs.Action.{Ask, Complete, Ok}
use Rattle.net_model.specs.Step.{step, is_node, is_enabled, IsStep}
use Rattle.world_nodes.specs.Passed.{Post}
use Rattle.law_base.proofs.Base.{and_both}
use Rattle.law_locality.proofs.Completing.{may_complete, completes}
use Rattle.run_ops.specs.Acting.{IsReady}
use Rattle.world_nodes.specs.Stands.{PostStands}
use Rattle.world_nodes.specs.Asking.{MayAsk}
use Rattle.world_nodes.specs.Noting.{MayNote}
use Rattle.world_state.specs.Stands.{Stands}
use Rattle.world_state.specs.Sending.{Sending, are_sized}
use Rattle.world_state.specs.declared.state.State.{State}
use Rattle.world_state.proofs.AsksOne.{elsewhere}
use Rattle.world_state.proofs.Changes.{OnePost}
use Rattle.world_state.proofs.OnePost.{ChangesPost, stands_after}
use Rattle.world_state.specs.Outside.{Outside}

plan_enabled : (net : Network) (w : World) (v : ℕ) → v < net.site.nodes → is_enabled net w (Ask v Plan Ok) ≡ true
unfolding is_enabled is_valid_event
plan_enabled net w v below = and_both (is_node net v && true) true (and_both (is_node net v) true (lt-ltb v net.site.nodes below) refl) refl

note_valid : (net : Network) (v : ℕ) (placings : List Placing) → are_sized placings ≡ true → is_valid_event net.site v (Note placings) ≡ true
unfolding is_valid_event
note_valid net v placings h = h

note_changes : (s : Site) (v : ℕ) → ChangesPost s (Complete v) v
note_changes s v = record { nodes = λ u other. elsewhere v u other; lanes = λ l. refl; links = λ link. refl }

module _ {K Q E X : Type 0} (outside : Outside K Q E X) (old : State K Q E X) (net : Network) (w : World) (v : ℕ) (p : Post K E) where
  pub may_plan : slice_get old.posts.items v ≡ Some p → Stands outside old net w → MayAsk outside.disk outside.entropy net w v p Plan old.up
  may_plan there s =
      let few = slice_get_within old.posts.items v p there in
      let below : v < net.site.nodes = omega (arith, few, s.nodes) in
      record { running = s.running; stands = s.posts v p there; enabled = plan_enabled net w v below; links = s.up }

  module _ (placings : List Placing) (h : Sending outside old net w v [] placings) where
    pub may_note : slice_get old.posts.items v ≡ Some p → MayNote outside.disk outside.entropy net w v p placings old.up
    may_note there = record {
      running = h.stands.running;
      stands = h.stands.posts v p there;
      enabled = may_complete net w v h.sends;
      are = h.placed;
      sized = note_valid net v placings h.sized;
      links = h.stands.up;
    }

    pub noted_ready : (new : State K Q E X) (q : Post K E) → OnePost old new v p q → IsStep net w (Complete v) → PostStands outside.disk outside.entropy net (step net w (Complete v)).0 v q →
        IsReady (Stands outside) new net (step net w (Complete v)).0
    noted_ready new q change may there =
        let quiet = completes net w v h.sends in
        record {
          stands = stands_after outside old new net w v p q change h.stands (Complete v) may (note_changes net.site v) there;
          quiet = record { claimed = quiet.claimed; put = quiet.put; noted = quiet.noted };
        }
