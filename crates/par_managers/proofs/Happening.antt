-- A manager's turn is an action of the network.
use Rattle.std.proofs.Common.{◌≡◌, ℕ, true, false, ◌&&◌, List, refl, Some, None}
use Rattle.std.specs.Prelude.{nat_lt, slice_get}
use Rattle.qkd_base.specs.declared.lane.Lane.{Lane}
use Rattle.net_model.specs.declared.event.Event.{Event}
use Rattle.net_model.specs.declared.reply.Reply.{Reply}
use Rattle.net_model.specs.Site.{Site, receiver}
use Rattle.net_model.specs.World.{Network, World}
use Rattle.net_model.specs.Events.{is_valid_event}
use Rattle.net_model.specs.Action.{Environment, Ask, Deliver, Ok, is_io_fault}
use Rattle.net_model.specs.BlockOrder.{is_block_event}
use Rattle.net_model.specs.Step.{is_asked, is_enabled}
use Rattle.world_state.specs.Passed.{Post, MayAsk, Asked, MayHear, HasHeard}
use Rattle.run_ops.specs.Jobs.{is_job}
use Rattle.law_base.proofs.Base.{and_left, and_right, and_both}
use Rattle.world_state.specs.declared.state.State.{State}
use Rattle.world_state.proofs.AsksOne.{asks_post}
use Rattle.world_state.proofs.Changes.{OnePost}
use Rattle.world_state.proofs.Disks.{has_disks}
use Rattle.world_state.proofs.OnePost.{ChangesPost, stands_after}
use Rattle.world_state.proofs.OneTallied.{one_post_tallied}
use Rattle.world_state.proofs.Passing.{delivers_counted}
use Rattle.world_state.proofs.PostTallies.{asked_tallied}
use Rattle.world_state.proofs.Receivers.{elsewhere}
use Rattle.par_managers.specs.TurnTaking.{MayTurn, TookTurn}
use Rattle.par_managers.specs.Turning.{asks, passes}
use Rattle.world_state.specs.Outside.{Outside}

job_enabled : (net : Network) (w : World) (v : ℕ) (event : Event) → is_job net.site (asks v event) ≡ true → is_enabled net w (Ask v event Ok) ≡ true
unfolding is_enabled
job_enabled net w v event fit =
    let three = and_left (nat_lt v net.site.nodes && is_asked event && is_block_event event) (is_valid_event net.site v event) fit in
    and_both (nat_lt v net.site.nodes && is_asked event) (is_valid_event net.site v event) (and_left (nat_lt v net.site.nodes && is_asked event) (is_block_event event) three)
    (and_right (nat_lt v net.site.nodes && is_asked event && is_block_event event) (is_valid_event net.site v event) fit)

delivers_post : (s : Site) (l : Lane) (number : ℕ) (environment : Environment) → ChangesPost s (Deliver l number environment) (receiver s l)
delivers_post s l number environment = record { nodes = λ u other. elsewhere (receiver s l) u other; lanes = λ k. refl; links = λ link. refl }

module _ {K Q E X : Type 0} (outside : Outside K Q E X) (old : State K Q E X) (net : Network) (w : World) where
  module _ (v : ℕ) (event : Event) (may : MayTurn outside old net w (asks v event) None) (p : Post K E) (there : slice_get old.posts.items v ≡ Some p) where
    pub may_ask : MayAsk outside.disk outside.entropy net w v p event old.up
    may_ask = record { running = may.stands.running; stands = may.stands.posts v p there; enabled = job_enabled net w v event may.fit; links = may.stands.up }

    pub asked_took : (new : State K Q E X) (q : Post K E) (reply : Reply) → OnePost old new v p q →
        Asked outside.disk outside.entropy net w v event p q reply →
        TookTurn outside old new net w (asks v event) reply
    asked_took new q reply change h = record {
      environment = h.environment;
      may = h.may;
      said = h.said;
      stands = stands_after outside old new net w v p q change may.stands (Ask v event h.environment) h.may (asks_post net.site v event h.environment) h.stands;
      tallied = asked_tallied outside net.site old new v p q change
          (has_disks outside old net w may.stands) event h.environment h.counts;
    }

  module _ (l : Lane) (number : ℕ) (octets : List ℕ) (may : MayTurn outside old net w (passes l number) (Some octets)) (p : Post K E)
      (there : slice_get old.posts.items (receiver net.site l) ≡ Some p) where
    pub may_hear : MayHear outside.disk outside.entropy net w l number p octets old.up
    may_hear = record {
      running = may.stands.running;
      stands = may.stands.posts (receiver net.site l) p there;
      at = may.fit;
      frame = may.has.frame;
      there = may.has.there;
      are = may.has.are;
      links = may.stands.up;
    }

    pub heard_took : (new : State K Q E X) (q : Post K E) (reply : Reply) →
        OnePost old new (receiver net.site l) p q → HasHeard outside.disk outside.entropy net w l number p q reply →
        TookTurn outside old new net w (passes l number) reply
    heard_took new q reply change h = record {
      environment = h.environment;
      may = h.may;
      said = h.said;
      stands = stands_after outside old new net w (receiver net.site l) p q change may.stands (Deliver l number h.environment) h.may
          (delivers_post net.site l number h.environment) h.stands;
      tallied = one_post_tallied outside net.site (Deliver l number h.environment) old new
          (has_disks outside old net w may.stands) (receiver net.site l) p q (is_io_fault h.environment) false change
          (delivers_counted net.site l number h.environment) (record { devices = λ link. refl; wires = λ k. refl }) h.counts;
    }
