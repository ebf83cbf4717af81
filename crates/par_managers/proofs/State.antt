-- A turn of a node's manager is a turn of the run's state that has its post.
use Rattle.std.proofs.Common.{◌≡◌, ℕ, List, sym, subst, Option, Some, None}
use Rattle.std.specs.Prelude.{slice_get}
use Rattle.qkd_base.specs.declared.lane.Lane.{Lane}
use Rattle.net_model.specs.declared.event.Event.{Event}
use Rattle.net_model.specs.declared.reply.Reply.{Reply}
use Rattle.net_model.specs.Site.{receiver}
use Rattle.net_model.specs.World.{Network, World}
use Rattle.world_state.specs.Passed.{Post}
use Rattle.run_ops.specs.declared.job.Job.{Job}
use Rattle.run_ops.specs.declared.job.Job.TheVariants as jobs
use Rattle.world_state.specs.declared.state.State.{State}
use Rattle.world_state.proofs.Changes.{OnePost}
use Rattle.par_managers.specs.TurnTaking.{MayTurn, TookTurn}
use Rattle.par_managers.proofs.Happening.{asked_took, heard_took}
use Rattle.par_managers.specs.Taking.{MayTurnAt, HappensAt, IsTurnAt}
use Rattle.par_managers.proofs.Takes.{asked_node, hearing_node, no_turn}
use Rattle.world_state.specs.Outside.{Outside}

module _ {K Q E X : Type 0} (outside : Outside K Q E X) (s : State K Q E X) (net : Network) (w : World) where
  abbrev May : Job → Option (List ℕ) → Type 0
  May job octets = MayTurn outside s net w job octets

  -- A turn that may be taken in the state may be taken at the post.
  pub may_turn_at : (job : Job) (octets : Option (List ℕ)) → MayTurn outside s net w job octets → (v place : ℕ) (p : Post K E) → slice_get s.posts.items v ≡ Some p → IsTurnAt net.site v place job →
      MayTurnAt outside.disk outside.entropy net w v place p job octets s.up
  may_turn_at job octets may v place p there mine = record {
    running = may.stands.running;
    stands = may.stands.posts v p there;
    fit = may.fit;
    mine = mine;
    has = may.has;
    links = may.stands.up;
  }

  module _ (new : State K Q E X) (reply : Reply) where
    abbrev Took : Job → Type 0
    Took job = TookTurn outside s new net w job reply

    abbrev At : (v : ℕ) (p q : Post K E) → Job → Type 0
    At v p q job = HappensAt outside.disk outside.entropy net w v p q job reply

    ask_took : (v : ℕ) (event : Event) (octets : Option (List ℕ)) → May (jobs.Ask v event) octets → (p q : Post K E) → slice_get s.posts.items v ≡ Some p → OnePost s new v p q → At v p q (jobs.Ask v event) → Took (jobs.Ask v event)
    ask_took v event octets may p q there change h =
        asked_took outside s net w v event (record { stands = may.stands; fit = may.fit; has = tt }) p there new q reply change h

    hear_took : (l : Lane) (number : ℕ) (octets : Option (List ℕ)) → May (jobs.Pass l number) octets → (p q : Post K E) → slice_get s.posts.items (receiver net.site l) ≡ Some p → OnePost s new (receiver net.site l) p q →
        At (receiver net.site l) p q (jobs.Pass l number) → Took (jobs.Pass l number)
    hear_took l number None may p q there change h = absurd may.has
    hear_took l number (Some octets) may p q there change h =
        heard_took outside s net w l number octets may p there new q reply change h

    -- A turn that was taken at the post was taken in the state.
    pub took_turn : (job : Job) (octets : Option (List ℕ)) → MayTurn outside s net w job octets → (v place : ℕ) (p q : Post K E) → IsTurnAt net.site v place job → OnePost s new v p q →
        HappensAt outside.disk outside.entropy net w v p q job reply →
        TookTurn outside s new net w job reply
    took_turn jobs.Nothing octets may v place p q mine change h = no_turn net.site v place mine
    took_turn (jobs.Ask node event) octets may v place p q mine change h =
        let here = asked_node net.site v place node event mine in
        ask_took node event octets may p q (subst (λ (u : ℕ). slice_get s.posts.items u ≡ Some p) (sym here) change.there) (subst (λ (u : ℕ). OnePost s new u p q) (sym here) change)
        (subst (λ (u : ℕ). At u p q (jobs.Ask node event)) (sym here) h)
    took_turn (jobs.Pass l number) octets may v place p q mine change h =
        let here = hearing_node net.site v place l number mine in
        hear_took l number octets may p q (subst (λ (u : ℕ). slice_get s.posts.items u ≡ Some p) (sym here) change.there) (subst (λ (u : ℕ). OnePost s new u p q) (sym here) change)
        (subst (λ (u : ℕ). At u p q (jobs.Pass l number)) (sym here) h)
