-- A manager takes a turn of its own on its way through a block.
use Rattle.std.proofs.Common.{◌≡◌, ℕ, ◌≤◌, true, false, List, refl, sym, ap, subst, ◌∙◌, Option, Some, None}
use Rattle.std.proofs.Math.Logic.{∥∥₁_elim, ∥∥₁_map}
use native.Mathlib.Bridge.{le_prop}
use Rattle.std.specs.Prelude.{slice_get}
use Rattle.qkd_base.specs.declared.lane.Lane.{Lane}
use Rattle.net_model.specs.declared.reply.Reply.{Reply}
use Rattle.net_model.specs.Site.{Site}
use Rattle.net_model.specs.World.{Network, World}
use Rattle.net_model.specs.Action.{Environment, Action}
use Rattle.net_model.specs.Events.{is_lane}
use Rattle.net_model.specs.Step.{step, is_enabled}
use Rattle.declared_site.specs.SiteOf.{site_of}
use Rattle.world_state.specs.Passed.{Post, IsRunning}
use Rattle.law_locality.specs.Touched.{touches_link}
use Rattle.law_locality.proofs.Links.{step_link}
use Rattle.run_ops.specs.Acting.{IsReady}
use Rattle.run_ops.specs.declared.job.Job.{Job}
use Rattle.run_ops.specs.declared.job.Job.TheVariants as jobs
use Rattle.run_ops.specs.Jobs.{is_job}
use Rattle.world_state.specs.Frames.{IsOnWire}
use Rattle.world_state.specs.Stands.{Stands}
use Rattle.world_state.specs.declared.state.State.{State}
use Rattle.world_state.proofs.StateGoesOn.{running_on, enabled_of}
use Rattle.par_managers.specs.Order.{HasOctets}
use Rattle.par_managers.specs.Turning.{asked_with}
use Rattle.par_managers.proofs.Turning.{wire_still, octets_still}
use Rattle.par_managers.specs.Going.{IsOnItsWay}
use Rattle.par_managers.specs.Taking.{MayCome, MayTurnAt, HappensAt, IsTurnAt}
use Rattle.world_state.specs.Outside.{Outside}

link_kept : (job : Job) (environment : Environment) (link : ℕ) → touches_link (asked_with job environment) link ≡ false
link_kept jobs.Nothing environment link = refl
link_kept (jobs.Ask node event) environment link = refl
link_kept (jobs.Pass lane number) environment link = refl

-- A frame stays on its wire, with its octets.
wire_on : (net : Network) (w : World) (job : Job) (environment : Environment) → IsRunning net w → is_enabled net w (asked_with job environment) ≡ true → (l : Lane) (number : ℕ) (octets : List ℕ) → is_lane net.site l ≡ true →
    IsOnWire net w l number octets → IsOnWire net (step net w (asked_with job environment)).0 l number octets
wire_on net w job environment running may l number octets at h = record {
  frame = h.frame;
  there = ap (λ (ws : List ℕ). slice_get ws number) (wire_still net w running.network running.conserved job environment may l) ∙ h.there;
  are = h.are ∙ sym (octets_still net w running.network running.conserved job environment may l at h.frame);
}

-- the octets of the frame that comes
still_has : (net : Network) (start now : World) → ((l : Lane) (number : ℕ) (octets : List ℕ) → is_lane net.site l ≡ true → IsOnWire net start l number octets → IsOnWire net now l number octets) →
    (job : Job) (octets : Option (List ℕ)) → is_job net.site job ≡ true → HasOctets net start job octets → HasOctets net now job octets
still_has net start now wires jobs.Nothing octets fit h = h
still_has net start now wires (jobs.Ask node event) octets fit h = tt
still_has net start now wires (jobs.Pass lane number) None fit h = h
still_has net start now wires (jobs.Pass lane number) (Some octets) fit h = wires lane number octets fit h

module _ {K Q E X : Type 0} (outside : Outside K Q E X) (opening : State K Q E X) (v : ℕ) where
  -- At the block's start, the node's post in the state is on its way through the block.
  pub begins : (net : Network) (w : World) (post : Post K E) → IsReady (Stands outside) opening net w → slice_get opening.posts.items v ≡ Some post →
      IsOnItsWay outside opening v post opening.up
  begins net w post ready there = record {
    net = net;
    start = w;
    ready = ready;
    now = w;
    running = ready.stands.running;
    stands = ready.stands.posts v post there;
    links = ready.stands.up;
    wires = λ l number octets at on. on;
  }

  module _ (post : Post K E) (up place : ℕ) (job : Job) (octets : Option (List ℕ)) (way : IsOnItsWay outside opening v post up)
      (come : MayCome outside opening v place job octets) where
    fits : is_job way.net.site job ≡ true
    fits = subst (λ (s : Site). is_job s job ≡ true) (sym way.ready.stands.sited) come.fit

    -- A turn that may come may be taken now.
    pub may_turn : MayTurnAt outside.disk outside.entropy way.net way.now v place post job octets up
    may_turn = record {
      running = way.running;
      stands = way.stands;
      fit = fits;
      mine = subst (λ (s : Site). IsTurnAt s v place job) (sym way.ready.stands.sited) come.mine;
      has = still_has way.net way.start way.now way.wires job octets fits (come.has way.net way.start way.ready);
      links = way.links;
    }

    pub goes_on : (q : Post K E) (reply : Reply) → HappensAt outside.disk outside.entropy way.net way.now v post q job reply →
        IsOnItsWay outside opening v q up
    goes_on q reply h =
        let a : Action = asked_with job h.environment in record {
          net = way.net;
          start = way.start;
          ready = way.ready;
          now = (step way.net way.now a).0;
          running = running_on way.net way.now a way.running h.may;
          stands = h.stands;
          links = λ link below. step_link way.net way.now a link (link_kept job h.environment link) ∙ way.links link below;
          wires = λ l number octets at on.
              wire_on way.net way.now job h.environment way.running (enabled_of way.net way.now a h.may) l number octets at (way.wires l number octets at on);
        }

  -- the same facts, as a desk has them

  pub few_links : (post : Post K E) (up : ℕ) → ∥ IsOnItsWay outside opening v post up ∥₁ → (site_of opening.site).links ≤ 32
  few_links post up way = ∥∥₁_elim way le_prop (λ x. subst (λ (s : Site). s.links ≤ 32) x.ready.stands.sited x.running.network.site.links)

  module _ (post : Post K E) (up place : ℕ) (job : Job) (octets : Option (List ℕ)) (way : ∥ IsOnItsWay outside opening v post up ∥₁)
      (come : MayCome outside opening v place job octets) where
    pub may_now : ∥ ((net : Network) × (w : World) × (u : ℕ) × (place : ℕ) × MayTurnAt outside.disk outside.entropy net w u place post job octets up) ∥₁
    may_now = ∥∥₁_map way (λ x. (x.net, x.now, v, place, may_turn post up place job octets x come))

    pub still_going : (q : Post K E) (reply : Reply) →
        ((net : Network) (w : World) (u place : ℕ) → MayTurnAt outside.disk outside.entropy net w u place post job octets up → HappensAt outside.disk outside.entropy net w u post q job reply) →
        ∥ IsOnItsWay outside opening v q up ∥₁
    still_going q reply took =
        ∥∥₁_map way (λ x. goes_on post up place job octets x come q reply (took x.net x.now v place (may_turn post up place job octets x come)))
