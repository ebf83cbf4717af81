-- A manager's turn is an event that it handles, or a frame that it hears.
use Rattle.std.proofs.Math.Logic.{∥∥₁_elim}
use Rattle.std.proofs.Common.{◌≡◌, ℕ, Bool, true, false, ◌&&◌, List, [], ◌∷◌, refl, sym, subst, ◌∙◌, Option, Some, None}
use Rattle.std.specs.Prelude.{◌==◌, nat_lt, if◌then◌else◌}
use Rattle.qkd_base.specs.declared.lane.Lane.{Lane}
use Rattle.std.specs.Coded.{coded_bool}
use base.Stored.{Coded-set}
use Rattle.net_model.specs.declared.event.Event.{Event}
use Rattle.net_model.specs.declared.event.Event.TheVariants.{Heard, Plan}
use Rattle.net_model.specs.declared.reply.Reply.{Reply}
use Rattle.net_model.specs.declared.reply.Reply.TheVariants.{Planned}
use Rattle.net_model.specs.Site.{Site, receiver}
use Rattle.net_model.specs.World.{Network, World}
use Rattle.net_model.specs.Events.{is_valid_event}
use Rattle.net_model.specs.Action.{Ask, Deliver, Ok, Replies}
use Rattle.net_model.specs.BlockOrder.{is_block_event, is_turn_of}
use Rattle.net_model.specs.Step.{is_asked, is_enabled}
use Rattle.declared_site.specs.SiteOf.{site_of}
use Rattle.world_state.specs.Passed.{ManagerForm, is_up, Post, On, MayAsk, Asked, Happens, MayHandle, Handled, MayHear, HasHeard, PostStands}
use Rattle.run_model.specs.Works.{Work}
use Rattle.run_ops.specs.declared.job.Job.{Job}
use Rattle.run_ops.specs.declared.job.Job.TheVariants as jobs
use Rattle.run_ops.specs.Jobs.{is_job}
use Rattle.law_base.proofs.Base.{and_left, and_right, and_both, eq_from}
use Rattle.world_state.proofs.Passed.{may_handle as may_handle_asked, asked, may_handle_of_Delivered as may_handle_heard, heard, valid_there}
use Rattle.par_managers.specs.Turning.{planner}
use Rattle.par_managers.specs.Taking.{MayTurnAt, HappensAt, IsTurnAt}
use Rattle.disk_model.specs.declared.disk.Disk as Disk
use Rattle.source_devices.specs.declared.entropy.Entropy as Entropy

is_there : {A : Type 0} (b : Bool) (x : A) → (if b then x ∷ [] else []) ≡ x ∷ [] → b ≡ true
is_there true x h = refl
is_there false x h = cc

-- The node that a manager's turn asks is the manager's own.
pub asked_node : (s : Site) (v place node : ℕ) (event : Event) → IsTurnAt s v place (jobs.Ask node event) → node ≡ v
asked_node s v place node event mine =
    let x : Work = record { place = place; action = Ask node event Ok } in
    eq_from node v (and_left (node == v) (is_block_event event) (is_there (is_turn_of s v (Ask node event Ok)) x mine))

pub hearing_node : (s : Site) (v place : ℕ) (l : Lane) (number : ℕ) → IsTurnAt s v place (jobs.Pass l number) → receiver s l ≡ v
hearing_node s v place l number mine =
    let x : Work = record { place = place; action = Deliver l number Ok } in
    eq_from (receiver s l) v (is_there (is_turn_of s v (Deliver l number Ok)) x mine)

pub no_turn : {A : Type 0} (s : Site) (v place : ℕ) → IsTurnAt s v place jobs.Nothing → A
no_turn s v place mine = absurd (cc mine)

-- If a manager's turn replies with a plan, it is the plan of the manager's own node.
pub planned_node : (s : Site) (v place u : ℕ) (job : Job) (reply : Reply) → IsTurnAt s v place job → planner job reply ≡ Some u → u ≡ v
planned_node s v place u (jobs.Ask node Plan) (Planned orders repeats shorts) mine h = some_is u node (sym h) ∙ asked_node s v place node Plan mine
  where
    some_is : (a b : ℕ) → ◌≡◌ {A = Option ℕ} (Some a) (Some b) → a ≡ b
    some_is a b h = cc
planned_node s v place u _ _ mine h = absurd (cc h)

event_enabled : (net : Network) (w : World) (v : ℕ) (event : Event) → is_job net.site (jobs.Ask v event) ≡ true → is_enabled net w (Ask v event Ok) ≡ true
unfolding is_enabled
event_enabled net w v event fit =
    let three = and_left (nat_lt v net.site.nodes && is_asked event && is_block_event event) (is_valid_event net.site v event) fit in
    and_both (nat_lt v net.site.nodes && is_asked event) (is_valid_event net.site v event) (and_left (nat_lt v net.site.nodes && is_asked event) (is_block_event event) three)
    (and_right (nat_lt v net.site.nodes && is_asked event && is_block_event event) (is_valid_event net.site v event) fit)

module _ {K E : Type 0} (disk_says : Disk.Ghosts K) (entropy_says : Entropy.Ghosts E) (net : Network) (w : World) (v place : ℕ) (post : Post K E) (job : Job)
    (octets : Option (List ℕ)) (up : ℕ) (may : MayTurnAt disk_says entropy_says net w v place post job octets up) where
  pub nothing_asked : {A : Type 0} → job ≡ jobs.Nothing → A
  nothing_asked is = no_turn net.site v place (subst (IsTurnAt net.site v place) is may.mine)

  module _ (node : ℕ) (event : Event) (is : job ≡ jobs.Ask node event) where
    pub asks_here : node ≡ v
    asks_here = asked_node net.site v place node event (subst (IsTurnAt net.site v place) is may.mine)

    fits : is_job net.site (jobs.Ask v event) ≡ true
    fits = subst (λ (u : ℕ). is_job net.site (jobs.Ask u event) ≡ true) asks_here (subst (λ (j : Job). is_job net.site j ≡ true) is may.fit)

    pub may_ask : MayAsk disk_says entropy_says net w v post event up
    may_ask = record { running = may.running; stands = may.stands; enabled = event_enabled net w v event fits; links = may.links }

    pub may_put_asked : MayHandle disk_says entropy_says net w v post event up
    may_put_asked = may_handle_asked disk_says entropy_says net w v event up post may_ask

  module _ (l : Lane) (number : ℕ) (is : job ≡ jobs.Pass l number) where
    pub no_frame : {A : Type 0} → octets ≡ None → A
    no_frame none =
        absurd
        ((subst (λ (o : Option (List ℕ)). MayTurnAt disk_says entropy_says net w v place post (jobs.Pass l number) o up) none
        (subst (λ (j : Job). MayTurnAt disk_says entropy_says net w v place post j octets up) is may)).has)

    module _ (frame : List ℕ) (some : octets ≡ Some frame) where
      turn : MayTurnAt disk_says entropy_says net w v place post (jobs.Pass l number) (Some frame) up
      turn = subst (λ (o : Option (List ℕ)). MayTurnAt disk_says entropy_says net w v place post (jobs.Pass l number) o up) some
          (subst (λ (j : Job). MayTurnAt disk_says entropy_says net w v place post j octets up) is may)

      pub comes_here : receiver net.site l ≡ v
      comes_here = hearing_node net.site v place l number turn.mine

      pub may_hear : MayHear disk_says entropy_says net w l number post frame up
      may_hear = record {
        running = turn.running;
        stands = subst (λ (u : ℕ). PostStands disk_says entropy_says net w u post) (sym comes_here) turn.stands;
        at = turn.fit;
        frame = turn.has.frame;
        there = turn.has.there;
        are = turn.has.are;
        links = turn.links;
      }

      pub may_put_heard : MayHandle disk_says entropy_says net w (receiver net.site l) post (Heard l frame) up
      may_put_heard = may_handle_heard disk_says entropy_says net w l number post frame up may_hear

-- ---- what is given to the manager is valid for it

module _ {K E : Type 0} (disk_says : Disk.Ghosts K) (entropy_says : Entropy.Ghosts E) (post : Post K E) (job : Job) (octets : Option (List ℕ)) (up : ℕ)
    (may : ∥ ((net : Network) × (w : World) × (v : ℕ) × (place : ℕ) × MayTurnAt disk_says entropy_says net w v place post job octets up) ∥₁) (m : ManagerForm K E) (on : post ≡ On m) (is_up_now : is_up m.standing ≡ true) where
  abbrev IsValid : Event → Type 0
  IsValid event = is_valid_event (site_of m.site) m.view.me event ≡ true

  valid_in : (event : Event) (net : Network) (w : World) (v : ℕ) → MayHandle disk_says entropy_says net w v post event up → IsValid event
  valid_in event net w v h = valid_there disk_says entropy_says net w v m is_up_now post on h.stands event h.valid

  pub asked_valid : (node : ℕ) (event : Event) → job ≡ jobs.Ask node event → IsValid event
  asked_valid node event is =
      ∥∥₁_elim may (Coded-set coded_bool _ _)
      (λ a. valid_in event a.0 a.1 a.2 (may_put_asked disk_says entropy_says a.0 a.1 a.2 a.3 post job octets up a.4 node event is))

  pub heard_valid : (l : Lane) (number : ℕ) (frame : List ℕ) → job ≡ jobs.Pass l number → octets ≡ Some frame → IsValid (Heard l frame)
  heard_valid l number frame is some =
      ∥∥₁_elim may (Coded-set coded_bool _ _)
      (λ a. valid_in (Heard l frame) a.0 a.1 (receiver a.0.site l) (may_put_heard disk_says entropy_says a.0 a.1 a.2 a.3 post job octets up a.4 l number is frame some))

-- ---- what the manager does is the turn

module _ {K E : Type 0} (disk_says : Disk.Ghosts K) (entropy_says : Entropy.Ghosts E) (net : Network) (w : World) (v place : ℕ) (post : Post K E) (job : Job)
    (octets : Option (List ℕ)) (up : ℕ) (may : MayTurnAt disk_says entropy_says net w v place post job octets up) (q : Post K E) (reply : Reply) where
  abbrev TookIt : Job → Type 0
  TookIt j = HappensAt disk_says entropy_says net w v post q j reply

  abbrev pub Put : ℕ → Event → Type 0
  Put u event = Handled disk_says entropy_says net w u event post q reply

  pub took_asked : (node : ℕ) (event : Event) → job ≡ jobs.Ask node event → (MayHandle disk_says entropy_says net w v post event up → Put v event) → HappensAt disk_says entropy_says net w v post q job reply
  took_asked node event is puts =
      let may_it = may_ask disk_says entropy_says net w v place post job octets up may node event is in
      let here = asks_here disk_says entropy_says net w v place post job octets up may node event is in
      let h : Asked disk_says entropy_says net w v event post q reply =
      asked disk_says entropy_says net w v event up post q reply may_it (puts (may_put_asked disk_says entropy_says net w v place post job octets up may node event is)) in
      subst TookIt (sym is) (subst (λ (u : ℕ). TookIt (jobs.Ask u event)) (sym here) h)

  pub took_heard : (l : Lane) (number : ℕ) (frame : List ℕ) → job ≡ jobs.Pass l number → octets ≡ Some frame →
      (MayHandle disk_says entropy_says net w (receiver net.site l) post (Heard l frame) up → Put (receiver net.site l) (Heard l frame)) → HappensAt disk_says entropy_says net w v post q job reply
  took_heard l number frame is some puts =
      let may_it = may_hear disk_says entropy_says net w v place post job octets up may l number is frame some in
      let here = comes_here disk_says entropy_says net w v place post job octets up may l number is frame some in
      let h : HasHeard disk_says entropy_says net w l number post q reply =
      heard disk_says entropy_says net w l number post frame up may_it q reply (puts (may_put_heard disk_says entropy_says net w v place post job octets up may l number is frame some)) in
      subst TookIt (sym is) (subst (λ (u : ℕ). Happens disk_says entropy_says (λ environment. Deliver l number environment) net w u post q (Replies reply)) here h)
