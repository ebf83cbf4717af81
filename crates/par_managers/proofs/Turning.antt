-- What a manager's turn does to wires, frames and placings.
use Rattle.std.proofs.Common.{◌≡◌, ℕ, ◌+◌, Bool, true, false, not, ◌&&◌, ◌||◌, List, [], refl, sym, ap, subst, ◌∙◌, Option, Some, None}
use Rattle.std.specs.Prelude.{◌==◌, nat_lt, slice_get}
use Rattle.std.specs.List.{list_all}
use Rattle.qkd_base.specs.declared.lane.Lane.{Lane}
use Rattle.net_model.specs.declared.event.Event.{Event}
use Rattle.net_model.specs.declared.event.Event.TheVariants.{Plan}
use Rattle.net_model.specs.declared.payload.Payload.{Payload}
use Rattle.net_model.specs.declared.reply.Reply.{Reply}
use Rattle.net_model.specs.declared.reply.Reply.TheVariants.{Planned}
use Rattle.net_model.specs.Journal.{journal_limit, added_len, is_nil}
use Rattle.net_model.specs.OctetSequence.{has_octets}
use Rattle.net_model.specs.Item.{payload}
use Rattle.net_model.specs.Site.{Site, sender, receiver}
use Rattle.net_model.specs.World.{Network, World, Allocation}
use Rattle.net_model.specs.Premises.{IsNetwork}
use Rattle.net_model.specs.Invariant.{Conserved}
use Rattle.net_model.specs.Needed.{view_of}
use Rattle.net_model.specs.Decision.{Effect}
use Rattle.net_model.specs.Decide.{decide, random_need}
use Rattle.net_model.specs.Events.{is_lane, is_valid_event}
use Rattle.net_model.specs.Action.{Environment, Ask, Outcome, Replies, is_no_memory, is_entropy_fault, is_io_fault}
use Rattle.net_model.specs.Frames.{frame_octets, receive_item}
use Rattle.net_model.specs.Handle.{is_numbered, commit, stopped, perform, handle}
use Rattle.net_model.specs.BlockOrder.{is_block_event}
use Rattle.net_model.specs.Step.{step, is_asked, is_enabled}
use Rattle.run_model.specs.Works.{wanted_put}
use Rattle.run_ops.specs.declared.job.Job.{Job}
use Rattle.run_ops.specs.declared.job.Job.TheVariants as jobs
use Rattle.run_ops.specs.Jobs.{is_job}
use Rattle.law_base.proofs.Base.{and_left, and_right, by_test}
use Rattle.law_base.proofs.Walks.{perform_walk, handle_walk, deliver_walk}
use Rattle.law_invariant.specs.May.{is_plan}
use Rattle.law_invariant.proofs.Decisions.{plan_is}
use Rattle.law_locality.specs.Touched.{touches_lane, Frames, Wire, changes_part}
use Rattle.law_locality.proofs.LaneParts.{step_part}
use Rattle.law_locality.proofs.Frames.{frame_stays}
use Rattle.law_parallel.proofs.Replies.{event_none, delivery_none}
use Rattle.par_managers.specs.Turning.{asked_with, planner}

no_part : (b : Bool) → (b && false) ≡ false
no_part true = refl
no_part false = refl

wire_kept : (s : Site) (job : Job) (environment : Environment) (l : Lane) → (touches_lane s (asked_with job environment) l && changes_part Wire (asked_with job environment)) ≡ false
wire_kept s jobs.Nothing environment l = refl
wire_kept s (jobs.Ask node event) environment l = no_part (is_plan event && (sender s l == node))
wire_kept s (jobs.Pass lane number) environment l = refl

frames_kept : (s : Site) (job : Job) (environment : Environment) (l : Lane) → (touches_lane s (asked_with job environment) l && changes_part Frames (asked_with job environment)) ≡ false
frames_kept s jobs.Nothing environment l = refl
frames_kept s (jobs.Ask node event) environment l = no_part (is_plan event && (sender s l == node))
frames_kept s (jobs.Pass lane number) environment l = refl

-- ---- notes on frames

stopped_placings : (w : World) (v octets : ℕ) (e : Effect) → (stopped w v octets e).placings ≡ w.placings
unfolding stopped
stopped_placings w v octets e = refl

commit_placings : (s : Site) (w : World) (v octets : ℕ) (e : Effect) → (commit s w v octets e).placings ≡ w.placings
unfolding commit
commit_placings s w v octets e = refl

module _ (net : Network) (w : World) where
  abbrev SamePlacings : World → Type 0
  SamePlacings x = x.placings ≡ w.placings

  performed_placings : (v octets : ℕ) (environment : Environment) (e : Effect) → SamePlacings (perform net w v octets environment e).0
  performed_placings v octets environment e =
      perform_walk net w SamePlacings refl v octets environment e (λ numbered fits. stopped_placings w v octets e) (λ numbered fits. commit_placings net.site w v octets e)

  received_placings : (l : Lane) (offset : ℕ) (environment : Environment) (o : Option Payload) → SamePlacings (receive_item net w l offset environment o).0
  received_placings l offset environment None = refl
  received_placings l offset environment (Some p) = performed_placings (receiver net.site l) 0 environment _

  turn_placings : (job : Job) (environment : Environment) → SamePlacings (step net w (asked_with job environment)).0
  unfolding step
  turn_placings jobs.Nothing environment = refl
  turn_placings (jobs.Ask node event) environment =
      handle_walk net w SamePlacings refl node event environment (λ up e is. performed_placings node (random_need (view_of net w node) event) environment e)
  turn_placings (jobs.Pass lane number) environment =
      deliver_walk net w SamePlacings refl lane environment (λ j a at up. received_placings lane a.offset environment (payload w.durable.facts a.item)) number

  pub noted_still : (job : Job) (environment : Environment) (v : ℕ) → (step net w (asked_with job environment)).0.placings v ≡ w.placings v
  noted_still job environment v = ap (λ (f : ℕ → _). f v) (turn_placings job environment)

-- ---- the reply of a plan

abbrev pub is_planned : Outcome → Bool
is_planned (Replies (Planned orders repeats shorts)) = true
is_planned _ = false

module _ (net : Network) (w : World) (v : ℕ) where
  -- The manager is up.

  abbrev Ups : World × Outcome → Type 0
  Ups r = is_planned r.1 ≡ true → r.0.up v ≡ true

  up_committed : (octets : ℕ) (e : Effect) → w.up v ≡ true → Ups (commit net.site w v octets e, Replies e.reply)
  unfolding commit
  up_committed octets e up h = up

  up_performed : (octets : ℕ) (environment : Environment) (e : Effect) → w.up v ≡ true → Ups (perform net w v octets environment e)
  unfolding perform
  up_performed octets environment e up =
      by_test Ups (is_no_memory environment || not (list_all is_numbered e.batch)) _ _ (λ t h. up)
      (λ t. by_test Ups (nat_lt journal_limit ((w.journal v).length' + added_len (w.journal v).version e.batch)) _ _ (λ t h. up)
      (λ t. by_test Ups (nat_lt 0 octets && (not (has_octets (net.entropy v) (w.drawn v + octets)) || is_entropy_fault environment)) _ _ (λ t h. up)
      (λ t. by_test Ups (is_io_fault environment && not (is_nil e.batch)) _ _ (λ t h. cc) (λ t. up_committed octets e up))))

  planned_up : (environment : Environment) → Ups (step net w (Ask v Plan environment))
  unfolding step handle decide random_need
  planned_up environment = by_test Ups (w.up v) _ _ (λ t. up_performed 0 environment _ t) (λ t h. cc)

-- ---- the turn, by its job

none_planned : (v : ℕ) (reply : Reply) → ◌≡◌ {A = Option ℕ} (planner (jobs.Ask v Plan) reply) None → is_planned (Replies reply) ≡ false
none_planned v (Planned orders repeats shorts) h = cc
none_planned v _ h = refl

none_wanted : (reply : Reply) → is_planned (Replies reply) ≡ false → wanted_put (Replies reply) ≡ []
none_wanted (Planned orders repeats shorts) h = cc
none_wanted _ h = refl

-- If the reply of a turn is a node's plan, the turn asked this node for its plan.
record IsPlanOf (v : ℕ) (job : Job) (reply : Reply) : Type 0 where
  job' : job ≡ jobs.Ask v Plan
  replied : is_planned (Replies reply) ≡ true

is_plan_of : (v : ℕ) (job : Job) (reply : Reply) → planner job reply ≡ Some v → IsPlanOf v job reply
is_plan_of v (jobs.Ask node Plan) (Planned orders repeats shorts) h =
    record { job' = ap (λ (n : ℕ). jobs.Ask n Plan) (some_is node v h); replied = refl }
  where
    some_is : (a b : ℕ) → ◌≡◌ {A = Option ℕ} (Some a) (Some b) → a ≡ b
    some_is a b h = cc
is_plan_of v _ _ h = absurd (cc h)

module _ (net : Network) (w : World) (network : IsNetwork net) (c : Conserved net w) (job : Job) (environment : Environment) (may : is_enabled net w (asked_with job environment) ≡ true) where
  abbrev after : World
  after = (step net w (asked_with job environment)).0

  pub wire_still : (l : Lane) → after.wire l ≡ w.wire l
  wire_still l = step_part net w l network c Wire (asked_with job environment) may (wire_kept net.site job environment l)

  frames_still : (l : Lane) → after.frames l ≡ w.frames l
  frames_still l = step_part net w l network c Frames (asked_with job environment) may (frames_kept net.site job environment l)

  pub octets_still : (l : Lane) → is_lane net.site l ≡ true → (j : ℕ) → frame_octets net after l (slice_get (after.frames l) j) ≡ frame_octets net w l (slice_get (w.frames l) j)
  octets_still l at j =
      elim (slice_get (w.frames l) j) as (λ o. slice_get (w.frames l) j ≡ o → frame_octets net after l (slice_get (after.frames l) j) ≡ frame_octets net w l (slice_get (w.frames l) j)) [
        | None ↦ λ none.
            ap (frame_octets net after l) (ap (λ (fs : List Allocation). slice_get fs j) (frames_still l) ∙ none) ∙ sym (ap (frame_octets net w l) none)
        | Some a ↦ λ there. frame_stays net w (asked_with job environment) l j a network c at there
      ] refl

-- ---- one turn, with a plan as its reply or without

module _ (net : Network) (w : World) (network : IsNetwork net) (c : Conserved net w) where
  abbrev After : Job → Environment → World
  After job environment = (step net w (asked_with job environment)).0

  abbrev Says : Job → Environment → Reply → Type 0
  Says job environment reply = (step net w (asked_with job environment)).1 ≡ Replies reply

  -- If no plan is replied, nothing is to be put.
  pub wants_none : (job : Job) (environment : Environment) (reply : Reply) → is_job net.site job ≡ true → planner job reply ≡ None → Says job environment reply → wanted_put (Replies reply) ≡ []
  unfolding step
  wants_none jobs.Nothing environment reply fit none said = ap wanted_put (sym said)
  wants_none (jobs.Pass lane number) environment reply fit none said = ap wanted_put (sym said) ∙ delivery_none net w lane number environment
  wants_none (jobs.Ask v event) environment reply fit none said =
      elim (is_plan event) as (λ t. is_plan event ≡ t → wanted_put (Replies reply) ≡ []) [
        | true ↦ λ is. none_wanted reply (none_planned v reply (subst (λ (x : Event). planner (jobs.Ask v x) reply ≡ None) (plan_is event is) none))
        | false ↦ λ other. ap wanted_put (sym said) ∙ event_none net w v event environment (block v event fit) other
      ] refl
    where
      block : (v : ℕ) (event : Event) → is_job net.site (jobs.Ask v event) ≡ true → is_block_event event ≡ true
      block v event fit =
          and_right (nat_lt v net.site.nodes && is_asked event) (is_block_event event)
          (and_left (nat_lt v net.site.nodes && is_asked event && is_block_event event) (is_valid_event net.site v event) fit)

  module _ (v : ℕ) (job : Job) (environment : Environment) (reply : Reply) (is : planner job reply ≡ Some v) (said : Says job environment reply) where
    p : IsPlanOf v job reply
    p = is_plan_of v job reply is

    said_plan : Says (jobs.Ask v Plan) environment reply
    said_plan = subst (λ (j : Job). Says j environment reply) p.job' said

    -- A manager that replies with its plan is up.
    pub up_after : (After job environment).up v ≡ true
    up_after = subst (λ (j : Job). (After j environment).up v ≡ true) (sym p.job') (planned_up net w v environment (ap is_planned said_plan ∙ p.replied))
