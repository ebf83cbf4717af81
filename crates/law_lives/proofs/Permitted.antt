-- What every permitted batch keeps, whoever owns lane bytes, every run keeps, and so does the end of a life.
use Rattle.std.proofs.Common.{◌≡◌, ℕ, zero, suc, Bool, true, false, ◌&&◌, ◌||◌, List, [], ◌∷◌, refl, sym, subst, arith, Option, Some, None}
use Rattle.std.specs.Prelude.{◌==◌, slice_get}
use Rattle.std.specs.List.{list_all}
use Rattle.std.proofs.lemmas.Bool.{ltb-true}
use Rattle.qkd_base.specs.declared.lane.Lane.{Lane}
use Rattle.net_model.specs.declared.event.Event.{Event}
use Rattle.net_model.specs.declared.event.Event.TheVariants.{Block, Note, Plan}
use Rattle.net_model.specs.declared.payload.Payload.{Payload}
use Rattle.net_model.specs.declared.record.Record.{Record}
use Rattle.net_model.specs.declared.record.Record.TheVariants.{Block as Block'}
use Rattle.net_model.specs.declared.reply.Reply.TheVariants.{LinkFull, Took}
use Rattle.net_model.specs.Premises.{IsNetwork}
use Rattle.net_model.specs.Item.{payload}
use Rattle.net_model.specs.Site.{receiver, outgoing_lane, is_incident, count_up}
use Rattle.net_model.specs.OctetSequence.{block_at}
use Rattle.net_model.specs.World.{Network, World, Durable, Owner, Allocation, Transmission, Outgoing, Journal}
use Rattle.net_model.specs.Records.{replay}
use Rattle.net_model.specs.View.{port_of, blocks_of}
use Rattle.net_model.specs.Needed.{masked, view_of}
use Rattle.net_model.specs.Relay.{receive}
use Rattle.net_model.specs.Decision.{Decision, Refuses, Does, Effect, makes}
use Rattle.net_model.specs.Decide.{decide, random_need}
use Rattle.net_model.specs.Doubt.{MayReplay}
use Rattle.net_model.specs.Events.{is_valid_event}
use Rattle.net_model.specs.Invariant.{Conserved, with_doubts}
use Rattle.net_model.specs.Action.{Environment, Ok, Action, Start, Crash, Arm, SetLink, TakeBlock, Ask, Allocate, Transmit, Complete, Deliver, Flip, Forge, Recovery, Recovers, Resumes, Interrupted, NoMemory, Foreign, Outcome, is_no_memory, is_io_fault, is_shown, environment_of}
use Rattle.net_model.specs.Handle.{is_numbered, commit, stopped, perform, blocks_at, take_block, handle}
use Rattle.net_model.specs.Frames.{receive_item, allocate, transmit_one, transmit, outgoing_of}
use Rattle.net_model.specs.Start.{resolved, resolved_durable, restarted, interrupted_start, recovers, start}
use Rattle.net_model.specs.Step.{crash, complete_node, step, is_node, is_link, is_asked, is_enabled, is_step, run, is_run, IsRun}
use Rattle.law_base.proofs.Base.{below_from, by_test, and_left, and_right}
use Rattle.law_base.proofs.Walks.{perform_walk, handle_walk, take_block_walk, deliver_walk, tampered_walk, flip_walk}
use Rattle.law_base.proofs.Resuming.{resumed_durable}
use Rattle.law_invariant.specs.May.{MayDecide, is_plan, decided}
use Rattle.law_invariant.proofs.Decisions.{event_may, receive_may, plan_is}
use Rattle.law_invariant.proofs.Orders.{plan_may}
use Rattle.law_invariant.proofs.Steps.{step_keeps}
use Rattle.law_recovery.specs.Saved.{DoubtsFit}
use Rattle.law_lives.specs.AtRest.{at_rest}
use Rattle.law_lives.proofs.Doubts.{made_then, all_settled}

module _ (net : Network) (network : IsNetwork net) (Q : Durable → Type 0) (owned : (d : Durable) (own : Lane → List Owner) → Q d → Q (record d { own = own }))
    (batches : (v : ℕ) (rs : List Record) (d : Durable) → MayReplay net.site d v rs → Q d → Q (replay net.site v rs d)) where
  abbrev Holds : World → Type 0
  Holds x = Q x.durable

  module _ (w : World) (c : Conserved net w) (q : Q w.durable) where
    -- If the decision has an effect, its batch is permitted.
    abbrev Replays : ℕ → Decision → Type 0
    Replays v (Refuses reply) = Unit {0}
    Replays v (Does e) = list_all is_numbered e.batch ≡ true → MayReplay net.site w.durable v e.batch

    commit_held : (v octets : ℕ) (e : Effect) → MayReplay net.site w.durable v e.batch → Holds (commit net.site w v octets e)
    unfolding commit
    commit_held v octets e may = batches v e.batch w.durable may q

    stopped_held : (v octets : ℕ) (e : Effect) → Holds (stopped w v octets e)
    unfolding stopped
    stopped_held v octets e = q

    perform_held : (v octets : ℕ) (environment : Environment) (e : Effect) → (list_all is_numbered e.batch ≡ true → MayReplay net.site w.durable v e.batch) →
        Holds (perform net w v octets environment e).0
    perform_held v octets environment e may =
        perform_walk net w Holds q v octets environment e (λ numbered fits. stopped_held v octets e) (λ numbered fits. commit_held v octets e (may numbered))

    effect_replays : (v : ℕ) (x : Decision) (e : Effect) → Replays v x → x ≡ Does e → Replays v (Does e)
    effect_replays v x e h is = subst (Replays v) is h

    handle_held : (v : ℕ) (event : Event) (environment : Environment) → Replays v (decided net w v event) → Holds (handle net w v event environment).0
    handle_held v event environment may =
        handle_walk net w Holds q v event environment
        (λ up e is. perform_held v (random_need (view_of net w v) event) environment e (effect_replays v (decided net w v event) e may is))

    -- A frame is passed, unchanged or changed.

    module _ (l : Lane) (environment : Environment) where
      item_held : (j : ℕ) (a : Allocation) → slice_get (w.frames l) j ≡ Some a → (o : Option Payload) → payload w.durable.facts a.item ≡ o →
          Holds (receive_item net w l a.offset environment o).0
      item_held j a at None e = q
      item_held j a at (Some p) e =
          perform_held (receiver net.site l) 0 environment (receive net.site (view_of net w (receiver net.site l)) l a.offset p) (λ numbered. receive_may net w l j a.offset a p c at e numbered)

      came_held : (j : ℕ) (a : Allocation) → slice_get (w.frames l) j ≡ Some a → w.up (receiver net.site l) ≡ true →
          Holds (receive_item net w l a.offset environment (payload w.durable.facts a.item)).0
      came_held j a at up = item_held j a at (payload w.durable.facts a.item) refl

    -- Events that are asked, blocks and notes.

    decided_replays : (v : ℕ) (x : Decision) → MayDecide net w v x → Replays v x
    decided_replays v (Refuses reply) may = tt
    decided_replays v (Does e) may = may.batch

    plan_replays : (v : ℕ) → Replays v (decided net w v Plan)
    unfolding decide random_need
    plan_replays v numbered = plan_may net w v c

    event_replays : (v : ℕ) (event : Event) → is_node net v ≡ true → is_asked event ≡ true → is_valid_event net.site v event ≡ true → Replays v (decided net w v event)
    event_replays v event here asked valid = elim (is_plan event) as (λ t. is_plan event ≡ t → Replays v (decided net w v event)) [
      | true ↦ λ is. subst (λ (x : Event). Replays v (decided net w v x)) (sym (plan_is event is)) (plan_replays v)
      | false ↦ λ other. decided_replays v (decided net w v event) (event_may net w v event network c (ltb-true v net.site.nodes here) asked other valid)
    ] refl

    block_replays : (v link : ℕ) (bytes : List ℕ) → is_incident net.site v link ≡ true → (blocks_at net w v link == 1024) ≡ false →
        Replays v (decided net w v (Block link (blocks_at net w v link) bytes))
    unfolding decide view_of masked
    block_replays v link bytes incident not_full =
        let number : ℕ = blocks_at net w v link in
        by_test (Replays v) (blocks_of (port_of (view_of net w v) link) == 1024) (Refuses LinkFull) (makes (view_of net w v) (Block' link number bytes ∷ []) (Took number))
        (λ full. tt)
        (λ x numbered. ((incident, refl, below_from (w.durable.blocks (outgoing_lane net.site v link)) 1024 (c.few_blocks (outgoing_lane net.site v link)) not_full), tt))

    block_held : (v link : ℕ) (environment : Environment) → is_incident net.site v link ≡ true → Holds (take_block net w v link environment).0
    block_held v link environment incident =
        take_block_walk net w Holds q v link environment
        (λ not_full. handle_held v (Block link (blocks_at net w v link) (block_at (net.device link) (blocks_at net w v link))) environment
        (block_replays v link (block_at (net.device link) (blocks_at net w v link)) incident not_full))

    note_replays : (v : ℕ) → Replays v (decided net w v (Note (w.placings v)))
    unfolding decide
    note_replays v numbered = tt

    complete_held : (v : ℕ) → Holds (complete_node net w v).0
    complete_held v = handle_held v (Note (w.placings v)) Ok (note_replays v)

    ask_held : (v : ℕ) (event : Event) (environment : Environment) → is_enabled net w (Ask v event environment) ≡ true → Holds (handle net w v event environment).0
    unfolding is_enabled
    ask_held v event environment may =
        let prefix = and_left (is_node net v && is_asked event) (is_valid_event net.site v event) may in
        handle_held v event environment (event_replays v event (and_left (is_node net v) (is_asked event) prefix) (and_right (is_node net v) (is_asked event) prefix)
        (and_right (is_node net v && is_asked event) (is_valid_event net.site v event) may))

    -- Starts.

    resolved_held : (v : ℕ) (committed : Bool) → Q (resolved_durable net.site w v committed)
    resolved_held v true = batches v (w.in_doubt v).batch w.durable (c.doubts v) q
    resolved_held v false = q

    restarted_held : (v : ℕ) (committed : Bool) → Holds (restarted net (resolved net.site w v committed) v)
    unfolding restarted
    restarted_held v committed = owned (resolved_durable net.site w v committed) _ (resolved_held v committed)

    resumed_held : (v : ℕ) (committed : Bool) → Holds (restarted net (resolved net.site (interrupted_start net w v (Some committed)) v committed) v)
    unfolding restarted
    resumed_held v committed =
        owned (resolved_durable net.site (interrupted_start net w v (Some committed)) v committed) _ (subst Q (sym (resumed_durable net w v committed)) (resolved_held v committed))

    recovers_held : (v : ℕ) (recovery : Recovery) → Holds (recovers net w v recovery).0
    recovers_held v (Recovers committed) = restarted_held v committed
    recovers_held v (Resumes committed) = resumed_held v committed
    recovers_held v (Interrupted None) = q
    recovers_held v (Interrupted (Some committed)) = q
    recovers_held v NoMemory = q
    recovers_held v Foreign = q

    abbrev Kept : World × Outcome → Type 0
    Kept r = Holds r.0

    start_held : (v : ℕ) (recovery : Recovery) → Kept (start net w v recovery)
    unfolding start
    start_held v recovery = by_test Kept (w.up v) _ _ (λ e. q) (λ e. recovers_held v recovery)

    crash_held : (v : ℕ) → Kept (crash w v)
    crash_held v = by_test Kept (w.up v) _ _ (λ e. q) (λ e. q)

    allocate_held : (t : Transmission) → Kept (allocate w t)
    unfolding allocate
    allocate_held t = owned w.durable _ q

    put_held : (l : Lane) (environment : Environment) (o : Option Outgoing) → Kept (transmit_one net w l environment o)
    put_held l environment None = q
    put_held l environment (Some o) = by_test Kept (is_no_memory environment || is_io_fault environment) _ _ (λ e. q) (λ e. q)

    transmit_held : (l : Lane) (j : ℕ) (environment : Environment) → Kept (transmit net w l j environment)
    unfolding transmit
    transmit_held l j environment = put_held l environment (outgoing_of j (w.outgoing l))

    incident_is : (v link : ℕ) (environment : Environment) → is_enabled net w (TakeBlock v link environment) ≡ true → is_incident net.site v link ≡ true
    unfolding is_enabled
    incident_is v link environment may = and_right (is_node net v && is_link net link) (is_incident net.site v link) may

    step_held : (a : Action) → is_enabled net w a ≡ true → Kept (step net w a)
    unfolding step
    step_held (Start v recovery) may = start_held v recovery
    step_held (Crash v) may = crash_held v
    step_held (Arm v fault) may = q
    step_held (SetLink link up) may = q
    step_held (TakeBlock v link environment) may = block_held v link environment (incident_is v link environment may)
    step_held (Ask v event environment) may = ask_held v event environment may
    step_held (Allocate t) may = allocate_held t
    step_held (Transmit l j environment) may = transmit_held l j environment
    step_held (Complete v) may = complete_held v
    step_held (Deliver l number environment) may = deliver_walk net w Holds q l environment (came_held l environment) number
    step_held (Flip l number bit environment) may = flip_walk net w Holds q l environment (came_held l environment) number bit
    step_held (Forge l octets environment) may = tampered_walk net w Holds q l environment (came_held l environment) octets

  pub run_permitted : (actions : List Action) (w : World) → Conserved net w → IsRun net w actions → Q w.durable → Q (run net w actions).durable
  unfolding run is_run
  run_permitted [] w c r q = q
  run_permitted (a ∷ actions) w c r q =
      let after : World = (step net w a).0 in
      let here = and_left (is_step net w a) (is_run net after actions) r in
      run_permitted actions after (step_keeps net w a network here c) (and_right (is_step net w a) (is_run net after actions) r)
      (step_held w c q a (and_left (is_enabled net w a) (is_shown (environment_of a) (step net w a).1) here))

  module _ (w : World) (c : Conserved net w) (fits : DoubtsFit net w) (made : ℕ → Bool) (q : Q w.durable) where
    settled_held : (n : ℕ) → Q (with_doubts net.site w made (count_up n) w.durable)
    settled_held zero = q
    settled_held (suc n) =
        subst Q (sym (made_then net.site w made (count_up n) (n ∷ []) w.durable))
        (by_test Q (made n) (replay net.site n (w.in_doubt n).batch (with_doubts net.site w made (count_up n) w.durable)) (with_doubts net.site w made (count_up n) w.durable)
        (λ e. batches n (w.in_doubt n).batch (with_doubts net.site w made (count_up n) w.durable) ((all_settled net w c fits made n).doubts n (omega arith)) (settled_held n))
        (λ e. settled_held n))

    pub rest_permitted : (journals : ℕ → Journal) → Q (at_rest net.site made journals w).durable
    unfolding at_rest
    rest_permitted journals = owned (with_doubts net.site w made (count_up net.site.nodes) w.durable) _ (settled_held net.site.nodes)
