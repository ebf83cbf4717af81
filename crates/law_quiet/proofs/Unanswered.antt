-- In every run, what is in flight has no acknowledgement, so it is owed.
use Rattle.std.proofs.Common.{◌≡◌, ℕ, Bool, true, false, not, ◌&&◌, ◌||◌, List, [], ◌∷◌, ◌++◌, map, refl, sym, ◌∙◌, ap, subst, Option, Some, None}
use Rattle.std.specs.Prelude.{◌==◌, slice_get, if◌then◌else◌}
use Rattle.std.specs.List.{AllByRecursion}
use Rattle.std.proofs.lemmas.Bool.{ltb-true}
use Rattle.qkd_base.specs.Family.{number_set}
use Rattle.qkd_base.specs.Name.{Name, name_eq, has}
use Rattle.qkd_base.specs.Route.{next_after}
use Rattle.qkd_base.specs.declared.lane.Lane.{Lane}
use Rattle.net_model.specs.declared.event.Event.{Event}
use Rattle.net_model.specs.declared.event.Event.TheVariants.{Block, Plan}
use Rattle.net_model.specs.declared.fact.Fact.{Fact}
use Rattle.net_model.specs.declared.payload.Payload.{Payload}
use Rattle.net_model.specs.declared.payload.Payload.TheVariants.{Data, Ack}
use Rattle.net_model.specs.declared.record.Record.TheVariants.{Block as Block', Learned, Acked}
use Rattle.net_model.specs.declared.reply.Reply.TheVariants.{LinkFull, Took}
use Rattle.net_model.specs.Premises.{IsNetwork}
use Rattle.net_model.specs.Item.{Item, DataItem, AckItem, payload}
use Rattle.net_model.specs.Table.{name_of, route_of}
use Rattle.net_model.specs.Knowledge.{IsAdjacent, MayCarry}
use Rattle.net_model.specs.Site.{sender, receiver}
use Rattle.net_model.specs.OctetSequence.{block_at}
use Rattle.net_model.specs.World.{Network, World, Durable, Allocation, Transmission, Entry, Outgoing, Volatile, no_volatile, first}
use Rattle.net_model.specs.View.{port_of, blocks_of}
use Rattle.net_model.specs.Needed.{masked, view_of}
use Rattle.net_model.specs.Records.{apply_record, replay}
use Rattle.net_model.specs.Window.{cleared, is_data_entry, age, sent_again, is_acked_item}
use Rattle.net_model.specs.Decision.{Decision, Refuses, Does, Effect, knows, makes}
use Rattle.net_model.specs.Decide.{decide, random_need}
use Rattle.net_model.specs.Plan.{plan}
use Rattle.net_model.specs.Relay.{owed, stored_note, receive_fact, receive_ack}
use Rattle.net_model.specs.Events.{is_lane, is_valid_event}
use Rattle.net_model.specs.Invariant.{Conserved}
use Rattle.net_model.specs.Action.{Environment, Ok, Action, Start, Crash, Arm, SetLink, TakeBlock, Ask, Allocate, Transmit, Complete, Deliver, Flip, Forge, Recovery, Recovers, Resumes, Interrupted, NoMemory, Foreign, Outcome, is_no_memory, is_io_fault, is_shown, environment_of}
use Rattle.net_model.specs.Handle.{blocks_at, take_block, commit, stopped, perform, handle}
use Rattle.net_model.specs.Frames.{receive_item, allocate, transmit_one, transmit, outgoing_of}
use Rattle.net_model.specs.Start.{resolved_durable, restarted, recovers, start}
use Rattle.net_model.specs.Step.{crash, complete_node, step, is_node, is_asked, is_enabled, is_step, run, is_run, IsRun}
use Rattle.law_base.proofs.Base.{by_number, by_test, number_set_same, and_left, and_right, name_eq_from, not_false, or_both}
use Rattle.law_base.proofs.Lists.{all_at, all_from, all_kept}
use Rattle.law_base.proofs.Resuming.{resumed_durable}
use Rattle.law_base.proofs.Tables.{has-push}
use Rattle.law_base.proofs.Walks.{perform_walk, handle_walk, take_block_walk, deliver_walk, tampered_walk, flip_walk}
use Rattle.law_invariant.specs.May.{is_plan, MayDecide, decided}
use Rattle.law_invariant.proofs.Clearing.{none_left}
use Rattle.law_invariant.proofs.Decisions.{event_may, plan_is}
use Rattle.law_invariant.proofs.Steps.{first_keeps, step_keeps}
use Rattle.law_quiet.specs.Flying.{IsUnanswered, AreUnanswered}
use Rattle.law_quiet.specs.Chains.{AreChained}
use Rattle.law_quiet.proofs.ChainedEvents.{AllRecords, seen_all, event_chains}
use Rattle.law_quiet.proofs.ChainedSteps.{first_chained, action_chained}
use Rattle.law_quiet.proofs.Owing.{knower_owes}
use Rattle.law_quiet.proofs.Answering.{AcksNothing, acks_none, leaves_acked, other_acked, changed, same_item, heard_all, noted_all}

module _ (net : Network) (w : World) (network : IsNetwork net) (c : Conserved net w) (chained : AreChained net w) (h : AreUnanswered w) where
  commits : (v octets : ℕ) (e : Effect) → AllByRecursion (IsUnanswered ((replay net.site v e.batch w.durable).acked v)) e.volatile.window → AreUnanswered (commit net.site w v octets e)
  unfolding commit
  commits v octets e new = record {
    flying = by_number (λ u b. AllByRecursion (IsUnanswered ((replay net.site v e.batch w.durable).acked u)) (if b then e.volatile else w.volatile u).window) v new
        (λ u apart. subst (λ (acked : List Name). AllByRecursion (IsUnanswered acked) (w.volatile u).window) (sym (other_acked net.site v e.batch w.durable u apart)) (h.flying u));
  }

  stops : (v octets : ℕ) (e : Effect) → AreUnanswered (stopped w v octets e)
  unfolding stopped
  stops v octets e = record { flying = by_number (λ u b. AllByRecursion (IsUnanswered (w.durable.acked u)) (if b then no_volatile else w.volatile u).window) v tt (λ u apart. h.flying u) }

  performs : (v octets : ℕ) (environment : Environment) (e : Effect) → AllByRecursion (IsUnanswered ((replay net.site v e.batch w.durable).acked v)) e.volatile.window →
      AreUnanswered (perform net w v octets environment e).0
  performs v octets environment e new = perform_walk net w AreUnanswered h v octets environment e (λ numbered fits. stops v octets e) (λ numbered fits. commits v octets e new)

  -- An effect that acknowledges nothing, and whose window is this.
  quiet_effect : (v : ℕ) (e : Effect) → AllByRecursion AcksNothing e.batch → AllByRecursion (IsUnanswered (w.durable.acked v)) e.volatile.window →
      AllByRecursion (IsUnanswered ((replay net.site v e.batch w.durable).acked v)) e.volatile.window
  quiet_effect v e none window =
      subst (λ (acked : ℕ → List Name). AllByRecursion (IsUnanswered (acked v)) e.volatile.window) (sym (leaves_acked net.site v e.batch w.durable none)) window

  kept_volatile : (v : ℕ) (vol : Volatile) → vol ≡ w.volatile v → AllByRecursion (IsUnanswered (w.durable.acked v)) vol.window
  kept_volatile v vol same = subst (λ (x : Volatile). AllByRecursion (IsUnanswered (w.durable.acked v)) x.window) (sym same) (h.flying v)

  abbrev Keeps : ℕ → Decision → Type 0
  Keeps v (Refuses reply) = Unit {0}
  Keeps v (Does e) = e.volatile ≡ w.volatile v

  decided_keeps : (v : ℕ) (x : Decision) → MayDecide net w v x → Keeps v x
  decided_keeps v (Refuses reply) may = tt
  decided_keeps v (Does e) may = may.volatile

  handles : (v : ℕ) (event : Event) (environment : Environment) → Keeps v (decided net w v event) → AllRecords AcksNothing (decided net w v event) → AreUnanswered (handle net w v event environment).0
  handles v event environment keeps none =
      handle_walk net w AreUnanswered h v event environment
      (λ up e is. performs v _ environment e (quiet_effect v e (subst (AllRecords AcksNothing) is none) (kept_volatile v e.volatile (subst (Keeps v) is keeps))))

  plan_window : (v : ℕ) → AllByRecursion (IsUnanswered (w.durable.acked v)) (plan net.site w.link_up (view_of net w v)).volatile.window
  unfolding plan view_of masked
  plan_window v =
      changed (w.durable.acked v) (sent_again _) (λ e. same_item _ (record e { age = 0; due = false }) e refl) (map age (w.volatile v).window)
      (changed (w.durable.acked v) age (λ e. same_item (is_data_entry e) _ e refl) (w.volatile v).window (h.flying v))

  none_of : (v : ℕ) (event : Event) → is_asked event ≡ true → AllRecords AcksNothing (decided net w v event)
  none_of v event asked = event_chains net.site AcksNothing (acks_none net.site) (view_of net w v) (seen_all net w v chained.table) net.sealing w.link_up _ event asked

  plans : (v : ℕ) (environment : Environment) → AreUnanswered (handle net w v Plan environment).0
  unfolding handle decide random_need
  plans v environment =
      by_test (λ (r : World × Outcome). AreUnanswered r.0) (w.up v) _ _
      (λ up. performs v 0 environment (plan net.site w.link_up (view_of net w v)) (quiet_effect v (plan net.site w.link_up (view_of net w v)) (none_of v Plan refl) (plan_window v))) (λ down. h)

  asks : (v : ℕ) (event : Event) (environment : Environment) → is_enabled net w (Ask v event environment) ≡ true → AreUnanswered (handle net w v event environment).0
  unfolding is_enabled
  asks v event environment may =
      let prefix = and_left (is_node net v && is_asked event) (is_valid_event net.site v event) may in
      let asked = and_right (is_node net v) (is_asked event) prefix in
      elim (is_plan event) as (λ t. is_plan event ≡ t → AreUnanswered (handle net w v event environment).0) [
        | true ↦ λ is. subst (λ (x : Event). AreUnanswered (handle net w v x environment).0) (sym (plan_is event is)) (plans v environment)
        | false ↦ λ other. handles v event environment
            (decided_keeps v (decided net w v event) (event_may net w v event network c (ltb-true v net.site.nodes (and_left (is_node net v) (is_asked event) prefix)) asked other
            (and_right (is_node net v && is_asked event) (is_valid_event net.site v event) may))) (none_of v event asked)
      ] refl

  block_keeps : (v link : ℕ) (bytes : List ℕ) → Keeps v (decided net w v (Block link (blocks_at net w v link) bytes))
  unfolding decide view_of masked
  block_keeps v link bytes =
      by_test (Keeps v) (blocks_of (port_of (view_of net w v) link) == 1024) (Refuses LinkFull)
      (makes (view_of net w v) (Block' link (blocks_at net w v link) bytes ∷ []) (Took (blocks_at net w v link))) (λ full. tt) (λ x. refl)

  block_none : (v link : ℕ) (bytes : List ℕ) → AllRecords AcksNothing (decided net w v (Block link (blocks_at net w v link) bytes))
  unfolding decide
  block_none v link bytes =
      by_test (AllRecords AcksNothing) (blocks_of (port_of (view_of net w v) link) == 1024) (Refuses LinkFull)
      (makes (view_of net w v) (Block' link (blocks_at net w v link) bytes ∷ []) (Took (blocks_at net w v link))) (λ full. tt) (λ x. (tt, tt))

  takes : (v link : ℕ) (environment : Environment) → AreUnanswered (take_block net w v link environment).0
  takes v link environment =
      take_block_walk net w AreUnanswered h v link environment
      (λ not_full. handles v (Block link (blocks_at net w v link) (block_at (net.device link) (blocks_at net w v link))) environment
      (block_keeps v link (block_at (net.device link) (blocks_at net w v link))) (block_none v link (block_at (net.device link) (blocks_at net w v link))))

  completes : (v : ℕ) → AreUnanswered (complete_node net w v).0
  unfolding handle decide random_need view_of masked replay
  completes v = by_test (λ (r : World × Outcome). AreUnanswered (record (r.0) { placings = number_set w.placings v [] })) (w.up v) _ _
      (λ up. let x = performs v 0 Ok _ (noted_all (w.durable.acked v) (w.placings v) (w.volatile v) (h.flying v)) in record { flying = x.flying })
      (λ down. record { flying = h.flying })

  -- A frame that comes.

  fact_window : (v : ℕ) (l : Lane) (offset : ℕ) (f : Fact) → AllByRecursion (IsUnanswered (w.durable.acked v)) (receive_fact (view_of net w v) l offset f).volatile.window
  unfolding receive_fact view_of masked
  fact_window v l offset f = heard_all (w.durable.acked v) (w.volatile v) l offset (name_of f) (h.flying v)

  fact_none : (v : ℕ) (l : Lane) (offset : ℕ) (f : Fact) → AllByRecursion AcksNothing (receive_fact (view_of net w v) l offset f).batch
  unfolding receive_fact
  fact_none v l offset f =
      by_test (AllByRecursion AcksNothing) (not (knows (view_of net w v) (name_of f))) (Learned f ∷ stored_note (view_of net w v) f) []
      (λ t. (tt, by_test (AllByRecursion AcksNothing) _ (_ ∷ []) [] (λ k. (tt, tt)) (λ k. tt))) (λ t. tt)

  -- The acknowledgement of an owed fact takes its entries out of the window.
  acked_more : (acked : List Name) (n : Name) (e : Entry) → is_acked_item acked e.transmission.item ≡ false → (e.transmission.item ≡ DataItem n → ⊥) → IsUnanswered (acked ++ n ∷ []) e
  acked_more acked n e old other = by_item e.transmission.item old other
    where
      by_item : (i : Item) → is_acked_item acked i ≡ false → (i ≡ DataItem n → ⊥) → is_acked_item (acked ++ n ∷ []) i ≡ false
      by_item (DataItem m) old other = has-push acked n m ∙ or_both (has acked m) (name_eq n m) old (not_false (name_eq n m) (λ same. other (ap DataItem (sym (name_eq_from n m same)))))
      by_item (AckItem m) old other = refl

  ack_by : (v : ℕ) (b : Bool) (l : Lane) (n : Name) → (b ≡ true → (k : ℕ) (e : Entry) → slice_get (cleared l n (w.volatile v).window) k ≡ Some e → e.transmission.item ≡ DataItem n → ⊥) →
      AllByRecursion (IsUnanswered ((replay net.site v (if b then Acked n ∷ [] else []) w.durable).acked v))
      (if b then record (w.volatile v) { window = cleared l n (w.volatile v).window } else w.volatile v).window
  unfolding replay apply_record
  ack_by v true l n none =
      subst (λ (acked : List Name). AllByRecursion (IsUnanswered acked) (cleared l n (w.volatile v).window)) (sym (number_set_same w.durable.acked v (w.durable.acked v ++ n ∷ [])))
      (all_from (IsUnanswered (w.durable.acked v ++ n ∷ [])) (cleared l n (w.volatile v).window) (λ k e at.
      acked_more (w.durable.acked v) n e
      (all_at (IsUnanswered (w.durable.acked v)) (cleared l n (w.volatile v).window) k e (all_kept (IsUnanswered (w.durable.acked v)) _ (w.volatile v).window (h.flying v)) at) (none refl k e at)))
  ack_by v false l n none = h.flying v

  ack_effect : (l : Lane) → is_lane net.site l ≡ true → (n : Name) →
      AllByRecursion (IsUnanswered ((replay net.site (receiver net.site l) (receive_ack (view_of net w (receiver net.site l)) l (sender net.site l) n).batch w.durable).acked (receiver net.site l)))
      (receive_ack (view_of net w (receiver net.site l)) l (sender net.site l) n).volatile.window
  unfolding receive_ack view_of masked
  ack_effect l site n =
      ack_by (receiver net.site l) (has (owed (view_of net w (receiver net.site l)) (sender net.site l)) n) l n (λ owes k e at.
      none_left net w network c l site n owes k e
      (ap (λ (b : Bool). slice_get (if b then record (w.volatile (receiver net.site l)) { window = cleared l n (w.volatile (receiver net.site l)).window } else w.volatile (receiver net.site l)).window k) owes ∙ at))

  module _ (l : Lane) (site : is_lane net.site l ≡ true) (environment : Environment) where
    item : (offset : ℕ) (o : Option Payload) → AreUnanswered (receive_item net w l offset environment o).0
    item offset None = h
    item offset (Some (Data f)) =
        let v : ℕ = receiver net.site l in
        performs v 0 environment (receive_fact (view_of net w v) l offset f) (quiet_effect v (receive_fact (view_of net w v) l offset f) (fact_none v l offset f) (fact_window v l offset f))
    item offset (Some (Ack n)) =
        performs (receiver net.site l) 0 environment (receive_ack (view_of net w (receiver net.site l)) l (sender net.site l) n) (ack_effect l site n)

    came : (j : ℕ) (a : Allocation) → slice_get (w.frames l) j ≡ Some a → w.up (receiver net.site l) ≡ true →
        AreUnanswered (receive_item net w l a.offset environment (payload w.durable.facts a.item)).0
    came j a at up = item a.offset (payload w.durable.facts a.item)

  -- Starts and the other actions.

  settled : (v : ℕ) (committed : Bool) (u : ℕ) → (u ≡ v → ⊥) → (resolved_durable net.site w v committed).acked u ≡ w.durable.acked u
  settled v true u apart = other_acked net.site v (w.in_doubt v).batch w.durable u apart
  settled v false u apart = refl

  after_start : (v : ℕ) (committed : Bool) (u : ℕ) → AllByRecursion (IsUnanswered ((resolved_durable net.site w v committed).acked u)) (if u == v then no_volatile else w.volatile u).window
  after_start v committed u =
      by_number (λ k b. AllByRecursion (IsUnanswered ((resolved_durable net.site w v committed).acked k)) (if b then no_volatile else w.volatile k).window) v tt
      (λ k apart. subst (λ (acked : List Name). AllByRecursion (IsUnanswered acked) (w.volatile k).window) (sym (settled v committed k apart)) (h.flying k)) u

  restarts : (v : ℕ) (recovery : Recovery) → AreUnanswered (recovers net w v recovery).0
  unfolding restarted
  restarts v (Recovers committed) = record { flying = after_start v committed }
  restarts v (Resumes committed) = record {
    flying = λ u. subst (λ (d : Durable). AllByRecursion (IsUnanswered (d.acked u)) (if u == v then no_volatile else w.volatile u).window) (sym (resumed_durable net w v committed)) (after_start v committed u);
  }
  restarts v (Interrupted None) = record { flying = h.flying }
  restarts v (Interrupted (Some committed)) = record { flying = h.flying }
  restarts v NoMemory = h
  restarts v Foreign = h

  starts : (v : ℕ) (recovery : Recovery) → AreUnanswered (start net w v recovery).0
  unfolding start
  starts v recovery = by_test (λ (r : World × Outcome). AreUnanswered r.0) (w.up v) _ _ (λ up. h) (λ down. restarts v recovery)

  crashes : (v : ℕ) → AreUnanswered (crash w v).0
  crashes v =
      by_test (λ (r : World × Outcome). AreUnanswered r.0) (w.up v) _ _
      (λ up. record { flying = by_number (λ u b. AllByRecursion (IsUnanswered (w.durable.acked u)) (if b then no_volatile else w.volatile u).window) v tt (λ u apart. h.flying u) }) (λ down. h)

  claims : (t : Transmission) → AreUnanswered (allocate w t).0
  unfolding allocate
  claims t = record { flying = h.flying }

  puts : (l : Lane) (environment : Environment) (o : Option Outgoing) → AreUnanswered (transmit_one net w l environment o).0
  puts l environment None = h
  puts l environment (Some o) =
      by_test (λ (r : World × Outcome). AreUnanswered r.0) (is_no_memory environment || is_io_fault environment) _ _ (λ e. record { flying = h.flying }) (λ e. record { flying = h.flying })

  pub action_unanswered : (a : Action) → is_enabled net w a ≡ true → AreUnanswered (step net w a).0
  unfolding step transmit is_enabled
  action_unanswered (Start v recovery) may = starts v recovery
  action_unanswered (Crash v) may = crashes v
  action_unanswered (Arm v fault) may = h
  action_unanswered (SetLink link up) may = record { flying = h.flying }
  action_unanswered (TakeBlock v link environment) may = takes v link environment
  action_unanswered (Ask v event environment) may = asks v event environment may
  action_unanswered (Allocate t) may = claims t
  action_unanswered (Transmit l j environment) may = puts l environment (outgoing_of j (w.outgoing l))
  action_unanswered (Complete v) may = completes v
  action_unanswered (Deliver l number environment) may = deliver_walk net w AreUnanswered h l environment (came l may environment) number
  action_unanswered (Flip l number bit environment) may = flip_walk net w AreUnanswered h l environment (came l may environment) number bit
  action_unanswered (Forge l octets environment) may = tampered_walk net w AreUnanswered h l environment (came l (and_left (is_lane net.site l) _ (and_left _ _ (and_left _ _ may))) environment) octets

-- Runs.

first_unanswered : AreUnanswered first
unfolding first
first_unanswered = record { flying = λ v. tt }

run_from : (net : Network) → IsNetwork net → (actions : List Action) (w : World) → Conserved net w → AreChained net w → AreUnanswered w → IsRun net w actions → AreUnanswered (run net w actions)
unfolding run is_run
run_from net network [] w c chained h r = h
run_from net network (a ∷ actions) w c chained h r =
    let new : World = (step net w a).0 in
    let here = and_left (is_step net w a) (is_run net new actions) r in
    let may = and_left (is_enabled net w a) (is_shown (environment_of a) (step net w a).1) here in
    run_from net network actions new (step_keeps net w a network here c) (action_chained net w chained a may) (action_unanswered net w network c chained h a may)
    (and_right (is_step net w a) (is_run net new actions) r)

pub run_unanswered : (net : Network) (actions : List Action) → IsNetwork net → IsRun net first actions → AreUnanswered (run net first actions)
run_unanswered net actions network r = run_from net network actions first (first_keeps net) (first_chained net) first_unanswered r

-- So it is owed.
pub flying_owed : (net : Network) (w : World) → Conserved net w → AreUnanswered w → (v i : ℕ) (e : Entry) (n : Name) → slice_get (w.volatile v).window i ≡ Some e → e.transmission.item ≡ DataItem n →
    has (owed (view_of net w v) (receiver net.site e.transmission.lane)) n ≡ true
flying_owed net w c h v i e n at item =
    let entry = (c.volatile v).entries i e at in
    let carried = (c.now.carried e.transmission.lane).framed entry.number (record { offset = e.offset; item = e.transmission.item }) entry.frame in
    let x : IsAdjacent w.durable.facts w.durable.known (sender net.site e.transmission.lane) (sender net.site e.transmission.lane) (receiver net.site e.transmission.lane) n =
    subst (MayCarry w.durable.facts w.durable.known (sender net.site e.transmission.lane) (receiver net.site e.transmission.lane)) item carried in
    let open' : has (w.durable.acked v) n ≡ false = ap (is_acked_item (w.durable.acked v)) (sym item) ∙ all_at (IsUnanswered (w.durable.acked v)) (w.volatile v).window i e (h.flying v) at in
    knower_owes net w v (receiver net.site e.transmission.lane) n x.fact x.there (subst (λ (u : ℕ). has (w.durable.known u) n ≡ true) entry.lane x.knows)
    (subst (λ (u : ℕ). next_after (route_of x.fact) u ≡ Some (receiver net.site e.transmission.lane)) entry.lane x.next) open'
