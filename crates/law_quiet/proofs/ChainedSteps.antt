-- Every action keeps routes over links, so in every run all facts have such routes.
use Rattle.std.proofs.Common.{◌≡◌, ℕ, Bool, true, false, ◌&&◌, ◌||◌, List, [], ◌∷◌, ◌++◌, refl, sym, subst, Option, Some, None}
use Rattle.std.specs.Prelude.{◌==◌, slice_get, if◌then◌else◌}
use Rattle.std.specs.List.{AllByRecursion}
use Rattle.qkd_base.specs.Name.{Name}
use Rattle.qkd_base.specs.declared.lane.Lane.{Lane}
use Rattle.net_model.specs.declared.event.Event.{Event}
use Rattle.net_model.specs.declared.event.Event.TheVariants.{Block, Note}
use Rattle.net_model.specs.declared.fact.Fact.{Fact}
use Rattle.net_model.specs.declared.payload.Payload.{Payload}
use Rattle.net_model.specs.declared.payload.Payload.TheVariants.{Data}
use Rattle.net_model.specs.declared.record.Record.{Record}
use Rattle.net_model.specs.declared.record.Record.TheVariants.{Block as Block', Lease, Learned, Acked, Handed, Closed, Bare}
use Rattle.net_model.specs.declared.reply.Reply.TheVariants.{LinkFull, Took}
use Rattle.net_model.specs.Item.{Item, DataItem, AckItem, payload, data_payload}
use Rattle.net_model.specs.Table.{name_of, has_fact, fact_at}
use Rattle.net_model.specs.Site.{Site, receiver}
use Rattle.net_model.specs.OctetSequence.{block_at}
use Rattle.net_model.specs.World.{Network, World, Durable, Allocation, Transmission, Outgoing, no_doubt, first}
use Rattle.net_model.specs.View.{port_of, blocks_of}
use Rattle.net_model.specs.Needed.{view_of}
use Rattle.net_model.specs.Records.{block_taken, apply_record, replay}
use Rattle.net_model.specs.Decision.{Refuses, Effect, makes}
use Rattle.net_model.specs.Decide.{decide}
use Rattle.net_model.specs.Events.{is_valid_event}
use Rattle.net_model.specs.Action.{Environment, Ok, Action, Start, Crash, Arm, SetLink, TakeBlock, Ask, Allocate, Transmit, Complete, Deliver, Flip, Forge, Recovery, Recovers, Resumes, Interrupted, NoMemory, Foreign, Outcome, is_no_memory, is_io_fault, is_shown, environment_of}
use Rattle.net_model.specs.Handle.{blocks_at, take_block, commit, stopped, perform, handle}
use Rattle.net_model.specs.Frames.{receive_item, allocate, transmit_one, transmit, outgoing_of}
use Rattle.net_model.specs.Start.{resolved, restarted, recovers, start}
use Rattle.net_model.specs.Step.{crash, complete_node, step, is_node, is_asked, is_enabled, is_step, run, is_run, IsRun}
use Rattle.law_base.proofs.Base.{by_number, by_test, and_left, and_right}
use Rattle.law_base.proofs.Lists.{all_both, all_at, found_at}
use Rattle.law_base.proofs.Resuming.{resumed_durable}
use Rattle.law_base.proofs.Walks.{perform_walk, handle_walk, take_block_walk, deliver_walk, tampered_walk, flip_walk}
use Rattle.law_invariant.specs.May.{decided}
use Rattle.law_quiet.specs.Chains.{GoesOverLinks, TeachesChains, AreChained}
use Rattle.law_quiet.proofs.ChainedEvents.{AllRecords, IsOfEvents, seen_all, receives, event_chains}

-- What a batch teaches goes into the table.

module _ (s : Site) (v : ℕ) where
  learns : (f : Fact) (facts : List Fact) → GoesOverLinks s f → AllByRecursion (GoesOverLinks s) facts → AllByRecursion (GoesOverLinks s) (if has_fact facts (name_of f) then facts else facts ++ f ∷ [])
  learns f facts new all =
      by_test (AllByRecursion (GoesOverLinks s)) (has_fact facts (name_of f)) facts (facts ++ f ∷ []) (λ old. all) (λ t. all_both (GoesOverLinks s) facts (f ∷ []) all (new, tt))

  applies : (r : Record) (d : Durable) → TeachesChains s r → AllByRecursion (GoesOverLinks s) d.facts → AllByRecursion (GoesOverLinks s) (apply_record s v r d).facts
  unfolding apply_record block_taken
  applies (Block' link number bytes) d new all = all
  applies (Lease lane end) d new all = all
  applies (Learned f) d new all = learns f d.facts new all
  applies (Acked n) d new all = all
  applies (Handed n sae) d new all = all
  applies (Closed n sae) d new all = all
  applies (Bare f) d new all = learns f d.facts new all

  pub replays : (rs : List Record) (d : Durable) → AllByRecursion (TeachesChains s) rs → AllByRecursion (GoesOverLinks s) d.facts → AllByRecursion (GoesOverLinks s) (replay s v rs d).facts
  unfolding replay
  replays [] d new all = all
  replays (r ∷ rs) d new all = replays rs (apply_record s v r d) new.1 (applies r d new.0 all)

of_chains : (s : Site) → IsOfEvents s (TeachesChains s)
of_chains s = record { learned = λ f chain. chain; handed = λ n sae. tt; closed = λ n sae. tt; lease = λ l end. tt }

-- Blocks of bytes and notes of placings teach nothing.

block_chains : (net : Network) (w : World) (v link : ℕ) (bytes : List ℕ) → AllRecords (TeachesChains net.site) (decided net w v (Block link (blocks_at net w v link) bytes))
unfolding decide
block_chains net w v link bytes =
    by_test (AllRecords (TeachesChains net.site)) (blocks_of (port_of (view_of net w v) link) == 1024) (Refuses LinkFull)
    (makes (view_of net w v) (Block' link (blocks_at net w v link) bytes ∷ []) (Took (blocks_at net w v link))) (λ full. tt) (λ x. (tt, tt))

note_chains : (net : Network) (w : World) (v : ℕ) → AllRecords (TeachesChains net.site) (decided net w v (Note (w.placings v)))
unfolding decide
note_chains net w v = tt

module _ (net : Network) (w : World) (h : AreChained net w) where
  performs : (v octets : ℕ) (environment : Environment) (e : Effect) → AllByRecursion (TeachesChains net.site) e.batch → AreChained net (perform net w v octets environment e).0
  unfolding commit stopped
  performs v octets environment e new =
      perform_walk net w (AreChained net) h v octets environment e
      (λ numbered fits. record {
        table = h.table;
        doubts = by_number (λ u t. AllByRecursion (TeachesChains net.site) (if t then record { batch = e.batch; checkpointed = None } else w.in_doubt u).batch) v new (λ u ne. h.doubts u);
      })
      (λ numbered fits. record { table = replays net.site v e.batch w.durable new h.table; doubts = h.doubts })

  handles : (v : ℕ) (event : Event) (environment : Environment) → AllRecords (TeachesChains net.site) (decided net w v event) → AreChained net (handle net w v event environment).0
  handles v event environment new =
      handle_walk net w (AreChained net) h v event environment (λ up e is. performs v _ environment e (subst (AllRecords (TeachesChains net.site)) is new))

  asks : (v : ℕ) (event : Event) (environment : Environment) → is_enabled net w (Ask v event environment) ≡ true → AreChained net (handle net w v event environment).0
  unfolding is_enabled
  asks v event environment may =
      handles v event environment (event_chains net.site (TeachesChains net.site) (of_chains net.site) (view_of net w v) (seen_all net w v h.table) net.sealing w.link_up _ event
      (and_right (is_node net v) (is_asked event) (and_left (is_node net v && is_asked event) (is_valid_event net.site v event) may)))

  takes : (v link : ℕ) (environment : Environment) → AreChained net (take_block net w v link environment).0
  takes v link environment =
      take_block_walk net w (AreChained net) h v link environment
      (λ not_full. handles v (Block link (blocks_at net w v link) (block_at (net.device link) (blocks_at net w v link))) environment
      (block_chains net w v link (block_at (net.device link) (blocks_at net w v link))))

  completes : (v : ℕ) → AreChained net (complete_node net w v).0
  completes v = let x = handles v (Note (w.placings v)) Ok (note_chains net w v) in record { table = x.table; doubts = x.doubts }

  -- A frame that comes carries a fact of the table.

  module _ (l : Lane) (environment : Environment) where
    carried : (i : Item) (p : Payload) → payload w.durable.facts i ≡ Some p → (f : Fact) → p ≡ Data f → GoesOverLinks net.site f
    carried (DataItem n) p at f is = of_table (fact_at w.durable.facts n) refl at
      where
        of_table : (o : Option Fact) → fact_at w.durable.facts n ≡ o → data_payload o ≡ Some p → GoesOverLinks net.site f
        of_table None there e = cc
        of_table (Some g) there e =
            let found = found_at _ w.durable.facts g there in
            let same : g ≡ f = cc in
            subst (GoesOverLinks net.site) same (all_at (GoesOverLinks net.site) w.durable.facts found.0 g h.table found.1)
    carried (AckItem n) p at f is = cc

    item : (offset : ℕ) (i : Item) (o : Option Payload) → payload w.durable.facts i ≡ o → AreChained net (receive_item net w l offset environment o).0
    item offset i None at = h
    item offset i (Some p) at =
        performs (receiver net.site l) 0 environment _
        (receives net.site (view_of net w (receiver net.site l)) l offset p (carried i p at))

    came : (j : ℕ) (a : Allocation) → slice_get (w.frames l) j ≡ Some a → w.up (receiver net.site l) ≡ true →
        AreChained net (receive_item net w l a.offset environment (payload w.durable.facts a.item)).0
    came j a at up = item a.offset a.item (payload w.durable.facts a.item) refl

  -- Starts.

  settled : (v : ℕ) (committed : Bool) → AllByRecursion (GoesOverLinks net.site) (resolved net.site w v committed).durable.facts
  settled v true = replays net.site v (w.in_doubt v).batch w.durable (h.doubts v) h.table
  settled v false = h.table

  restarts : (v : ℕ) (recovery : Recovery) → AreChained net (recovers net w v recovery).0
  unfolding restarted
  restarts v (Recovers committed) = record {
    table = settled v committed;
    doubts = by_number (λ u t. AllByRecursion (TeachesChains net.site) (if t then no_doubt else w.in_doubt u).batch) v tt (λ u ne. h.doubts u);
  }
  restarts v (Resumes committed) = record {
    table = subst (λ (d : Durable). AllByRecursion (GoesOverLinks net.site) d.facts) (sym (resumed_durable net w v committed)) (settled v committed);
    doubts = by_number (λ u t. AllByRecursion (TeachesChains net.site) (if t then no_doubt else if t then record (w.in_doubt v) { checkpointed = Some committed } else w.in_doubt u).batch) v tt (λ u ne. h.doubts u);
  }
  restarts v (Interrupted None) = record { table = h.table; doubts = h.doubts }
  restarts v (Interrupted (Some committed)) = record {
    table = h.table;
    doubts = by_number (λ u t. AllByRecursion (TeachesChains net.site) (if t then record (w.in_doubt v) { checkpointed = Some committed } else w.in_doubt u).batch) v (h.doubts v) (λ u ne. h.doubts u);
  }
  restarts v NoMemory = h
  restarts v Foreign = h

  starts : (v : ℕ) (recovery : Recovery) → AreChained net (start net w v recovery).0
  unfolding start
  starts v recovery = by_test (λ (r : World × Outcome). AreChained net r.0) (w.up v) _ _ (λ up. h) (λ down. restarts v recovery)

  crashes : (v : ℕ) → AreChained net (crash w v).0
  crashes v = by_test (λ (r : World × Outcome). AreChained net r.0) (w.up v) _ _ (λ up. record { table = h.table; doubts = h.doubts }) (λ down. h)

  claims : (t : Transmission) → AreChained net (allocate w t).0
  unfolding allocate
  claims t = record { table = h.table; doubts = h.doubts }

  puts : (l : Lane) (environment : Environment) (o : Option Outgoing) → AreChained net (transmit_one net w l environment o).0
  puts l environment None = h
  puts l environment (Some o) =
      by_test (λ (r : World × Outcome). AreChained net r.0) (is_no_memory environment || is_io_fault environment) _ _ (λ e. record { table = h.table; doubts = h.doubts })
      (λ e. record { table = h.table; doubts = h.doubts })

  pub action_chained : (a : Action) → is_enabled net w a ≡ true → AreChained net (step net w a).0
  unfolding step transmit
  action_chained (Start v recovery) may = starts v recovery
  action_chained (Crash v) may = crashes v
  action_chained (Arm v fault) may = h
  action_chained (SetLink link up) may = record { table = h.table; doubts = h.doubts }
  action_chained (TakeBlock v link environment) may = takes v link environment
  action_chained (Ask v event environment) may = asks v event environment may
  action_chained (Allocate t) may = claims t
  action_chained (Transmit l j environment) may = puts l environment (outgoing_of j (w.outgoing l))
  action_chained (Complete v) may = completes v
  action_chained (Deliver l number environment) may = deliver_walk net w (AreChained net) h l environment (came l environment) number
  action_chained (Flip l number bit environment) may = flip_walk net w (AreChained net) h l environment (came l environment) number bit
  action_chained (Forge l octets environment) may = tampered_walk net w (AreChained net) h l environment (came l environment) octets

-- Runs.

pub first_chained : (net : Network) → AreChained net first
unfolding first
first_chained net = record { table = tt; doubts = λ v. tt }

pub run_chained : (net : Network) (actions : List Action) (w : World) → AreChained net w → IsRun net w actions → AreChained net (run net w actions)
unfolding run is_run
run_chained net [] w h r = h
run_chained net (a ∷ actions) w h r =
    let new : World = (step net w a).0 in
    let here = and_left (is_step net w a) (is_run net new actions) r in
    run_chained net actions new (action_chained net w h a (and_left (is_enabled net w a) (is_shown (environment_of a) (step net w a).1) here))
    (and_right (is_step net w a) (is_run net new actions) r)

pub chain_of : (net : Network) (w : World) → AreChained net w → (n : Name) (f : Fact) → fact_at w.durable.facts n ≡ Some f → GoesOverLinks net.site f
chain_of net w h n f there = let found = found_at _ w.durable.facts f there in all_at (GoesOverLinks net.site) w.durable.facts found.0 f h.table found.1
