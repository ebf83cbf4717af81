-- Every action keeps the facts of targets noted, so every run does.
use Rattle.std.proofs.Common.{◌≡◌, ℕ, zero, suc, Bool, true, false, ◌&&◌, ◌||◌, List, [], ◌∷◌, refl, sym, subst, Option, Some, None}
use Rattle.std.specs.Prelude.{◌==◌, slice_get, if◌then◌else◌}
use Rattle.std.proofs.lemmas.Bool.{ltb-true}
use Rattle.qkd_base.specs.declared.lane.Lane.{Lane}
use Rattle.net_model.specs.declared.event.Event.{Event}
use Rattle.net_model.specs.declared.event.Event.TheVariants.{Block, Note}
use Rattle.net_model.specs.declared.payload.Payload.{Payload}
use Rattle.net_model.specs.declared.record.Record.TheVariants.{Block as Block'}
use Rattle.net_model.specs.declared.reply.Reply.TheVariants.{LinkFull, Took}
use Rattle.net_model.specs.Premises.{IsNetwork}
use Rattle.net_model.specs.Item.{payload}
use Rattle.net_model.specs.Site.{receiver, outgoing_lane, is_incident}
use Rattle.net_model.specs.OctetSequence.{block_at}
use Rattle.net_model.specs.World.{Network, World, Durable, Allocation, Transmission, Outgoing, no_doubt, first}
use Rattle.net_model.specs.View.{port_of, blocks_of}
use Rattle.net_model.specs.Needed.{masked, view_of}
use Rattle.net_model.specs.Relay.{receive}
use Rattle.net_model.specs.Decision.{Refuses, makes}
use Rattle.net_model.specs.Decide.{decide}
use Rattle.net_model.specs.Events.{is_valid_event}
use Rattle.net_model.specs.Invariant.{Conserved}
use Rattle.net_model.specs.Action.{Environment, Ok, Action, Start, Crash, Arm, SetLink, TakeBlock, Ask, Allocate, Transmit, Complete, Deliver, Flip, Forge, Recovery, Recovers, Resumes, Interrupted, NoMemory, Foreign, Outcome, is_no_memory, is_io_fault, is_shown, environment_of}
use Rattle.net_model.specs.Handle.{blocks_at, take_block, handle}
use Rattle.net_model.specs.Frames.{receive_item, deliver, tampered, flip, allocate, transmit_one, transmit, outgoing_of}
use Rattle.net_model.specs.Start.{resolved, restarted, interrupted_start, recovers, start}
use Rattle.net_model.specs.Step.{crash, complete_node, step, is_node, is_link, is_asked, is_enabled, is_step, run, is_run, IsRun}
use Rattle.law_base.proofs.Base.{below_from, by_number, by_test, and_left, and_right}
use Rattle.law_base.proofs.Walks.{take_block_walk, deliver_walk, tampered_walk, flip_walk}
use Rattle.law_base.proofs.Resuming.{resumed_durable}
use Rattle.law_invariant.specs.May.{decided}
use Rattle.law_invariant.proofs.Decisions.{receive_may}
use Rattle.law_invariant.proofs.Steps.{first_keeps, step_keeps}
use Rattle.law_quiet.specs.Noted.{AreNoted, NotesAll, IsNoted}
use Rattle.law_quiet.proofs.Noting.{replay_notes}
use Rattle.law_quiet.proofs.NotedEffects.{DecidesNoted, perform_noted, handle_noted, event_notes, receive_notes}

module _ (net : Network) (w : World) (c : Conserved net w) (noted : IsNoted w) where
  -- A frame is passed, unchanged or changed.

  module _ (l : Lane) (environment : Environment) where
    item_noted : (j : ℕ) (a : Allocation) → slice_get (w.frames l) j ≡ Some a → (o : Option Payload) → payload w.durable.facts a.item ≡ o →
        IsNoted (receive_item net w l a.offset environment o).0
    item_noted j a at None e = noted
    item_noted j a at (Some p) e =
        perform_noted net w c noted (receiver net.site l) 0 environment (receive net.site (view_of net w (receiver net.site l)) l a.offset p)
        (λ numbered. record { may = receive_may net w l j a.offset a p c at e numbered; notes = receive_notes net w (receiver net.site l) l a.offset p })

    came_noted : (j : ℕ) (a : Allocation) → slice_get (w.frames l) j ≡ Some a → w.up (receiver net.site l) ≡ true →
        IsNoted (receive_item net w l a.offset environment (payload w.durable.facts a.item)).0
    came_noted j a at up = item_noted j a at (payload w.durable.facts a.item) refl

    deliver_noted : (number : ℕ) → IsNoted (deliver net w l number environment).0
    deliver_noted number = deliver_walk net w IsNoted noted l environment came_noted number

    tampered_noted : (octets : List ℕ) → IsNoted (tampered net w l octets environment).0
    tampered_noted octets = tampered_walk net w IsNoted noted l environment came_noted octets

    flip_noted : (number bit : ℕ) → IsNoted (flip net w l number bit environment).0
    flip_noted number bit = flip_walk net w IsNoted noted l environment came_noted number bit

  -- Blocks of bytes and notes of placings teach nothing.

  no_fact : (v link number : ℕ) (bytes : List ℕ) → NotesAll v (Block' link number bytes ∷ [])
  no_fact v link number bytes zero f h secret here = cc
  no_fact v link number bytes (suc k) f h secret here = cc

  block_decides : (v link : ℕ) (bytes : List ℕ) → is_incident net.site v link ≡ true → (blocks_at net w v link == 1024) ≡ false →
      DecidesNoted net w v (decided net w v (Block link (blocks_at net w v link) bytes))
  unfolding decide view_of masked
  block_decides v link bytes incident not_full =
      let number : ℕ = blocks_at net w v link in
      by_test (DecidesNoted net w v) (blocks_of (port_of (view_of net w v) link) == 1024) (Refuses LinkFull) (makes (view_of net w v) (Block' link number bytes ∷ []) (Took number))
      (λ full. tt)
      (λ x numbered. record {
        may = (
          (incident, refl, below_from (w.durable.blocks (outgoing_lane net.site v link)) 1024 (c.few_blocks (outgoing_lane net.site v link)) not_full),
          tt,
        );
        notes = no_fact v link number bytes;
      })

  take_block_noted : (v link : ℕ) (environment : Environment) → is_incident net.site v link ≡ true → IsNoted (take_block net w v link environment).0
  take_block_noted v link environment incident =
      take_block_walk net w IsNoted noted v link environment
      (λ not_full. handle_noted net w c noted v (Block link (blocks_at net w v link) (block_at (net.device link) (blocks_at net w v link))) environment
      (λ up. block_decides v link (block_at (net.device link) (blocks_at net w v link)) incident not_full))

  note_decides : (v : ℕ) → DecidesNoted net w v (decided net w v (Note (w.placings v)))
  unfolding decide
  note_decides v numbered = record { may = tt; notes = λ k f h. cc }

  complete_noted : (v : ℕ) → IsNoted (complete_node net w v).0
  complete_noted v =
      let h = handle_noted net w c noted v (Note (w.placings v)) Ok (λ up. note_decides v) in
      record { table = h.table; doubts = h.doubts }

  ask_noted : IsNetwork net → (v : ℕ) (event : Event) (environment : Environment) → is_enabled net w (Ask v event environment) ≡ true → IsNoted (handle net w v event environment).0
  unfolding is_enabled
  ask_noted network v event environment may =
      let prefix = and_left (is_node net v && is_asked event) (is_valid_event net.site v event) may in
      handle_noted net w c noted v event environment
      (λ up. event_notes net w network c v up event (ltb-true v net.site.nodes (and_left (is_node net v) (is_asked event) prefix)) (and_right (is_node net v) (is_asked event) prefix)
      (and_right (is_node net v && is_asked event) (is_valid_event net.site v event) may))

  -- Lemmas on starts.

  resolved_table : (v : ℕ) (committed : Bool) → AreNoted (resolved net.site w v committed).durable.facts (resolved net.site w v committed).durable.known
  resolved_table v true = replay_notes net.site w.durable v (w.in_doubt v).batch (c.doubts v) c.now.knowledge noted.table (noted.doubts v)
  resolved_table v false = noted.table

  restarted_noted : (v : ℕ) (committed : Bool) → IsNoted (restarted net (resolved net.site w v committed) v)
  unfolding restarted
  restarted_noted v committed = record {
    table = resolved_table v committed;
    doubts = by_number (λ u t. NotesAll u (if t then no_doubt else w.in_doubt u).batch) v (λ k f h. cc) (λ u ne. noted.doubts u);
  }

  resumed_noted : (v : ℕ) (committed : Bool) → IsNoted (restarted net (resolved net.site (interrupted_start net w v (Some committed)) v committed) v)
  unfolding restarted
  resumed_noted v committed = record {
    table = subst (λ (d : Durable). AreNoted d.facts d.known) (sym (resumed_durable net w v committed)) (resolved_table v committed);
    doubts = by_number (λ u t. NotesAll u (if t then no_doubt else if t then record (w.in_doubt v) { checkpointed = Some committed } else w.in_doubt u).batch) v (λ k f h. cc) (λ u ne. noted.doubts u);
  }

  interrupted_noted : (v : ℕ) (made : Option Bool) → IsNoted (interrupted_start net w v made)
  interrupted_noted v None = record { table = noted.table; doubts = noted.doubts }
  interrupted_noted v (Some committed) = record {
    table = noted.table;
    doubts = by_number (λ u t. NotesAll u (if t then record (w.in_doubt v) { checkpointed = Some committed } else w.in_doubt u).batch) v (noted.doubts v) (λ u ne. noted.doubts u);
  }

  recovers_noted : (v : ℕ) (recovery : Recovery) → IsNoted (recovers net w v recovery).0
  recovers_noted v (Recovers committed) = restarted_noted v committed
  recovers_noted v (Resumes committed) = resumed_noted v committed
  recovers_noted v (Interrupted made) = interrupted_noted v made
  recovers_noted v NoMemory = noted
  recovers_noted v Foreign = noted

  abbrev Kept : World × Outcome → Type 0
  Kept r = IsNoted r.0

  start_noted : (v : ℕ) (recovery : Recovery) → Kept (start net w v recovery)
  unfolding start
  start_noted v recovery = by_test Kept (w.up v) _ _ (λ e. noted) (λ e. recovers_noted v recovery)

  -- Other actions change neither the table nor what nodes know.

  crash_noted : (v : ℕ) → Kept (crash w v)
  crash_noted v = by_test Kept (w.up v) _ _ (λ e. record { table = noted.table; doubts = noted.doubts }) (λ e. noted)

  allocate_noted : (t : Transmission) → Kept (allocate w t)
  unfolding allocate
  allocate_noted t = record { table = noted.table; doubts = noted.doubts }

  put_noted : (l : Lane) (environment : Environment) (o : Option Outgoing) → Kept (transmit_one net w l environment o)
  put_noted l environment None = noted
  put_noted l environment (Some o) =
      by_test Kept (is_no_memory environment || is_io_fault environment) _ _ (λ e. record { table = noted.table; doubts = noted.doubts })
      (λ e. record { table = noted.table; doubts = noted.doubts })

  transmit_noted : (l : Lane) (j : ℕ) (environment : Environment) → Kept (transmit net w l j environment)
  unfolding transmit
  transmit_noted l j environment = put_noted l environment (outgoing_of j (w.outgoing l))

  incident_is : (v link : ℕ) (environment : Environment) → is_enabled net w (TakeBlock v link environment) ≡ true → is_incident net.site v link ≡ true
  unfolding is_enabled
  incident_is v link environment may = and_right (is_node net v && is_link net link) (is_incident net.site v link) may

  pub action_noted : IsNetwork net → (a : Action) → is_enabled net w a ≡ true → Kept (step net w a)
  unfolding step
  action_noted network (Start v recovery) may = start_noted v recovery
  action_noted network (Crash v) may = crash_noted v
  action_noted network (Arm v fault) may = noted
  action_noted network (SetLink link up) may = record { table = noted.table; doubts = noted.doubts }
  action_noted network (TakeBlock v link environment) may = take_block_noted v link environment (incident_is v link environment may)
  action_noted network (Ask v event environment) may = ask_noted network v event environment may
  action_noted network (Allocate t) may = allocate_noted t
  action_noted network (Transmit l j environment) may = transmit_noted l j environment
  action_noted network (Complete v) may = complete_noted v
  action_noted network (Deliver l number environment) may = deliver_noted l environment number
  action_noted network (Flip l number bit environment) may = flip_noted l environment number bit
  action_noted network (Forge l octets environment) may = tampered_noted l environment octets

-- Lemmas on runs.

pub first_noted : IsNoted first
unfolding first
first_noted = record { table = λ n f h. cc; doubts = λ v k f h. cc }

run_from : (net : Network) → IsNetwork net → (actions : List Action) (w : World) → Conserved net w → IsNoted w → IsRun net w actions → IsNoted (run net w actions)
unfolding run is_run
run_from net network [] w c noted h = noted
run_from net network (a ∷ actions) w c noted h =
    let new : World = (step net w a).0 in
    let here = and_left (is_step net w a) (is_run net new actions) h in
    run_from net network actions new (step_keeps net w a network here c)
    (action_noted net w c noted network a (and_left (is_enabled net w a) (is_shown (environment_of a) (step net w a).1) here))
    (and_right (is_step net w a) (is_run net new actions) h)

pub run_noted : (net : Network) (actions : List Action) → IsNetwork net → IsRun net first actions → IsNoted (run net first actions)
run_noted net actions network h = run_from net network actions first (first_keeps net) first_noted h
