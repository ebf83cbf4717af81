-- Each action leaves the lanes that it doesn't touch as they were.
use Rattle.std.proofs.Common.{◌≡◌, ◌≢◌, ℕ, Bool, true, false, ◌&&◌, ◌||◌, List, [], ◌∷◌, refl, sym, ◌∙◌, ap, subst, Option, Some, None}
use Rattle.std.specs.Prelude.{◌==◌, slice_get, if◌then◌else◌}
use Rattle.std.proofs.lemmas.Bool.{ltb-true}
use Rattle.qkd_base.specs.Lane.{lane_eq}
use Rattle.qkd_base.specs.declared.lane.Lane.{Lane}
use Rattle.net_model.specs.declared.event.Event.{Event}
use Rattle.net_model.specs.declared.event.Event.TheVariants.{Block, Plan, Note}
use Rattle.net_model.specs.declared.payload.Payload.{Payload}
use Rattle.net_model.specs.declared.payload.Payload.TheVariants.{Data, Ack}
use Rattle.net_model.specs.declared.placing.Placing.{Placing}
use Rattle.net_model.specs.declared.record.Record.TheVariants.{Block as Block'}
use Rattle.net_model.specs.declared.reply.Reply.TheVariants.{LinkFull, Took, Noted}
use Rattle.net_model.specs.Premises.{IsNetwork}
use Rattle.net_model.specs.OctetSequence.{octets_from, block_at}
use Rattle.net_model.specs.Item.{payload}
use Rattle.net_model.specs.Relay.{receive_fact, receive_ack, receive}
use Rattle.net_model.specs.Site.{Site, sender, receiver, outgoing_lane}
use Rattle.net_model.specs.World.{Network, World, Durable, Journal, InDoubt, Allocation, Transmission, Outgoing}
use Rattle.net_model.specs.View.{View, port_of, blocks_of}
use Rattle.net_model.specs.Needed.{view_of}
use Rattle.net_model.specs.Window.{complete}
use Rattle.net_model.specs.Plan.{plan}
use Rattle.net_model.specs.Decision.{Refuses, Does, Effect, makes}
use Rattle.net_model.specs.Decide.{decide, random_need}
use Rattle.net_model.specs.Events.{is_lane, is_valid_event}
use Rattle.net_model.specs.Invariant.{Conserved}
use Rattle.net_model.specs.Action.{Environment, Ok, Action, Start, Crash, Arm, SetLink, TakeBlock, Ask, Allocate, Transmit, Complete, Deliver, Flip, Forge, Recovery, Recovers, Resumes, Interrupted, NoMemory, Foreign, Outcome, is_no_memory, is_io_fault}
use Rattle.net_model.specs.Handle.{perform, handle, blocks_at, take_block}
use Rattle.net_model.specs.Frames.{receive_item, allocate, outgoing_of, put, transmit_one, transmit}
use Rattle.net_model.specs.Start.{resolved, resolved_durable, burnt_to, leaves, restarted, interrupted_start, recovers, start}
use Rattle.net_model.specs.Step.{step, crash, complete_node, is_node, is_asked, is_enabled}
use Rattle.law_base.proofs.Base.{and_left, and_right, by_test, eq_from, eq_same, not_false, not_both}
use Rattle.law_base.proofs.Resuming.{resumed_durable}
use Rattle.law_base.proofs.Walks.{handle_walk, take_block_walk, deliver_walk, tampered_walk, flip_walk}
use Rattle.law_invariant.specs.May.{is_plan, MayMake, MayDecide}
use Rattle.law_invariant.proofs.Decisions.{event_may, plan_is}
use Rattle.law_locality.proofs.Durables.{other_replay}
use Rattle.law_locality.proofs.Turns.{asked_turn}
use Rattle.law_locality.specs.Touched.{touches_lane, LaneStays}
use Rattle.law_locality.proofs.Spared.{DecisionSpares, asked_spares, received_spares}
use Rattle.law_locality.proofs.Repeats.{plan_repeats_of, repeats_elsewhere}
use Rattle.law_locality.proofs.Lanes.{unchanged, other_lane, SameLane, spared, other_block, silent_lane, away_lane}

-- A received frame makes its manager send nothing at once.
sends_nothing : (site : Site) (v : View) (k : Lane) (offset : ℕ) (p : Payload) → ((receive site v k offset p).orders ≡ []) × ((receive site v k offset p).repeats ≡ [])
unfolding receive_fact receive_ack
sends_nothing site v k offset (Data f) = (refl, refl)
sends_nothing site v k offset (Ack n) = (refl, refl)

module _ (net : Network) (w : World) (l : Lane) where
  -- Lemmas on events asked of a manager.

  asked_lane : IsNetwork net → Conserved net w → (v : ℕ) (event : Event) (environment : Environment) → is_enabled net w (Ask v event environment) ≡ true →
      is_plan event ≡ false → LaneStays l w (handle net w v event environment).0
  unfolding is_enabled
  asked_lane network c v event environment may other =
      let prefix = and_left (is_node net v && is_asked event) (is_valid_event net.site v event) may in
      let valid = and_right (is_node net v && is_asked event) (is_valid_event net.site v event) may in
      let here = ltb-true v net.site.nodes (and_left (is_node net v) (is_asked event) prefix) in
      let asked = and_right (is_node net v) (is_asked event) prefix in
      let decides = event_may net w v event network c here asked other valid in
      let spares = asked_spares net.site w.link_up (view_of net w v) net.sealing (octets_from (net.entropy v).octet (w.drawn v) (random_need (view_of net w v) event)) event asked other in
      handle_walk net w (LaneStays l w) (unchanged l w) v event environment (λ up e is.
      let making : MayMake net w v e = subst (MayDecide net w v) is decides in
      silent_lane net w l v (random_need (view_of net w v) event) environment e making.orders making.repeats (spared net.site v l e.batch (subst DecisionSpares is spares) w.durable))

  plan_lane : IsNetwork net → Conserved net w → (v : ℕ) (environment : Environment) → is_enabled net w (Ask v Plan environment) ≡ true → sender net.site l ≢ v →
      LaneStays l w (handle net w v Plan environment).0
  unfolding decide
  plan_lane network c v environment may apart =
      let planned : Effect = plan net.site w.link_up (view_of net w v) in
      let turn = asked_turn net w network c v Plan environment may in
      let repeats = repeats_elsewhere net.site v l apart planned.repeats w.frames w.outgoing (plan_repeats_of net w v c) in
      handle_walk net w (LaneStays l w) (unchanged l w) v Plan environment (λ up e is.
      let same : planned ≡ e = cc in
      subst (λ (x : Effect). LaneStays l w (perform net w v (random_need (view_of net w v) Plan) environment x).0) same
      (away_lane net w l c v apart (random_need (view_of net w v) Plan) environment planned turn repeats))

  event_lane : IsNetwork net → Conserved net w → (v : ℕ) (event : Event) (environment : Environment) → is_enabled net w (Ask v event environment) ≡ true →
      (is_plan event && (sender net.site l == v)) ≡ false → LaneStays l w (handle net w v event environment).0
  event_lane network c v event environment may h =
      elim (is_plan event) as (λ t. is_plan event ≡ t → (t && (sender net.site l == v)) ≡ false → LaneStays l w (handle net w v event environment).0) [
        | true ↦ λ is away.
            let plans : event ≡ Plan = plan_is event is in
            subst (λ (x : Event). LaneStays l w (handle net w v x environment).0) (sym plans)
            (plan_lane network c v environment (subst (λ (x : Event). is_enabled net w (Ask v x environment) ≡ true) plans may)
            (λ e. not_both (sender net.site l == v) (ap (λ (n : ℕ). n == v) e ∙ eq_same v) away))
        | false ↦ λ other away. asked_lane network c v event environment may other
      ] refl h

  -- Lemmas on blocks of bytes and on notes.

  block_lane : (v link : ℕ) (environment : Environment) → lane_eq l (outgoing_lane net.site v link) ≡ false → LaneStays l w (take_block net w v link environment).0
  unfolding decide
  block_lane v link environment apart =
      let number : ℕ = blocks_at net w v link in
      let bytes : List ℕ = block_at (net.device link) number in
      let taken : Effect = record { batch = Block' link number bytes ∷ []; volatile = (view_of net w v).volatile; orders = []; repeats = []; reply = Took number } in
      let octets : ℕ = random_need (view_of net w v) (Block link number bytes) in
      take_block_walk net w (LaneStays l w) (unchanged l w) v link environment (λ not_full.
      handle_walk net w (LaneStays l w) (unchanged l w) v (Block link number bytes) environment (λ up e is.
      elim (blocks_of (port_of (view_of net w v) link) == 1024) as (λ t. (if t then Refuses LinkFull else makes (view_of net w v) (Block' link number bytes ∷ []) (Took number)) ≡ Does e →
      LaneStays l w (perform net w v octets environment e).0) [
        | true ↦ λ x. absurd (cc)
        | false ↦ λ x.
            let same : taken ≡ e = cc in
            subst (λ (k : Effect). LaneStays l w (perform net w v octets environment k).0) same
            (silent_lane net w l v octets environment taken refl refl (other_block net.site v link number bytes l apart w.durable))
      ] is))

  note_handled : (v : ℕ) (placings : List Placing) → LaneStays l w (handle net w v (Note placings) Ok).0
  unfolding decide
  note_handled v placings =
      let see : View = view_of net w v in
      let noted : Effect = record { batch = []; volatile = complete see.acked see.volatile placings; orders = []; repeats = []; reply = Noted } in
      let octets : ℕ = random_need see (Note placings) in
      handle_walk net w (LaneStays l w) (unchanged l w) v (Note placings) Ok (λ up e is.
      let same : noted ≡ e = cc in
      subst (λ (k : Effect). LaneStays l w (perform net w v octets Ok k).0) same (silent_lane net w l v octets Ok noted refl refl (spared net.site v l [] tt w.durable)))

  note_lane : (v : ℕ) → LaneStays l w (complete_node net w v).0
  note_lane v =
      let h = note_handled v (w.placings v) in
      record { blocks = h.blocks; own = h.own; lease = h.lease; recovered = h.recovered; frames = h.frames; wire = h.wire; unclaimed = h.unclaimed; outgoing = h.outgoing }

  -- Lemmas on frames that come, on any lane.

  item_lane : (k : Lane) (offset : ℕ) (environment : Environment) (o : Option Payload) → LaneStays l w (receive_item net w k offset environment o).0
  item_lane k offset environment None = unchanged l w
  item_lane k offset environment (Some p) =
      let v : ℕ = receiver net.site k in
      let e : Effect = receive net.site (view_of net w v) k offset p in
      silent_lane net w l v 0 environment e (sends_nothing net.site (view_of net w v) k offset p).0 (sends_nothing net.site (view_of net w v) k offset p).1
      (spared net.site v l e.batch (received_spares net.site (view_of net w v) k offset p) w.durable)

  frame_lane : (k : Lane) (environment : Environment) (j : ℕ) (a : Allocation) → slice_get (w.frames k) j ≡ Some a → w.up (receiver net.site k) ≡ true →
      LaneStays l w (receive_item net w k a.offset environment (payload w.durable.facts a.item)).0
  frame_lane k environment j a at up = item_lane k a.offset environment (payload w.durable.facts a.item)

  -- Lemmas on claims and puts.

  claim_lane : (t : Transmission) → lane_eq l t.lane ≡ false → LaneStays l w (allocate w t).0
  unfolding allocate
  claim_lane t apart =
      record {
        blocks = refl;
        own = other_lane w.durable.own t.lane l _ apart;
        lease = refl;
        recovered = refl;
        frames = other_lane w.frames t.lane l _ apart;
        wire = refl;
        unclaimed = other_lane w.unclaimed t.lane l _ apart;
        outgoing = other_lane w.outgoing t.lane l _ apart;
      }

  put_lane : (k : Lane) → lane_eq l k ≡ false → (o : Outgoing) (wire : List ℕ) (number : Option ℕ) → LaneStays l w (put net w k o wire number)
  put_lane k apart o wire number =
      record {
        blocks = refl;
        own = refl;
        lease = refl;
        recovered = refl;
        frames = refl;
        wire = other_lane w.wire k l wire apart;
        unclaimed = refl;
        outgoing = other_lane w.outgoing k l _ apart;
      }

  one_lane : (k : Lane) → lane_eq l k ≡ false → (environment : Environment) (o : Option Outgoing) → LaneStays l w (transmit_one net w k environment o).0
  one_lane k apart environment None = unchanged l w
  one_lane k apart environment (Some o) =
      by_test (λ (r : World × Outcome). LaneStays l w r.0) (is_no_memory environment || is_io_fault environment) _ _ (λ x. put_lane k apart o _ _) (λ x. put_lane k apart o _ _)

  sent_lane : (k : Lane) → lane_eq l k ≡ false → (j : ℕ) (environment : Environment) → LaneStays l w (transmit net w k j environment).0
  unfolding transmit
  sent_lane k apart j environment = one_lane k apart environment (outgoing_of j (w.outgoing k))

  -- Lemmas on crashes and starts.

  crash_lane : (v : ℕ) → LaneStays l w (crash w v).0
  crash_lane v =
      by_test (λ (r : World × Outcome). LaneStays l w r.0) (w.up v) _ _
      (λ up. record { blocks = refl; own = refl; lease = refl; recovered = refl; frames = refl; wire = refl; unclaimed = refl; outgoing = refl }) (λ down. unchanged l w)

  module _ (c : Conserved net w) (v : ℕ) (apart : sender net.site l ≢ v) where
    settled : (committed : Bool) → SameLane l w.durable (resolved_durable net.site w v committed)
    settled true =
        let same = other_replay net.site (sender net.site l) v apart w.durable w.frames w.unclaimed c.now (w.in_doubt v).batch (c.doubts v) in
        record { blocks = same.extends.taken l refl; own = same.own l refl; lease = same.extends.leases l refl }
    settled false = record { blocks = refl; own = refl; lease = refl }

    not_its : leaves net.site v l ≡ false
    not_its = not_false (leaves net.site v l) (λ e. apart (eq_from (sender net.site l) v (and_right (is_lane net.site l) (sender net.site l == v) e)))

    -- Lemmas on a start, whatever doubt it settled and wherever it moved the journal.
    started : (d : Durable) (journal : ℕ → Journal) (in_doubt : ℕ → InDoubt) → SameLane l w.durable d →
        LaneStays l w (restarted net (record w { durable = d; journal = journal; in_doubt = in_doubt }) v)
    unfolding restarted
    started d journal in_doubt same =
        record {
          blocks = same.blocks;
          own = ap (λ (b : Bool). if b then burnt_to (d.lease l) (d.own l) else d.own l) not_its ∙ same.own;
          lease = same.lease;
          recovered = ap (λ (b : Bool). if b then d.lease l else w.recovered l) not_its;
          frames = refl;
          wire = refl;
          unclaimed = refl;
          outgoing = refl;
        }

    interrupted : (made : Option Bool) → LaneStays l w (interrupted_start net w v made)
    interrupted None = record { blocks = refl; own = refl; lease = refl; recovered = refl; frames = refl; wire = refl; unclaimed = refl; outgoing = refl }
    interrupted (Some committed) = record { blocks = refl; own = refl; lease = refl; recovered = refl; frames = refl; wire = refl; unclaimed = refl; outgoing = refl }

    recovery_lane : (recovery : Recovery) → LaneStays l w (recovers net w v recovery).0
    recovery_lane (Recovers committed) =
        let next : World = resolved net.site w v committed in
        started next.durable next.journal next.in_doubt (settled committed)
    recovery_lane (Resumes committed) =
        let next : World = resolved net.site (interrupted_start net w v (Some committed)) v committed in
        started next.durable next.journal next.in_doubt (subst (SameLane l w.durable) (sym (resumed_durable net w v committed)) (settled committed))
    recovery_lane (Interrupted made) = interrupted made
    recovery_lane NoMemory = unchanged l w
    recovery_lane Foreign = unchanged l w

    start_lane : (recovery : Recovery) → LaneStays l w (start net w v recovery).0
    unfolding start
    start_lane recovery = by_test (λ (r : World × Outcome). LaneStays l w r.0) (w.up v) _ _ (λ up. unchanged l w) (λ down. recovery_lane recovery)

  pub step_lane : IsNetwork net → Conserved net w → (a : Action) → is_enabled net w a ≡ true → touches_lane net.site a l ≡ false → LaneStays l w (step net w a).0
  unfolding step
  step_lane network c (Start v recovery) may h = start_lane c v (λ e. not_both (sender net.site l == v) (ap (λ (n : ℕ). n == v) e ∙ eq_same v) h) recovery
  step_lane network c (Crash v) may h = crash_lane v
  step_lane network c (Arm v fault) may h = unchanged l w
  step_lane network c (SetLink link up) may h =
      record { blocks = refl; own = refl; lease = refl; recovered = refl; frames = refl; wire = refl; unclaimed = refl; outgoing = refl }
  step_lane network c (TakeBlock v link environment) may h = block_lane v link environment h
  step_lane network c (Ask v event environment) may h = event_lane network c v event environment may h
  step_lane network c (Allocate t) may h = claim_lane t h
  step_lane network c (Transmit k j environment) may h = sent_lane k h j environment
  step_lane network c (Complete v) may h = note_lane v
  step_lane network c (Deliver k number environment) may h = deliver_walk net w (LaneStays l w) (unchanged l w) k environment (frame_lane k environment) number
  step_lane network c (Flip k number bit environment) may h = flip_walk net w (LaneStays l w) (unchanged l w) k environment (frame_lane k environment) number bit
  step_lane network c (Forge k octets environment) may h = tampered_walk net w (LaneStays l w) (unchanged l w) k environment (frame_lane k environment) octets
