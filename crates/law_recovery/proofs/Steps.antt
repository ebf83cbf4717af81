-- Each step of the network adds at most one batch to a node's journal.
use Rattle.std.proofs.Common.{◌≡◌, ◌≢◌, ℕ, ◌<◌, Bool, true, false, ◌&&◌, ◌||◌, List, [], ◌∷◌, refl, sym, ◌∙◌, ap, subst, Option, Some, None, inl, inr}
use Rattle.std.specs.Prelude.{◌==◌, slice_get, if◌then◌else◌}
use Rattle.std.proofs.lemmas.Bool.{ltb-true}
use Rattle.qkd_base.specs.Family.{number_set}
use Rattle.qkd_base.specs.declared.lane.Lane.{Lane}
use Rattle.net_model.specs.declared.event.Event.{Event}
use Rattle.net_model.specs.declared.event.Event.TheVariants.{Block, Note}
use Rattle.net_model.specs.declared.payload.Payload.{Payload}
use Rattle.net_model.specs.declared.placing.Placing.{Placing}
use Rattle.net_model.specs.declared.record.Record.TheVariants.{Block as Block'}
use Rattle.net_model.specs.declared.reply.Reply.TheVariants.{LinkFull, Took, Noted}
use Rattle.net_model.specs.Premises.{IsNetwork}
use Rattle.net_model.specs.OctetSequence.{block_at}
use Rattle.net_model.specs.Site.{receiver, is_incident, outgoing_lane}
use Rattle.net_model.specs.Item.{payload}
use Rattle.net_model.specs.World.{Network, World, Durable, Journal, Allocation, Transmission, Outgoing, InDoubt, no_doubt}
use Rattle.net_model.specs.View.{View, port_of, blocks_of}
use Rattle.net_model.specs.Needed.{view_of}
use Rattle.net_model.specs.Relay.{receive}
use Rattle.net_model.specs.Window.{complete}
use Rattle.net_model.specs.Decision.{Refuses, Does, Effect, makes}
use Rattle.net_model.specs.Decide.{decide, random_need}
use Rattle.net_model.specs.Events.{is_valid_event}
use Rattle.net_model.specs.Invariant.{Conserved}
use Rattle.net_model.specs.Action.{Environment, Ok, Action, Start, Crash, Arm, SetLink, TakeBlock, Ask, Allocate, Transmit, Complete, Deliver, Flip, Forge, Recovery, Recovers, Resumes, Interrupted, NoMemory, Foreign, Outcome, WasUp, is_no_memory, is_io_fault}
use Rattle.net_model.specs.Handle.{handle, blocks_at, take_block}
use Rattle.net_model.specs.Frames.{receive_item, allocate, outgoing_of, put, transmit_one, transmit}
use Rattle.net_model.specs.Start.{resolved, resolved_durable, restarted, interrupted_start, recovers, start}
use Rattle.net_model.specs.Step.{step, crash, complete_node, is_node, is_link, is_asked, is_enabled}
use Rattle.net_model.specs.Fold.{view_batch, view_restarted}
use Rattle.law_base.proofs.Base.{below_from, number_set_same, and_left, and_right, by_test}
use Rattle.law_base.proofs.Resuming.{same_batch, resumed_durable}
use Rattle.law_base.proofs.Walks.{handle_walk, take_block_walk, deliver_walk, tampered_walk, flip_walk}
use Rattle.law_base.proofs.Extending.{extends_same}
use Rattle.law_invariant.specs.May.{decided}
use Rattle.law_recovery.specs.Fitting.{AllFit}
use Rattle.law_recovery.proofs.Asked.{event_goes, event_fits}
use Rattle.law_recovery.proofs.Arriving.{receive_goes, receiving_fits}
use Rattle.law_recovery.proofs.Commits.{silent_goes}
use Rattle.law_recovery.proofs.Starting.{started_is, start_goes, resumed_is, resume_goes}
use Rattle.law_locality.proofs.Durables.{SameDurable, same_durable, other_replay}
use Rattle.law_locality.proofs.Turns.{IsTurnDecision, asked_turn, receive_turn}
use Rattle.law_recovery.proofs.Restarting.{restarted_twice, batch_restarts}
use Rattle.law_recovery.specs.Saved.{saved, Moves, DoubtsFit}
use Rattle.law_recovery.proofs.Views.{saved_same, placings_aside}
use Rattle.law_recovery.proofs.Effects.{Goes, stays, durable_stays, here_or_there, other_set, effect_moves}

module _ (net : Network) (w : World) (network : IsNetwork net) (c : Conserved net w) where
  handle_moves : (u : ℕ) (event : Event) (environment : Environment) → ((e : Effect) → decided net w u event ≡ Does e → Goes net w u (random_need (view_of net w u) event) e) →
      (v : ℕ) → Moves net w (handle net w u event environment).0 v
  handle_moves u event environment goes v =
      handle_walk net w (λ (x : World). Moves net w x v) (stays net w v) u event environment
      (λ up e is. effect_moves net w c u (random_need (view_of net w u) event) up e (goes e is) environment v)

  -- Lemmas on events asked of a manager.

  pub asked_effect : (u : ℕ) (event : Event) (environment : Environment) → is_enabled net w (Ask u event environment) ≡ true → (e : Effect) → decided net w u event ≡ Does e →
      Goes net w u (random_need (view_of net w u) event) e
  unfolding is_enabled
  asked_effect u event environment enabled e is =
      let prefix = and_left (is_node net u && is_asked event) (is_valid_event net.site u event) enabled in
      let valid = and_right (is_node net u && is_asked event) (is_valid_event net.site u event) enabled in
      let here = ltb-true u net.site.nodes (and_left (is_node net u) (is_asked event) prefix) in
      let asked = and_right (is_node net u) (is_asked event) prefix in
      let turn = subst (IsTurnDecision net w u) is (asked_turn net w network c u event environment enabled) in
      record {
        may = turn.batch;
        fits = event_fits net w u network c event e asked is;
        view = λ numbered. event_goes net w u network c here event e (random_need (view_of net w u) event) asked valid is numbered;
      }

  -- Lemmas on blocks of bytes.

  pub block_effect : (u link octets : ℕ) → is_incident net.site u link ≡ true → (blocks_at net w u link == 1024) ≡ false → (e : Effect) →
      decided net w u (Block link (blocks_at net w u link) (block_at (net.device link) (blocks_at net w u link))) ≡ Does e → Goes net w u octets e
  unfolding decide
  block_effect u link octets incident not_full e is =
      let number : ℕ = blocks_at net w u link in
      let bytes : List ℕ = block_at (net.device link) number in
      let taken : Effect = record { batch = Block' link number bytes ∷ []; volatile = (view_of net w u).volatile; orders = []; repeats = []; reply = Took number } in
      let few : number < 1024 = below_from (w.durable.blocks (outgoing_lane net.site u link)) 1024 (c.few_blocks (outgoing_lane net.site u link)) not_full in
      elim (blocks_of (port_of (view_of net w u) link) == 1024) as (λ t.
      (if t then Refuses LinkFull else makes (view_of net w u) (Block' link number bytes ∷ []) (Took number)) ≡ Does e → Goes net w u octets e) [
        | true ↦ λ x. absurd (cc)
        | false ↦ λ x.
            let same : taken ≡ e = cc in
            subst (Goes net w u octets) same (record {
              may = λ numbered. ((incident, refl, few), tt);
              fits = (refl, tt);
              view = λ numbered. silent_goes net w u octets taken c ((incident, refl, few), tt) (refl, tt) refl;
            })
      ] is

  block_moves : (u link : ℕ) (environment : Environment) → is_incident net.site u link ≡ true → (v : ℕ) → Moves net w (take_block net w u link environment).0 v
  block_moves u link environment incident v =
      let next : Event = Block link (blocks_at net w u link) (block_at (net.device link) (blocks_at net w u link)) in
      take_block_walk net w (λ (x : World). Moves net w x v) (stays net w v) u link environment
      (λ not_full. handle_moves u next environment (λ e is. block_effect u link (random_need (view_of net w u) next) incident not_full e is) v)

  -- Lemmas on notes.

  pub note_effect : (u octets : ℕ) (placings : List Placing) (e : Effect) → decided net w u (Note placings) ≡ Does e → Goes net w u octets e
  unfolding decide
  note_effect u octets placings e is =
      let see : View = view_of net w u in
      let noted : Effect = record { batch = []; volatile = complete see.acked see.volatile placings; orders = []; repeats = []; reply = Noted } in
      let same : noted ≡ e = cc in
      subst (Goes net w u octets) same (record { may = λ numbered. tt; fits = tt; view = λ numbered. silent_goes net w u octets noted c tt tt refl })

  note_moves : (u v : ℕ) → Moves net w (complete_node net w u).0 v
  note_moves u v =
      placings_aside net w (handle net w u (Note (w.placings u)) Ok).0 (number_set w.placings u []) v
      (handle_moves u (Note (w.placings u)) Ok (λ e is. note_effect u (random_need (view_of net w u) (Note (w.placings u))) (w.placings u) e is) v)

  -- Lemmas on frames that come.

  item_moves : (l : Lane) (environment : Environment) (v j : ℕ) (a : Allocation) → slice_get (w.frames l) j ≡ Some a → w.up (receiver net.site l) ≡ true → (o : Option Payload) →
      payload w.durable.facts a.item ≡ o → Moves net w (receive_item net w l a.offset environment o).0 v
  item_moves l environment v j a at up None e = stays net w v
  item_moves l environment v j a at up (Some p) e =
      effect_moves net w c (receiver net.site l) 0 up (receive net.site (view_of net w (receiver net.site l)) l a.offset p) (record {
        may = (receive_turn net w c l j a p at e).batch;
        fits = receiving_fits net (view_of net w (receiver net.site l)) l a.offset p;
        view = λ numbered. receive_goes net w l j a.offset 0 a p c at e numbered;
      }) environment v

  frame_moves : (l : Lane) (environment : Environment) (v j : ℕ) (a : Allocation) → slice_get (w.frames l) j ≡ Some a → w.up (receiver net.site l) ≡ true →
      Moves net w (receive_item net w l a.offset environment (payload w.durable.facts a.item)).0 v
  frame_moves l environment v j a at up = item_moves l environment v j a at up (payload w.durable.facts a.item) refl

  -- Lemmas on claims and puts of frames, and on crashes.

  crash_moves : (u v : ℕ) → Moves net w (crash w u).0 v
  crash_moves u v = by_test (λ (r : World × Outcome). Moves net w r.0 v) (w.up u) _ _
      (λ up. durable_stays net w _ v (saved_same net v w _ (extends_same net.site v w.durable) refl refl refl) refl) (λ down. stays net w v)

  allocate_moves : (t : Transmission) (v : ℕ) → Moves net w (allocate w t).0 v
  unfolding allocate
  allocate_moves t v = durable_stays net w _ v (saved_same net v w _ (extends_same net.site v w.durable) refl refl refl) refl

  put_moves : (l : Lane) (o : Outgoing) (wire : List ℕ) (number : Option ℕ) (v : ℕ) → Moves net w (put net w l o wire number) v
  put_moves l o wire number v = durable_stays net w _ v (saved_same net v w _ (extends_same net.site v w.durable) refl refl refl) refl

  transmit_moves : (l : Lane) (environment : Environment) (o : Option Outgoing) (v : ℕ) → Moves net w (transmit_one net w l environment o).0 v
  transmit_moves l environment None v = stays net w v
  transmit_moves l environment (Some o) v = by_test (λ (r : World × Outcome). Moves net w r.0 v) (is_no_memory environment || is_io_fault environment) _ _
      (λ e. put_moves l o _ _ v) (λ e. put_moves l o _ _ v)

  sent_moves : (l : Lane) (j : ℕ) (environment : Environment) (v : ℕ) → Moves net w (transmit net w l j environment).0 v
  unfolding transmit
  sent_moves l j environment v = transmit_moves l environment (outgoing_of j (w.outgoing l)) v

  -- Lemmas on starts.

  module _ (u : ℕ) (down : w.up u ≡ false) where
    settled : (before : World) → ((restarted net before u).in_doubt u).batch ≡ []
    unfolding restarted
    settled before = ap (λ (d : InDoubt). d.batch) (number_set_same before.in_doubt u no_doubt)

    -- What each kind of successful start does to the journal of its own node.
    here : (after : World) (committed : Bool) →
        view_of net after u ≡ view_restarted (if committed then view_batch (view_of net w u) (w.in_doubt u).batch else view_of net w u) → (after.in_doubt u).batch ≡ [] →
        Moves net w after u
    here after true view none = inr (inr (record {
      batch = (w.in_doubt u).batch;
      view = ap view_restarted view ∙ restarted_twice (view_batch (view_of net w u) (w.in_doubt u).batch) ∙ batch_restarts (view_of net w u) (w.in_doubt u).batch;
      none = none;
    }))
    here after false view none = inr (inl (record {
      view = ap view_restarted view ∙ restarted_twice (view_of net w u);
      fits = subst (λ rs. AllFit net (saved net after u) rs) (sym none) tt;
    }))

    started_here : (committed : Bool) → is_enabled net w (Start u (Recovers committed)) ≡ true → DoubtsFit net w → Moves net w (step net w (Start u (Recovers committed))).0 u
    started_here committed enabled fits =
        here (step net w (Start u (Recovers committed))).0 committed (start_goes net w u committed down enabled c (λ e. fits u))
        (ap (λ (x : World). (x.in_doubt u).batch) (started_is net w u committed down enabled) ∙ settled (resolved net.site w u committed))

    resumed_here : (committed : Bool) → is_enabled net w (Start u (Resumes committed)) ≡ true → DoubtsFit net w → Moves net w (step net w (Start u (Resumes committed))).0 u
    resumed_here committed enabled fits =
        here (step net w (Start u (Resumes committed))).0 committed (resume_goes net w u committed down enabled c (λ e. fits u))
        (ap (λ (x : World). (x.in_doubt u).batch) (resumed_is net w u committed down enabled) ∙ settled (resolved net.site (interrupted_start net w u (Some committed)) u committed))

    other_durable : (committed : Bool) (v : ℕ) → v ≢ u → SameDurable net.site v w.durable (resolved_durable net.site w u committed)
    other_durable true v apart = other_replay net.site v u apart w.durable w.frames w.unclaimed c.now (w.in_doubt u).batch (c.doubts u)
    other_durable false v apart = same_durable net.site v w.durable

    -- Lemmas on a start of another node, whatever doubt it settled and wherever it moved the journal.
    there : (v : ℕ) → v ≢ u → (d : Durable) → SameDurable net.site v w.durable d → (journal : ℕ → Journal) (in_doubt : ℕ → InDoubt) → (in_doubt v).batch ≡ (w.in_doubt v).batch →
        Moves net w (restarted net (record w { durable = d; journal = journal; in_doubt = in_doubt }) u) v
    unfolding restarted
    there v apart d same journal in_doubt doubt =
        durable_stays net w _ v (saved_same net v w _ same.extends same.acked same.closed same.handed)
        (ap (λ (x : InDoubt). x.batch) (other_set in_doubt u v no_doubt apart) ∙ doubt)

    started_there : (committed : Bool) (v : ℕ) → v ≢ u → Moves net w (restarted net (resolved net.site w u committed) u) v
    started_there committed v apart =
        let next : World = resolved net.site w u committed in
        there v apart next.durable (other_durable committed v apart) next.journal next.in_doubt refl

    resumed_there : (committed : Bool) (v : ℕ) → v ≢ u → Moves net w (restarted net (resolved net.site (interrupted_start net w u (Some committed)) u committed) u) v
    resumed_there committed v apart =
        let next : World = resolved net.site (interrupted_start net w u (Some committed)) u committed in
        there v apart next.durable (subst (SameDurable net.site v w.durable) (sym (resumed_durable net w u committed)) (other_durable committed v apart)) next.journal next.in_doubt
        (same_batch net w u committed v)

    recovers_moves : (committed : Bool) → is_enabled net w (Start u (Recovers committed)) ≡ true → DoubtsFit net w → (v : ℕ) →
        Moves net w (step net w (Start u (Recovers committed))).0 v
    recovers_moves committed enabled fits v =
        here_or_there (Moves net w (step net w (Start u (Recovers committed))).0) u v (started_here committed enabled fits)
        (λ apart. subst (λ (x : World). Moves net w x v) (sym (started_is net w u committed down enabled)) (started_there committed v apart))

    resumes_moves : (committed : Bool) → is_enabled net w (Start u (Resumes committed)) ≡ true → DoubtsFit net w → (v : ℕ) →
        Moves net w (step net w (Start u (Resumes committed))).0 v
    resumes_moves committed enabled fits v =
        here_or_there (Moves net w (step net w (Start u (Resumes committed))).0) u v (resumed_here committed enabled fits)
        (λ apart. subst (λ (x : World). Moves net w x v) (sym (resumed_is net w u committed down enabled)) (resumed_there committed v apart))

  interrupted_moves : (u : ℕ) (made : Option Bool) (v : ℕ) → Moves net w (recovers net w u (Interrupted made)).0 v
  interrupted_moves u None v = durable_stays net w _ v (saved_same net v w _ (extends_same net.site v w.durable) refl refl refl) refl
  interrupted_moves u (Some committed) v =
      let left : InDoubt = record (w.in_doubt u) { checkpointed = Some committed } in
      durable_stays net w _ v (saved_same net v w _ (extends_same net.site v w.durable) refl refl refl)
      (here_or_there (λ (k : ℕ). (number_set w.in_doubt u left k).batch ≡ (w.in_doubt k).batch) u v (ap (λ (x : InDoubt). x.batch) (number_set_same w.in_doubt u left))
      (λ apart. ap (λ (x : InDoubt). x.batch) (other_set w.in_doubt u v left apart)))

  start_moves : (u : ℕ) (recovery : Recovery) → is_enabled net w (Start u recovery) ≡ true → DoubtsFit net w → (v : ℕ) → Moves net w (step net w (Start u recovery)).0 v
  unfolding step start
  start_moves u recovery enabled fits v =
      elim (w.up u) as (λ t. w.up u ≡ t → Moves net w (if t then (w, WasUp) else recovers net w u recovery).0 v) [
        | true ↦ λ up. stays net w v
        | false ↦ λ down. by_recovery down recovery enabled
      ] refl
    where
      by_recovery : w.up u ≡ false → (r : Recovery) → is_enabled net w (Start u r) ≡ true → Moves net w (recovers net w u r).0 v
      by_recovery down (Recovers committed) may = subst (λ (x : World). Moves net w x v) (started_is net w u committed down may) (recovers_moves u down committed may fits v)
      by_recovery down (Resumes committed) may = subst (λ (x : World). Moves net w x v) (resumed_is net w u committed down may) (resumes_moves u down committed may fits v)
      by_recovery down (Interrupted made) may = interrupted_moves u made v
      by_recovery down NoMemory may = stays net w v
      by_recovery down Foreign may = stays net w v

  pub incident_is : (u link : ℕ) (environment : Environment) → is_enabled net w (TakeBlock u link environment) ≡ true → is_incident net.site u link ≡ true
  unfolding is_enabled
  incident_is u link environment may = and_right (is_node net u && is_link net link) (is_incident net.site u link) may

  pub step_moves : DoubtsFit net w → (a : Action) → is_enabled net w a ≡ true → (v : ℕ) → Moves net w (step net w a).0 v
  unfolding step
  step_moves fits (Start u recovery) may v = start_moves u recovery may fits v
  step_moves fits (Crash u) may v = crash_moves u v
  step_moves fits (Arm u fault) may v = stays net w v
  step_moves fits (SetLink link up) may v = durable_stays net w _ v (saved_same net v w _ (extends_same net.site v w.durable) refl refl refl) refl
  step_moves fits (TakeBlock u link environment) may v = block_moves u link environment (incident_is u link environment may) v
  step_moves fits (Ask u event environment) may v = handle_moves u event environment (asked_effect u event environment may) v
  step_moves fits (Allocate t) may v = allocate_moves t v
  step_moves fits (Transmit l j environment) may v = sent_moves l j environment v
  step_moves fits (Complete u) may v = note_moves u v
  step_moves fits (Deliver l number environment) may v = deliver_walk net w (λ (x : World). Moves net w x v) (stays net w v) l environment (frame_moves l environment v) number
  step_moves fits (Flip l number bit environment) may v = flip_walk net w (λ (x : World). Moves net w x v) (stays net w v) l environment (frame_moves l environment v) number bit
  step_moves fits (Forge l octets environment) may v = tampered_walk net w (λ (x : World). Moves net w x v) (stays net w v) l environment (frame_moves l environment v) octets
