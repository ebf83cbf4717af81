-- Each action leaves the managers that it doesn't touch as they were.
use Rattle.std.proofs.Common.{◌≡◌, ◌≢◌, ℕ, ◌+◌, ◌<◌, Bool, true, false, ◌&&◌, ◌||◌, List, [], ◌∷◌, ◌++◌, length, replicate, length-append, refl, sym, ◌∙◌, ap, subst, arith, Option, Some, None}
use Rattle.std.specs.Prelude.{◌==◌, slice_get, if◌then◌else◌}
use Rattle.std.proofs.lemmas.List.{length-replicate}
use Rattle.qkd_base.specs.Family.{number_set}
use Rattle.qkd_base.specs.declared.lane.Lane.{Lane}
use Rattle.net_model.specs.declared.event.Event.TheVariants.{Block, Note}
use Rattle.net_model.specs.declared.placing.Placing.{Placing}
use Rattle.net_model.specs.declared.record.Record.TheVariants.{Block as Block'}
use Rattle.net_model.specs.declared.reply.Reply.TheVariants.{LinkFull, Took}
use Rattle.net_model.specs.Premises.{IsNetwork}
use Rattle.net_model.specs.OctetSequence.{block_at}
use Rattle.net_model.specs.Item.{need, payload}
use Rattle.net_model.specs.Site.{sender, receiver, is_incident, outgoing_lane}
use Rattle.net_model.specs.World.{Network, World, Durable, Journal, InDoubt, Allocation, Transmission, Outgoing, Owner, Frame, needs, planned, no_volatile, no_doubt}
use Rattle.net_model.specs.View.{port_of, blocks_of}
use Rattle.net_model.specs.Needed.{view_of}
use Rattle.net_model.specs.Decision.{Refuses, makes}
use Rattle.net_model.specs.Decide.{decide}
use Rattle.net_model.specs.Events.{is_lane}
use Rattle.net_model.specs.Invariant.{Conserved}
use Rattle.net_model.specs.Action.{Environment, Ok, Action, Start, Crash, Arm, SetLink, TakeBlock, Ask, Allocate, Transmit, Complete, Deliver, Flip, Forge, Recovery, Recovers, Resumes, Interrupted, NoMemory, Foreign, Outcome, is_no_memory, is_io_fault}
use Rattle.net_model.specs.Handle.{handle, blocks_at, take_block}
use Rattle.net_model.specs.Frames.{receive_item, allocate, is_unclaimed, without, outgoing_of, put, transmit_one, transmit}
use Rattle.net_model.specs.Start.{resolved, resolved_durable, burnt_to, leaves, restarted, interrupted_start, recovers, start}
use Rattle.net_model.specs.Step.{step, crash, complete_node, is_node, is_link, is_enabled}
use Rattle.law_base.proofs.Base.{below_from, and_right, by_test, by_lane, eq_from, not_false}
use Rattle.law_base.proofs.Extending.{extends_same}
use Rattle.law_base.proofs.Resuming.{resumed_durable}
use Rattle.law_base.proofs.Walks.{take_block_walk, deliver_walk, tampered_walk, flip_walk}
use Rattle.law_invariant.specs.May.{decided}
use Rattle.law_base.proofs.Lists.{needs-without}
use Rattle.law_locality.proofs.Durables.{SameDurable, same_durable, other_replay}
use Rattle.law_locality.proofs.Views.{view_like, planned_same}
use Rattle.law_locality.proofs.Turns.{IsTurnDecision, asked_turn}
use Rattle.law_locality.specs.Touched.{touches_node, ManagerStays, StaysAt}
use Rattle.law_locality.proofs.Managers.{elsewhere, untouched, stays, event_unseen, item_unseen, placings_aside}

-- Lemmas on claims and puts.

module _ (net : Network) (w : World) (u : ℕ) where
  -- A claim moves bytes from the ordered ones to the owned ones, so the planned end stays.
  claimed_end : (t : Transmission) → is_unclaimed w t ≡ true → (l : Lane) → planned (allocate w t).0 l ≡ planned w l
  unfolding allocate
  claimed_end t there l =
      let facts = w.durable.facts in
      let more : List Owner = replicate (need facts t.item) (Frame (length (w.frames t.lane))) in
      by_lane (λ k b. length (if b then w.durable.own t.lane ++ more else w.durable.own k) + needs facts (if b then without t (w.unclaimed t.lane) else w.unclaimed k) ≡
      length (w.durable.own k) + needs facts (w.unclaimed k)) t.lane
      (omega (arith, needs-without facts t (w.unclaimed t.lane) there, length-append (w.durable.own t.lane) more, length-replicate (need facts t.item) (Frame (length (w.frames t.lane)))))
      (λ k. refl) l

  claimed_view : (t : Transmission) → is_unclaimed w t ≡ true → view_of net (allocate w t).0 u ≡ view_of net w u
  unfolding allocate
  claimed_view t there =
      view_like net u w (allocate w t).0 (extends_same net.site u w.durable) (λ l at. claimed_end t there l) (λ l at. refl) refl refl refl refl

  claimed : (t : Transmission) → is_unclaimed w t ≡ true → StaysAt net u w (allocate w t).0
  unfolding allocate
  claimed t there =
      record {
        manager = record { view = claimed_view t there; up = refl; drawn = refl; journal = refl; interrupted = refl; in_doubt = refl; volatile = refl };
        placings = refl;
      }

  pub claim_unseen : (t : Transmission) → is_enabled net w (Allocate t) ≡ true → StaysAt net u w (step net w (Allocate t)).0
  unfolding step is_enabled
  claim_unseen t may = claimed t (and_right (is_lane net.site t.lane) (is_unclaimed w t) may)

  put_manager : (l : Lane) (o : Outgoing) (wire : List ℕ) (number : Option ℕ) → ManagerStays net u w (put net w l o wire number)
  unfolding view_of
  put_manager l o wire number = record { view = refl; up = refl; drawn = refl; journal = refl; interrupted = refl; in_doubt = refl; volatile = refl }

  one_manager : (l : Lane) (environment : Environment) (o : Option Outgoing) → ManagerStays net u w (transmit_one net w l environment o).0
  one_manager l environment None = (stays net u w).manager
  one_manager l environment (Some o) =
      by_test (λ (r : World × Outcome). ManagerStays net u w r.0) (is_no_memory environment || is_io_fault environment) _ _ (λ x. put_manager l o _ _) (λ x. put_manager l o _ _)

  pub transmit_unseen : (l : Lane) (j : ℕ) (environment : Environment) → ManagerStays net u w (step net w (Transmit l j environment)).0
  unfolding step transmit
  transmit_unseen l j environment = one_manager l environment (outgoing_of j (w.outgoing l))

  one_placings : (l : Lane) (environment : Environment) (o : Option Outgoing) → u ≢ sender net.site l → (transmit_one net w l environment o).0.placings u ≡ w.placings u
  one_placings l environment None apart = refl
  one_placings l environment (Some o) apart =
      by_test (λ (r : World × Outcome). r.0.placings u ≡ w.placings u) (is_no_memory environment || is_io_fault environment) _ _
      (λ x. elsewhere w.placings (sender net.site l) u _ apart) (λ x. elsewhere w.placings (sender net.site l) u _ apart)

  sent_unseen : (l : Lane) (j : ℕ) (environment : Environment) → u ≢ sender net.site l → StaysAt net u w (step net w (Transmit l j environment)).0
  unfolding step transmit
  sent_unseen l j environment apart =
      record { manager = transmit_unseen l j environment; placings = one_placings l environment (outgoing_of j (w.outgoing l)) apart }

-- Lemmas on events of one manager, its crashes and its starts.

module _ (net : Network) (w : World) (c : Conserved net w) (u k : ℕ) (apart : u ≢ k) where
  block_turn : (link : ℕ) (bytes : List ℕ) → is_incident net.site k link ≡ true → (blocks_at net w k link == 1024) ≡ false →
      IsTurnDecision net w k (decided net w k (Block link (blocks_at net w k link) bytes))
  unfolding decide
  block_turn link bytes incident not_full =
      let number : ℕ = blocks_at net w k link in
      let few : number < 1024 = below_from (w.durable.blocks (outgoing_lane net.site k link)) 1024 (c.few_blocks (outgoing_lane net.site k link)) not_full in
      by_test (IsTurnDecision net w k) (blocks_of (port_of (view_of net w k) link) == 1024) (Refuses LinkFull) (makes (view_of net w k) (Block' link number bytes ∷ []) (Took number))
      (λ full. tt) (λ x. record { batch = λ numbered. ((incident, refl, few), tt); orders = λ n t h. cc })

  block_unseen : (link : ℕ) (environment : Environment) → is_incident net.site k link ≡ true → StaysAt net u w (take_block net w k link environment).0
  block_unseen link environment incident =
      let bytes : List ℕ = block_at (net.device link) (blocks_at net w k link) in
      take_block_walk net w (StaysAt net u w) (stays net u w) k link environment
      (λ not_full. event_unseen net w c u k apart (Block link (blocks_at net w k link) bytes) environment (block_turn link bytes incident not_full))

  note_turn : (placings : List Placing) → IsTurnDecision net w k (decided net w k (Note placings))
  unfolding decide
  note_turn placings = record { batch = λ numbered. tt; orders = λ n t h. cc }

  note_unseen : StaysAt net u w (complete_node net w k).0
  note_unseen =
      placings_aside net u w (handle net w k (Note (w.placings k)) Ok).0 (number_set w.placings k []) (elsewhere w.placings k u [] apart)
      (event_unseen net w c u k apart (Note (w.placings k)) Ok (note_turn (w.placings k)))

  crash_unseen : StaysAt net u w (crash w k).0
  crash_unseen =
      by_test (λ (r : World × Outcome). StaysAt net u w r.0) (w.up k) _ _
      (λ up. fallen) (λ down. stays net u w)
    where
      fallen : StaysAt net u w (record w { up = number_set w.up k false; volatile = number_set w.volatile k no_volatile })
      fallen =
          let volatile = elsewhere w.volatile k u no_volatile apart in
          record {
            manager = record {
              view = view_like net u w _ (extends_same net.site u w.durable) (λ l at. refl) (λ l at. refl) refl refl refl volatile;
              up = elsewhere w.up k u false apart;
              drawn = refl;
              journal = refl;
              interrupted = refl;
              in_doubt = refl;
              volatile = volatile;
            };
            placings = refl;
          }

  -- Lemmas on starts.

  settled : (committed : Bool) → SameDurable net.site u w.durable (resolved_durable net.site w k committed)
  settled true = other_replay net.site u k apart w.durable w.frames w.unclaimed c.now (w.in_doubt k).batch (c.doubts k)
  settled false = same_durable net.site u w.durable

  not_its : (l : Lane) → sender net.site l ≡ u → leaves net.site k l ≡ false
  not_its l at =
      not_false (leaves net.site k l) (λ e. apart (sym at ∙ eq_from (sender net.site l) k (and_right (is_lane net.site l) (sender net.site l == k) e)))

  -- Lemmas on a start, whatever doubt it settled and wherever it moved the journal.
  module _ (d : Durable) (same : SameDurable net.site u w.durable d) (journal : ℕ → Journal) (in_doubt : ℕ → InDoubt) where
    abbrev before : World
    before = record w { durable = d; journal = journal; in_doubt = in_doubt }

    started_end : (l : Lane) → sender net.site l ≡ u → planned (restarted net before k) l ≡ planned w l
    unfolding restarted
    started_end l at =
        ap (λ (b : Bool). length (if b then burnt_to (d.lease l) (d.own l) else d.own l) + needs d.facts (w.unclaimed l)) (not_its l at) ∙
        planned_same net u w before c same (λ m e. refl) l at

    started : journal u ≡ w.journal u → in_doubt u ≡ w.in_doubt u → StaysAt net u w (restarted net before k)
    unfolding restarted
    started same_journal same_doubt =
        let volatile = elsewhere w.volatile k u no_volatile apart in
        record {
          manager = record {
            view = view_like net u w (restarted net before k) same.extends started_end
                (λ l at. ap (λ (b : Bool). if b then d.lease l else w.recovered l) (not_its l at)) same.acked same.closed same.handed volatile;
            up = elsewhere w.up k u true apart;
            drawn = refl;
            journal = elsewhere journal k u _ apart ∙ same_journal;
            interrupted = elsewhere w.interrupted k u false apart;
            in_doubt = elsewhere in_doubt k u no_doubt apart ∙ same_doubt;
            volatile = volatile;
          };
          placings = refl;
        }

  interrupted : (made : Option Bool) → StaysAt net u w (interrupted_start net w k made)
  unfolding view_of
  interrupted None =
      record {
        manager = record { view = refl; up = refl; drawn = refl; journal = refl; interrupted = elsewhere w.interrupted k u _ apart; in_doubt = refl; volatile = refl };
        placings = refl;
      }
  interrupted (Some committed) =
      record {
        manager = record {
          view = refl;
          up = refl;
          drawn = refl;
          journal = elsewhere w.journal k u _ apart;
          interrupted = refl;
          in_doubt = elsewhere w.in_doubt k u _ apart;
          volatile = refl;
        };
        placings = refl;
      }

  recovery_unseen : (recovery : Recovery) → StaysAt net u w (recovers net w k recovery).0
  recovery_unseen (Recovers committed) =
      let next : World = resolved net.site w k committed in
      started next.durable (settled committed) next.journal next.in_doubt (elsewhere w.journal k u _ apart) refl
  recovery_unseen (Resumes committed) =
      let halted : World = interrupted_start net w k (Some committed) in
      let next : World = resolved net.site halted k committed in
      started next.durable (subst (SameDurable net.site u w.durable) (sym (resumed_durable net w k committed)) (settled committed)) next.journal next.in_doubt
      (elsewhere halted.journal k u _ apart ∙ elsewhere w.journal k u _ apart) (elsewhere w.in_doubt k u _ apart)
  recovery_unseen (Interrupted made) = interrupted made
  recovery_unseen NoMemory = stays net u w
  recovery_unseen Foreign = stays net u w

  start_unseen : (recovery : Recovery) → StaysAt net u w (start net w k recovery).0
  unfolding start
  start_unseen recovery = by_test (λ (r : World × Outcome). StaysAt net u w r.0) (w.up k) _ _ (λ up. stays net u w) (λ down. recovery_unseen recovery)

link_unseen : (net : Network) (w : World) (u : ℕ) (links : ℕ → Bool) → StaysAt net u w (record w { link_up = links })
unfolding view_of
link_unseen net w u links =
    record {
      manager = record { view = refl; up = refl; drawn = refl; journal = refl; interrupted = refl; in_doubt = refl; volatile = refl };
      placings = refl;
    }

module _ (net : Network) (w : World) (network : IsNetwork net) (c : Conserved net w) (u : ℕ) where
  incident_is : (k link : ℕ) (environment : Environment) → is_enabled net w (TakeBlock k link environment) ≡ true → is_incident net.site k link ≡ true
  unfolding is_enabled
  incident_is k link environment may = and_right (is_node net k && is_link net link) (is_incident net.site k link) may

  frame_unseen : (l : Lane) (environment : Environment) → u ≢ receiver net.site l → (j : ℕ) (a : Allocation) → slice_get (w.frames l) j ≡ Some a →
      w.up (receiver net.site l) ≡ true → StaysAt net u w (receive_item net w l a.offset environment (payload w.durable.facts a.item)).0
  frame_unseen l environment apart j a at up = item_unseen net w c u l apart environment j a at (payload w.durable.facts a.item) refl

  pub step_unseen : (a : Action) → is_enabled net w a ≡ true → touches_node net.site a u ≡ false → StaysAt net u w (step net w a).0
  unfolding step
  step_unseen (Start k recovery) may h = start_unseen net w c u k (untouched k u h) recovery
  step_unseen (Crash k) may h = crash_unseen net w c u k (untouched k u h)
  step_unseen (Arm k fault) may h = stays net u w
  step_unseen (SetLink link up) may h = link_unseen net w u (number_set w.link_up link up)
  step_unseen (TakeBlock k link environment) may h = block_unseen net w c u k (untouched k u h) link environment (incident_is k link environment may)
  step_unseen (Ask k event environment) may h = event_unseen net w c u k (untouched k u h) event environment (asked_turn net w network c k event environment may)
  step_unseen (Allocate t) may h = claim_unseen net w u t may
  step_unseen (Transmit l j environment) may h = sent_unseen net w u l j environment (untouched (sender net.site l) u h)
  step_unseen (Complete k) may h = note_unseen net w c u k (untouched k u h)
  step_unseen (Deliver l number environment) may h =
      deliver_walk net w (StaysAt net u w) (stays net u w) l environment (frame_unseen l environment (untouched (receiver net.site l) u h)) number
  step_unseen (Flip l number bit environment) may h =
      flip_walk net w (StaysAt net u w) (stays net u w) l environment (frame_unseen l environment (untouched (receiver net.site l) u h)) number bit
  step_unseen (Forge l octets environment) may h =
      tampered_walk net w (StaysAt net u w) (stays net u w) l environment (frame_unseen l environment (untouched (receiver net.site l) u h)) octets
