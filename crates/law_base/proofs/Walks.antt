-- For each way through the network's calls: what has to be shown so that a predicate holds of the world that they
-- leave.
use Rattle.std.proofs.Common.{◌≡◌, ℕ, ◌+◌, ◌*◌, ◌≤◌, not, Bool, true, false, ◌&&◌, ◌||◌, List, [], ◌∷◌, ◌++◌, length, refl, Option, Some, None}
use Rattle.std.specs.Prelude.{◌==◌, nat_lt, nat_le, find, slice_get}
use Rattle.std.specs.List.{list_all}
use Rattle.std.proofs.lemmas.Bool.{ltb-false}
use Rattle.qkd_base.specs.Family.{number_set}
use Rattle.qkd_base.specs.declared.lane.Lane.{Lane}
use Rattle.net_model.specs.declared.event.Event.{Event}
use Rattle.net_model.specs.declared.event.Event.TheVariants.{Block, Note}
use Rattle.net_model.specs.declared.payload.Payload.{Payload}
use Rattle.net_model.specs.Item.{need, payload}
use Rattle.net_model.specs.Journal.{added_len, is_nil, journal_limit}
use Rattle.net_model.specs.OctetSequence.{has_octets, octets_from, block_at}
use Rattle.net_model.specs.Sealing.{Opened, Opens, Rejected, Forged}
use Rattle.net_model.specs.Site.{receiver}
use Rattle.net_model.specs.World.{Network, World, Allocation, Transmission, Outgoing, no_volatile, received_there}
use Rattle.net_model.specs.Needed.{view_of}
use Rattle.net_model.specs.Decision.{Decision, Refuses, Does, Effect}
use Rattle.net_model.specs.Decide.{decide, random_need}
use Rattle.net_model.specs.Action.{Environment, Ok, Outcome, Action, Start, Crash, Arm, SetLink, TakeBlock, Ask, Allocate, Transmit, Complete, Deliver, Flip, Forge, Recovery, Recovers, Resumes, Interrupted, NoMemory, Foreign, is_no_memory, is_entropy_fault, is_io_fault, is_device_fault}
use Rattle.net_model.specs.Handle.{is_numbered, commit, stopped, perform, resolve, handle, blocks_at, take_block}
use Rattle.net_model.specs.Frames.{frame_octets, octets_received, octets_eq, with_flipped, allocate, put, transmit_one, transmit, outgoing_of, unmatched, receive_item, deliver_frame, deliver_number, deliver, tampered_or_put, tampered, flip_octets, flip_number, flip}
use Rattle.net_model.specs.Start.{resolved, restarted, interrupted_start, recovers, start}
use Rattle.net_model.specs.Step.{crash, complete_node, step}
use Rattle.law_base.proofs.Base.{by_test, not_true, or_second}

module _ (net : Network) (w : World) (P : World → Type 0) (same : P w) where
  abbrev Leaves : World × Outcome → Type 0
  Leaves r = P r.0

  -- An effect is stopped or committed only if its names have valid counts and the journal has room.
  pub perform_walk : (v octets : ℕ) (environment : Environment) (e : Effect) →
      (list_all is_numbered e.batch ≡ true → (w.journal v).length' + added_len (w.journal v).version e.batch ≤ journal_limit → P (stopped w v octets e)) →
      (list_all is_numbered e.batch ≡ true → (w.journal v).length' + added_len (w.journal v).version e.batch ≤ journal_limit → P (commit net.site w v octets e)) →
      P (perform net w v octets environment e).0
  unfolding perform
  perform_walk v octets environment e stops commits =
      by_test Leaves (is_no_memory environment || not (list_all is_numbered e.batch)) _ _ (λ x. same)
      (λ x. let numbered = not_true (list_all is_numbered e.batch) (or_second (is_no_memory environment) _ x) in
      by_test Leaves (nat_lt journal_limit ((w.journal v).length' + added_len (w.journal v).version e.batch)) _ _ (λ y. same)
      (λ y. let fits = ltb-false journal_limit _ y in
      by_test Leaves (nat_lt 0 octets && (not (has_octets (net.entropy v) (w.drawn v + octets)) || is_entropy_fault environment)) _ _ (λ z. same)
      (λ z. by_test Leaves (is_io_fault environment && not (is_nil e.batch)) _ _ (λ io. stops numbered fits) (λ io. commits numbered fits))))

  pub resolve_walk : (v octets : ℕ) (environment : Environment) (d : Decision) → ((e : Effect) → d ≡ Does e → P (perform net w v octets environment e).0) →
      P (resolve net w v octets environment d).0
  resolve_walk v octets environment (Refuses reply) does = same
  resolve_walk v octets environment (Does e) does = does e refl

  -- An event reaches a manager that is up, with the octets that its entropy gives next.
  pub handle_walk : (v : ℕ) (event : Event) (environment : Environment) →
      (w.up v ≡ true → (e : Effect) →
      decide net.site net.sealing w.link_up (view_of net w v) (octets_from (net.entropy v).octet (w.drawn v) (random_need (view_of net w v) event)) event ≡ Does e →
      P (perform net w v (random_need (view_of net w v) event) environment e).0) →
      P (handle net w v event environment).0
  unfolding handle
  handle_walk v event environment does =
      by_test Leaves (w.up v) _ _ (λ up. resolve_walk v (random_need (view_of net w v) event) environment _ (does up)) (λ down. same)

  -- A link with fewer than 1,024 blocks gets the next block of its device.
  pub take_block_walk : (v link : ℕ) (environment : Environment) →
      ((blocks_at net w v link == 1024) ≡ false → P (handle net w v (Block link (blocks_at net w v link) (block_at (net.device link) (blocks_at net w v link))) environment).0) →
      P (take_block net w v link environment).0
  unfolding take_block
  take_block_walk v link environment asked =
      by_test Leaves (not (w.up v)) _ _ (λ x. same)
      (λ x. by_test Leaves (blocks_at net w v link == 1024) _ _ (λ full. same)
      (λ not_full. by_test Leaves (not (has_octets (net.device link) (1024 + 1024 * blocks_at net w v link))) _ _ (λ y. same)
      (λ y. by_test Leaves (is_device_fault environment) _ _ (λ z. same) (λ z. asked not_full))))

  -- A frame is passed, unchanged or changed. Only frames of this lane are received, and only while the receiver is
  -- up.

  module _ (l : Lane) (environment : Environment)
      (item : (j : ℕ) (a : Allocation) → slice_get (w.frames l) j ≡ Some a → w.up (receiver net.site l) ≡ true →
      P (receive_item net w l a.offset environment (payload w.durable.facts a.item)).0) where
    frame_walk : (j : ℕ) (o : Option Allocation) → slice_get (w.frames l) j ≡ o → P (deliver_frame net w l environment o).0
    unfolding deliver_frame
    frame_walk j None at = same
    frame_walk j (Some a) at =
        by_test Leaves (not (w.up (receiver net.site l))) _ _ (λ x. same)
        (λ up. by_test Leaves (nat_lt (received_there w.durable l) (a.offset + need w.durable.facts a.item)) _ _ (λ x. same)
        (λ x. item j a at (not_true (w.up (receiver net.site l)) up)))

    number_walk : (o : Option ℕ) → P (deliver_number net w l environment o).0
    number_walk None = same
    number_walk (Some j) = frame_walk j (slice_get (w.frames l) j) refl

    pub deliver_walk : (number : ℕ) → P (deliver net w l number environment).0
    unfolding deliver
    deliver_walk number = number_walk (slice_get (w.wire l) number)

    unmatched_walk : (o : Opened) → P (unmatched w o).0
    unmatched_walk (Opens offset p) = same
    unmatched_walk (Rejected reply) = same
    unmatched_walk (Forged place) = same

    or_put_walk : (octets : List ℕ) (o : Option ℕ) → P (tampered_or_put net w l octets environment o).0
    or_put_walk octets (Some j) = frame_walk j (slice_get (w.frames l) j) refl
    or_put_walk octets None = by_test Leaves (not (w.up (receiver net.site l))) _ _ (λ x. same) (λ x. unmatched_walk (net.sealing.unseal l (octets_received net w l) octets))

    pub tampered_walk : (octets : List ℕ) → P (tampered net w l octets environment).0
    unfolding tampered
    tampered_walk octets = or_put_walk octets (find (λ j. octets_eq (frame_octets net w l (slice_get (w.frames l) j)) octets) (w.wire l))

    flip_octets_walk : (octets : List ℕ) (bit : ℕ) → P (flip_octets net w l octets bit environment).0
    flip_octets_walk octets bit = by_test Leaves (nat_le (8 * length octets) bit) _ _ (λ x. same) (λ x. tampered_walk (with_flipped octets bit))

    flip_number_walk : (bit : ℕ) (o : Option ℕ) → P (flip_number net w l bit environment o).0
    flip_number_walk bit None = same
    flip_number_walk bit (Some j) = flip_octets_walk (frame_octets net w l (slice_get (w.frames l) j)) bit

    pub flip_walk : (number bit : ℕ) → P (flip net w l number bit environment).0
    unfolding flip
    flip_walk number bit = flip_number_walk bit (slice_get (w.wire l) number)

-- A predicate that each of these few changes keeps is kept by everything that happens.
pub record IsPreserved (net : Network) (w : World) (P : World → Type 0) : Type 0 where
  pub same : P w
  pub commits : (v octets : ℕ) (e : Effect) → P (commit net.site w v octets e)
  pub stops : (v octets : ℕ) (e : Effect) → P (stopped w v octets e)
  pub allocates : (t : Transmission) → P (allocate w t).0
  pub refuses : (l : Lane) (o : Outgoing) → P (put net w l o (w.wire l) None)
  pub puts : (l : Lane) (o : Outgoing) → P (put net w l o (w.wire l ++ o.frame ∷ []) (Some (length (w.wire l))))
  pub notes : (x : World) (v : ℕ) → P x → P (record x { placings = number_set w.placings v [] })
  pub starts : (v : ℕ) (committed : Bool) → P (restarted net (resolved net.site w v committed) v)
  pub resumes : (v : ℕ) (committed : Bool) → P (restarted net (resolved net.site (interrupted_start net w v (Some committed)) v committed) v)
  pub interrupts : (v : ℕ) (made : Option Bool) → P (interrupted_start net w v made)
  pub crashes : (v : ℕ) → P (record w { up = number_set w.up v false; volatile = number_set w.volatile v no_volatile })
  pub links : (link : ℕ) (up : Bool) → P (record w { link_up = number_set w.link_up link up })

module _ (net : Network) (w : World) (P : World → Type 0) (k : IsPreserved net w P) where
  any_effect : (v octets : ℕ) (environment : Environment) (e : Effect) → P (perform net w v octets environment e).0
  any_effect v octets environment e = perform_walk net w P k.same v octets environment e (λ numbered fits. k.stops v octets e) (λ numbered fits. k.commits v octets e)

  any_event : (v : ℕ) (event : Event) (environment : Environment) → P (handle net w v event environment).0
  any_event v event environment = handle_walk net w P k.same v event environment (λ up e is. any_effect v _ environment e)

  any_item : (l : Lane) (environment : Environment) (offset : ℕ) (p : Option Payload) → P (receive_item net w l offset environment p).0
  any_item l environment offset None = k.same
  any_item l environment offset (Some p) = any_effect (receiver net.site l) 0 environment _

  any_frame : (l : Lane) (environment : Environment) (j : ℕ) (a : Allocation) → slice_get (w.frames l) j ≡ Some a → w.up (receiver net.site l) ≡ true →
      P (receive_item net w l a.offset environment (payload w.durable.facts a.item)).0
  any_frame l environment j a at up = any_item l environment a.offset (payload w.durable.facts a.item)

  any_put : (l : Lane) (environment : Environment) (o : Option Outgoing) → P (transmit_one net w l environment o).0
  any_put l environment None = k.same
  any_put l environment (Some o) = by_test (λ (r : World × Outcome). P r.0) (is_no_memory environment || is_io_fault environment) _ _ (λ x. k.refuses l o) (λ x. k.puts l o)

  any_recovery : (v : ℕ) (recovery : Recovery) → P (recovers net w v recovery).0
  any_recovery v (Recovers committed) = k.starts v committed
  any_recovery v (Resumes committed) = k.resumes v committed
  any_recovery v (Interrupted made) = k.interrupts v made
  any_recovery v NoMemory = k.same
  any_recovery v Foreign = k.same

  pub step_walk : (action : Action) → P (step net w action).0
  unfolding step start transmit
  step_walk (Start v recovery) = by_test (λ (r : World × Outcome). P r.0) (w.up v) _ _ (λ up. k.same) (λ down. any_recovery v recovery)
  step_walk (Crash v) = by_test (λ (r : World × Outcome). P r.0) (w.up v) _ _ (λ up. k.crashes v) (λ down. k.same)
  step_walk (Arm v fault) = k.same
  step_walk (SetLink link up) = k.links link up
  step_walk (TakeBlock v link environment) = take_block_walk net w P k.same v link environment (λ not_full. any_event v _ environment)
  step_walk (Ask v event environment) = any_event v event environment
  step_walk (Allocate t) = k.allocates t
  step_walk (Transmit l j environment) = any_put l environment (outgoing_of j (w.outgoing l))
  step_walk (Complete v) = k.notes (handle net w v (Note (w.placings v)) Ok).0 v (any_event v (Note (w.placings v)) Ok)
  step_walk (Deliver l number environment) = deliver_walk net w P k.same l environment (any_frame l environment) number
  step_walk (Flip l number bit environment) = flip_walk net w P k.same l environment (any_frame l environment) number bit
  step_walk (Forge l octets environment) = tampered_walk net w P k.same l environment (any_frame l environment) octets
