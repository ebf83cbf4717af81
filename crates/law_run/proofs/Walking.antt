-- What a node makes in each action, compared with the same action when the disk fails.
use Rattle.std.proofs.Common.{◌≡◌, ℕ, ◌+◌, ◌*◌, Bool, true, false, not, List, [], length, refl, sym, ap, Option, Some, None, inl}
use Rattle.std.specs.Prelude.{◌==◌, nat_lt, nat_le, find, slice_get, if◌then◌else◌}
use Rattle.qkd_base.specs.Family.{number_set}
use Rattle.qkd_base.specs.declared.lane.Lane.{Lane}
use Rattle.net_model.specs.declared.event.Event.{Event}
use Rattle.net_model.specs.declared.event.Event.TheVariants.{Block, Note}
use Rattle.net_model.specs.declared.payload.Payload.{Payload}
use Rattle.net_model.specs.declared.placing.Placing.{Placing}
use Rattle.net_model.specs.declared.reply.Reply.TheVariants.{Noted}
use Rattle.net_model.specs.Premises.{IsNetwork}
use Rattle.net_model.specs.OctetSequence.{has_octets, block_at}
use Rattle.net_model.specs.Sealing.{Opened, Opens, Rejected, Forged}
use Rattle.net_model.specs.Site.{receiver, is_incident}
use Rattle.net_model.specs.Item.{need, payload}
use Rattle.net_model.specs.World.{Network, World, Allocation, received_there}
use Rattle.net_model.specs.Journal.{is_nil}
use Rattle.net_model.specs.View.{View}
use Rattle.net_model.specs.Needed.{view_of}
use Rattle.net_model.specs.Relay.{receive}
use Rattle.net_model.specs.Window.{complete}
use Rattle.net_model.specs.Decision.{Decision, Refuses, Does, Effect}
use Rattle.net_model.specs.Decide.{decide, random_need}
use Rattle.net_model.specs.Invariant.{Conserved}
use Rattle.net_model.specs.Action.{Environment, Ok, IoFault, Outcome, is_device_fault}
use Rattle.net_model.specs.Handle.{resolve, handle, blocks_at, take_block}
use Rattle.net_model.specs.Frames.{frame_octets, octets_received, octets_eq, with_flipped, receive_item, unmatched, deliver_frame, deliver_number, deliver, tampered_or_put, tampered, flip_octets, flip_number, flip}
use Rattle.net_model.specs.Step.{complete_node}
use Rattle.law_base.proofs.Base.{by_test, not_true}
use Rattle.law_base.proofs.Walks.{handle_walk}
use Rattle.law_invariant.specs.May.{decided}
use Rattle.law_recovery.proofs.Arriving.{receive_goes, receiving_fits}
use Rattle.law_locality.proofs.Turns.{receive_turn}
use Rattle.law_recovery.proofs.Effects.{Goes}
use Rattle.law_recovery.proofs.Steps.{block_effect, note_effect}
use Rattle.law_run.proofs.Made.{Quiet, Made, quiet_same, still_quiet, effect_made}

-- Two if-expressions with the same test.
by_both : {A : Type 0} (P : A → A → Type 0) (b : Bool) (x y p q : A) → (b ≡ true → P x p) → (b ≡ false → P y q) → P (if b then x else y) (if b then p else q)
by_both P true x y p q h k = h refl
by_both P false x y p q h k = k refl

pub placings_quiet : (net : Network) (w after : World) (placings : ℕ → List Placing) (v : ℕ) → Quiet net w after v → Quiet net w (record after { placings = placings }) v
unfolding view_of
placings_quiet net w after placings v q = record { short = q.short; keeps = q.keeps }

module _ (net : Network) (w : World) (network : IsNetwork net) (c : Conserved net w) (v : ℕ) where
  abbrev Both : World × Outcome → World × Outcome → Type 0
  Both r s = Made net w r.0 s.0 v

  same_made : (failed : World) → Made net w w failed v
  same_made failed = inl (quiet_same net w v)

  resolve_made : (u octets : ℕ) (environment : Environment) (d : Decision) → w.up u ≡ true → ((e : Effect) → d ≡ Does e → Goes net w u octets e) →
      Both (resolve net w u octets environment d) (resolve net w u octets IoFault d)
  resolve_made u octets environment (Refuses reply) up goes = same_made w
  resolve_made u octets environment (Does e) up goes = effect_made net w c u octets up e (goes e refl) environment v

  pub handle_made : (u : ℕ) (event : Event) (environment : Environment) →
      ((e : Effect) → decided net w u event ≡ Does e → Goes net w u (random_need (view_of net w u) event) e) →
      Both (handle net w u event environment) (handle net w u event IoFault)
  unfolding handle
  handle_made u event environment goes =
      by_both Both (w.up u) _ _ _ _ (λ up. resolve_made u (random_need (view_of net w u) event) environment (decided net w u event) up goes) (λ down. same_made w)

  pub block_made : (u link : ℕ) (environment : Environment) → is_incident net.site u link ≡ true →
      Both (take_block net w u link environment) (take_block net w u link IoFault)
  unfolding take_block
  block_made u link environment incident =
      let next : Event = Block link (blocks_at net w u link) (block_at (net.device link) (blocks_at net w u link)) in
      by_both Both (not (w.up u)) _ _ _ _ (λ x. same_made w)
      (λ x. by_both Both (blocks_at net w u link == 1024) _ _ _ _ (λ full. same_made w)
      (λ not_full. by_both Both (not (has_octets (net.device link) (1024 + 1024 * blocks_at net w u link))) _ _ _ _ (λ y. same_made w)
      (λ y. by_test (λ (r : World × Outcome). Both r (handle net w u next IoFault)) (is_device_fault environment) _ _ (λ z. same_made (handle net w u next IoFault).0)
      (λ z. handle_made u next environment (λ e is. block_effect net w network c u link (random_need (view_of net w u) next) incident not_full e is)))))

  -- Notes have no batch.

  note_none : (u : ℕ) (placings : List Placing) (e : Effect) → decided net w u (Note placings) ≡ Does e → is_nil e.batch ≡ true
  unfolding decide
  note_none u placings e is =
      let see : View = view_of net w u in
      let noted : Effect = record { batch = []; volatile = complete see.acked see.volatile placings; orders = []; repeats = []; reply = Noted } in
      let same : noted ≡ e = cc in
      ap (λ (x : Effect). is_nil x.batch) (sym same)

  pub note_quiet : (u : ℕ) → Quiet net w (complete_node net w u).0 v
  note_quiet u =
      let need : ℕ = random_need (view_of net w u) (Note (w.placings u)) in
      placings_quiet net w (handle net w u (Note (w.placings u)) Ok).0 (number_set w.placings u []) v
      (handle_walk net w (λ (x : World). Quiet net w x v) (quiet_same net w v) u (Note (w.placings u)) Ok
      (λ up e is. still_quiet net w c u need up e (note_effect net w network c u need (w.placings u) e is) (note_none u (w.placings u) e is) Ok v))

  -- Lemmas on frames that come.

  module _ (l : Lane) (environment : Environment) where
    item_made : (j : ℕ) (a : Allocation) → slice_get (w.frames l) j ≡ Some a → w.up (receiver net.site l) ≡ true → (o : Option Payload) →
        payload w.durable.facts a.item ≡ o → Both (receive_item net w l a.offset environment o) (receive_item net w l a.offset IoFault o)
    item_made j a at up None e = same_made w
    item_made j a at up (Some p) e =
        effect_made net w c (receiver net.site l) 0 up (receive net.site (view_of net w (receiver net.site l)) l a.offset p) (record {
          may = (receive_turn net w c l j a p at e).batch;
          fits = receiving_fits net (view_of net w (receiver net.site l)) l a.offset p;
          view = λ numbered. receive_goes net w l j a.offset 0 a p c at e numbered;
        }) environment v

    frame_made : (j : ℕ) (o : Option Allocation) → slice_get (w.frames l) j ≡ o → Both (deliver_frame net w l environment o) (deliver_frame net w l IoFault o)
    unfolding deliver_frame
    frame_made j None at = same_made w
    frame_made j (Some a) at =
        by_both Both (not (w.up (receiver net.site l))) _ _ _ _ (λ x. same_made w)
        (λ up. by_both Both (nat_lt (received_there w.durable l) (a.offset + need w.durable.facts a.item)) _ _ _ _ (λ x. same_made w)
        (λ x. item_made j a at (not_true (w.up (receiver net.site l)) up) (payload w.durable.facts a.item) refl))

    number_made : (o : Option ℕ) → Both (deliver_number net w l environment o) (deliver_number net w l IoFault o)
    number_made None = same_made w
    number_made (Some j) = frame_made j (slice_get (w.frames l) j) refl

    pub deliver_made : (number : ℕ) → Both (deliver net w l number environment) (deliver net w l number IoFault)
    unfolding deliver
    deliver_made number = number_made (slice_get (w.wire l) number)

    unmatched_made : (o : Opened) → Both (unmatched w o) (unmatched w o)
    unmatched_made (Opens offset p) = same_made w
    unmatched_made (Rejected reply) = same_made w
    unmatched_made (Forged place) = same_made w

    or_put_made : (octets : List ℕ) (o : Option ℕ) → Both (tampered_or_put net w l octets environment o) (tampered_or_put net w l octets IoFault o)
    or_put_made octets (Some j) = frame_made j (slice_get (w.frames l) j) refl
    or_put_made octets None =
        by_both Both (not (w.up (receiver net.site l))) _ _ _ _ (λ x. same_made w) (λ x. unmatched_made (net.sealing.unseal l (octets_received net w l) octets))

    pub tampered_made : (octets : List ℕ) → Both (tampered net w l octets environment) (tampered net w l octets IoFault)
    unfolding tampered
    tampered_made octets = or_put_made octets (find (λ j. octets_eq (frame_octets net w l (slice_get (w.frames l) j)) octets) (w.wire l))

    flip_octets_made : (octets : List ℕ) (bit : ℕ) → Both (flip_octets net w l octets bit environment) (flip_octets net w l octets bit IoFault)
    flip_octets_made octets bit = by_both Both (nat_le (8 * length octets) bit) _ _ _ _ (λ x. same_made w) (λ x. tampered_made (with_flipped octets bit))

    flip_number_made : (bit : ℕ) (o : Option ℕ) → Both (flip_number net w l bit environment o) (flip_number net w l bit IoFault o)
    flip_number_made bit None = same_made w
    flip_number_made bit (Some j) = flip_octets_made (frame_octets net w l (slice_get (w.frames l) j)) bit

    pub flip_made : (number bit : ℕ) → Both (flip net w l number bit environment) (flip net w l number bit IoFault)
    unfolding flip
    flip_made number bit = flip_number_made bit (slice_get (w.wire l) number)
