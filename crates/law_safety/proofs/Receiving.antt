-- Received frames, blocks of bytes and notes make no secret fact, so they keep the places of keys.
use Rattle.std.proofs.Common.{not, ◌≡◌, ℕ, zero, suc, ◌+◌, ◌*◌, ◌<◌, ◌≤◌, Bool, true, false, List, [], ◌∷◌, length, refl, ◌∙◌, ap, subst, arith, Option, Some, None, inl}
use Rattle.std.specs.Prelude.{◌==◌, nat_lt, nat_le, slice_get, find, if◌then◌else◌}
use Rattle.std.proofs.lemmas.Bool.Decides.{nat_tests}
use Rattle.qkd_base.specs.Name.{Name, has}
use Rattle.qkd_base.specs.declared.lane.Lane.{Lane}
use Rattle.net_model.specs.declared.event.Event.TheVariants.{Block, Note}
use Rattle.net_model.specs.declared.fact.Fact.{Fact}
use Rattle.net_model.specs.declared.payload.Payload.{Payload}
use Rattle.net_model.specs.declared.payload.Payload.TheVariants.{Data, Ack}
use Rattle.net_model.specs.declared.record.Record.TheVariants.{Block as Block', Learned, Acked}
use Rattle.net_model.specs.declared.reply.Reply.TheVariants.{LinkFull, Took}
use Rattle.net_model.specs.Table.{name_of, fact_at}
use Rattle.net_model.specs.Item.{Item, DataItem, AckItem, need, payload, data_payload}
use Rattle.net_model.specs.Site.{sender, receiver, outgoing_lane, is_incident}
use Rattle.net_model.specs.OctetSequence.{has_octets, block_at}
use Rattle.net_model.specs.Sealing.{Opened, Opens, Rejected, Forged}
use Rattle.net_model.specs.World.{Network, World, Allocation, received_there}
use Rattle.net_model.specs.View.{View, port_of, blocks_of}
use Rattle.net_model.specs.Needed.{masked, view_of}
use Rattle.net_model.specs.Relay.{owed, stored_note, receive_fact, receive_ack, receive}
use Rattle.net_model.specs.Decision.{Refuses, makes, knows}
use Rattle.net_model.specs.Decide.{decide, random_need}
use Rattle.net_model.specs.Invariant.{Conserved}
use Rattle.net_model.specs.Action.{Environment, Outcome, Ok, is_device_fault}
use Rattle.net_model.specs.Handle.{blocks_at, take_block}
use Rattle.net_model.specs.Frames.{frame_octets, octets_received, octets_eq, with_flipped, unmatched, receive_item, deliver_frame, deliver_number, deliver, tampered_or_put, tampered, flip_octets, flip_number, flip}
use Rattle.net_model.specs.Step.{complete_node}
use Rattle.law_base.proofs.Base.{below_from, by_test, not_true}
use Rattle.law_base.proofs.Walks.{take_block_walk, deliver_walk, tampered_walk, flip_walk}
use Rattle.law_base.proofs.Tables.{found_name}
use Rattle.law_invariant.specs.May.{decided}
use Rattle.law_invariant.proofs.Decisions.{receive_may}
use Rattle.law_invariant.proofs.Receives.{some_data}
use Rattle.law_safety.proofs.Effects.{AreLaid, ReceivesOnly, MayResolve, perform_lays, handle_lays}
use Rattle.law_invariant.proofs.Receiving.{note_not_secret}

module _ (net : Network) (w : World) (c : Conserved net w) (laid : AreLaid net w) (l : Lane) (environment : Environment) where
  abbrev see : View
  see = view_of net w (receiver net.site l)

  -- The fact that came is in the table, and its Stored note isn't secret.

  fact_received : (offset : ℕ) (f : Fact) → fact_at w.durable.facts (name_of f) ≡ Some f → ReceivesOnly w (receive_fact see l offset f)
  unfolding receive_fact
  fact_received offset f there n g at secret = by_cases (not (knows see (name_of f))) n at
    where
      by_cases : (t : Bool) (n : ℕ) → slice_get (if t then Learned f ∷ stored_note see f else []) n ≡ Some (Learned g) → fact_at w.durable.facts (name_of g) ≡ Some g
      by_cases true zero h = let same : f ≡ g = cc in subst (λ (x : Fact). fact_at w.durable.facts (name_of x) ≡ Some x) same there
      by_cases true (suc n) h = absurd (note_not_secret see f g n h secret)
      by_cases false n h = cc

  ack_received : (n : Name) → ReceivesOnly w (receive_ack see l (sender net.site l) n)
  unfolding receive_ack
  ack_received n k g at secret = by_cases (has (owed see (sender net.site l)) n) k at
    where
      by_cases : (t : Bool) (k : ℕ) → slice_get (if t then Acked n ∷ [] else []) k ≡ Some (Learned g) → fact_at w.durable.facts (name_of g) ≡ Some g
      by_cases true zero h = cc
      by_cases true (suc k) h = cc
      by_cases false k h = cc

  found_data : (offset : ℕ) (n : Name) (p : Payload) (o : Option Fact) → fact_at w.durable.facts n ≡ o → data_payload o ≡ Some p → ReceivesOnly w (receive net.site see l offset p)
  found_data offset n p None there e = cc
  found_data offset n p (Some f) there e =
      subst (λ (q : Payload). ReceivesOnly w (receive net.site see l offset q)) (some_data f p e)
      (fact_received offset f (ap (fact_at w.durable.facts) (found_name w.durable.facts n f there) ∙ there))

  received_data : (offset : ℕ) (item : Item) (p : Payload) → payload w.durable.facts item ≡ Some p → ReceivesOnly w (receive net.site see l offset p)
  received_data offset (DataItem n) p e = found_data offset n p (fact_at w.durable.facts n) refl e
  received_data offset (AckItem n) p e =
      let is : Ack n ≡ p = cc in subst (λ (q : Payload). ReceivesOnly w (receive net.site see l offset q)) is (ack_received n)

  item_lays : (j : ℕ) (a : Allocation) → slice_get (w.frames l) j ≡ Some a → w.up (receiver net.site l) ≡ true → (o : Option Payload) → payload w.durable.facts a.item ≡ o →
      AreLaid net (receive_item net w l a.offset environment o).0
  item_lays j a at up None e = laid
  item_lays j a at up (Some p) e =
      perform_lays net w c (receiver net.site l) laid up 0 environment (receive net.site see l a.offset p)
      (λ numbered. record { batch = receive_may net w l j a.offset a p c at e numbered; secrets = inl (received_data a.offset a.item p e) })

  -- Passing a frame, unchanged or changed, keeps the places.

  came_lays : (j : ℕ) (a : Allocation) → slice_get (w.frames l) j ≡ Some a → w.up (receiver net.site l) ≡ true →
      AreLaid net (receive_item net w l a.offset environment (payload w.durable.facts a.item)).0
  came_lays j a at up = item_lays j a at up (payload w.durable.facts a.item) refl

  pub deliver_lays : (number : ℕ) → AreLaid net (deliver net w l number environment).0
  deliver_lays number = deliver_walk net w (AreLaid net) laid l environment came_lays number

  pub tampered_lays : (octets : List ℕ) → AreLaid net (tampered net w l octets environment).0
  tampered_lays octets = tampered_walk net w (AreLaid net) laid l environment came_lays octets

  pub flip_lays : (number bit : ℕ) → AreLaid net (flip net w l number bit environment).0
  flip_lays number bit = flip_walk net w (AreLaid net) laid l environment came_lays number bit

-- Lemmas on blocks of bytes and on notes.

module _ (net : Network) (w : World) (c : Conserved net w) (laid : AreLaid net w) (v : ℕ) where
  no_fact : (link number : ℕ) (bytes : List ℕ) (n : ℕ) (f : Fact) → slice_get (Block' link number bytes ∷ []) n ≡ Some (Learned f) → ⊥
  no_fact link number bytes zero f h = cc
  no_fact link number bytes (suc n) f h = cc

  block_resolves : (link : ℕ) (bytes : List ℕ) → is_incident net.site v link ≡ true → (blocks_at net w v link == 1024) ≡ false →
      MayResolve net w c v (random_need (view_of net w v) (Block link (blocks_at net w v link) bytes)) (decided net w v (Block link (blocks_at net w v link) bytes))
  unfolding decide random_need view_of masked
  block_resolves link bytes incident not_full =
      let number : ℕ = blocks_at net w v link in
      by_test (MayResolve net w c v 0) (blocks_of (port_of (view_of net w v) link) == 1024) (Refuses LinkFull) (makes (view_of net w v) (Block' link number bytes ∷ []) (Took number))
      (λ full. tt)
      (λ x numbered. record {
        batch = (
          (incident, refl, below_from (w.durable.blocks (outgoing_lane net.site v link)) 1024 (c.few_blocks (outgoing_lane net.site v link)) not_full),
          tt,
        );
        secrets = inl (λ n f at secret. absurd (no_fact link number bytes n f at));
      })

  pub take_block_lays : (link : ℕ) (environment : Environment) → is_incident net.site v link ≡ true → AreLaid net (take_block net w v link environment).0
  take_block_lays link environment incident =
      take_block_walk net w (AreLaid net) laid v link environment
      (λ not_full. handle_lays net w c v laid (Block link (blocks_at net w v link) (block_at (net.device link) (blocks_at net w v link))) environment
      (λ up. block_resolves link (block_at (net.device link) (blocks_at net w v link)) incident not_full))

  note_resolves : MayResolve net w c v (random_need (view_of net w v) (Note (w.placings v))) (decided net w v (Note (w.placings v)))
  unfolding decide random_need
  note_resolves numbered = record { batch = tt; secrets = inl (λ k f at secret. cc) }

  pub complete_lays : AreLaid net (complete_node net w v).0
  complete_lays =
      let h = handle_lays net w c v laid (Note (w.placings v)) Ok (λ up. note_resolves) in
      record { place = h.place; each = h.each; apart = h.apart }
