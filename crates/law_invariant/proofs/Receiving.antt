-- Receiving a frame keeps the conserved properties: a fact becomes known and is answered once, and an acknowledgement
-- clears the window.
use Rattle.std.proofs.Common.{◌≡◌, ℕ, zero, suc, Bool, true, false, ◌&&◌, not, [], ◌∷◌, refl, sym, ◌∙◌, ap, subst, Option, Some, None, inl}
use Rattle.std.specs.Prelude.{◌==◌, slice_get, is_some, reverse, if◌then◌else◌}
use Rattle.std.specs.List.{list_all}
use Rattle.qkd_base.specs.Name.{Name, has}
use Rattle.qkd_base.specs.declared.lane.Lane.{Lane}
use Rattle.qkd_base.specs.declared.key_name.NameKind.TheVariants.{Note as NoteKind}
use Rattle.net_model.specs.declared.fact.Fact.{Fact}
use Rattle.net_model.specs.declared.fact.Fact.TheVariants.{Stored}
use Rattle.net_model.specs.declared.payload.Payload.{Payload}
use Rattle.net_model.specs.declared.payload.Payload.TheVariants.{Data, Ack}
use Rattle.net_model.specs.declared.record.Record.TheVariants.{Learned, Acked}
use Rattle.net_model.specs.Table.{name_of, route_of, fact_at, is_secret, target}
use Rattle.net_model.specs.Item.{Item, DataItem, AckItem, payload, data_payload}
use Rattle.net_model.specs.Premises.{IsNetwork}
use Rattle.net_model.specs.Site.{sender, receiver}
use Rattle.net_model.specs.World.{Network, World, Volatile}
use Rattle.net_model.specs.View.{View}
use Rattle.net_model.specs.Needed.{masked, view_of}
use Rattle.net_model.specs.Knowledge.{IsAdjacent, MayCarry}
use Rattle.net_model.specs.Doubt.{MayReplay}
use Rattle.net_model.specs.Records.{apply_record, replay}
use Rattle.net_model.specs.Windows.{IsVolatile}
use Rattle.net_model.specs.Window.{acknowledge, cleared}
use Rattle.net_model.specs.Relay.{owed, stored_note, receive_fact, receive_ack, receive}
use Rattle.net_model.specs.Decision.{Effect, knows, fresh_name}
use Rattle.net_model.specs.Invariant.{Conserved}
use Rattle.net_model.specs.Handle.{is_numbered, commit}
use Rattle.net_model.specs.Action.{Environment}
use Rattle.net_model.specs.Frames.{receive_item}
use Rattle.law_base.proofs.Base.{by_test}
use Rattle.law_base.proofs.Tables.{found_name}
use Rattle.law_base.proofs.Knowing.{known_with_new}
use Rattle.law_base.proofs.Growing.{replay_grows}
use Rattle.law_base.proofs.Seen.{seen_at, bare_view, view_sees, view_me, view_volatile}
use Rattle.law_invariant.proofs.Receives.{received_may, some_data}
use Rattle.law_base.proofs.Growth.{volatile_stays}
use Rattle.law_invariant.proofs.Acknowledging.{acknowledge_keeps}
use Rattle.law_invariant.proofs.Entries.{cleared_keeps}
use Rattle.law_invariant.proofs.Effects.{MayTake, IsDrawnOrReceived, commit_more, perform_keeps}

-- A Stored note has no secret bytes.
pub note_not_secret : (see : View) (f g : Fact) (n : ℕ) → slice_get (stored_note see f) n ≡ Some (Learned g) → is_secret g ≡ true → ⊥
note_not_secret see f g n at secret = by_cases (is_secret f && (target f == see.me)) n at
  where
    note : Fact
    note = Stored (fresh_name see NoteKind 0) (name_of f) (reverse (route_of f))

    by_cases : (t : Bool) (n : ℕ) → slice_get (if t then Learned note ∷ [] else []) n ≡ Some (Learned g) → ⊥
    by_cases true zero h = let same : note ≡ g = cc in let no : is_secret note ≡ true = ap is_secret same ∙ secret in cc
    by_cases true (suc n) h = cc
    by_cases false n h = cc

module _ (net : Network) (w : World) (network : IsNetwork net) (c : Conserved net w) (l : Lane) (offset : ℕ) where
  abbrev v : ℕ
  v = receiver net.site l

  abbrev see : View
  see = view_of net w v

  -- The memory of the manager stays consistent with the world after any effect.
  kept_later : (e : Effect) → IsVolatile net (commit net.site w v 0 e) v see.volatile
  kept_later e =
      subst (λ (vol : Volatile). IsVolatile net (commit net.site w v 0 e) v vol) (sym (view_volatile net w v))
      (volatile_stays net w network c (commit net.site w v 0 e) (commit_more net w v 0 e) v (w.volatile v) (c.volatile v))

  -- Lemmas on a frame that brings a fact.

  -- Each fact in a view is known to the node.
  seen_known : (n : Name) → knows see n ≡ true → has (w.durable.known v) n ≡ true
  seen_known n h = elim (fact_at see.facts n) as (λ o. fact_at see.facts n ≡ o → is_some o ≡ true → has (w.durable.known v) n ≡ true) [
    | None ↦ λ e k. cc
    | Some g ↦ λ e k.
        let x = seen_at net.site w.durable see (bare_view net w v) (view_sees net w v) n g e in
        subst (λ (u : ℕ). has (w.durable.known u) n ≡ true) (view_me net w v) (subst (λ (m : Name). has (w.durable.known see.me) m ≡ true) x.0 x.1.knows)
  ] refl h

  learned_known : (f : Fact) → has ((apply_record net.site v (Learned f) w.durable).known v) (name_of f) ≡ true
  unfolding apply_record
  learned_known f = known_with_new w.durable.known v (name_of f)

  -- The fact is known after it came.
  known_later : (f : Fact) → has ((replay net.site v (receive_fact see l offset f).batch w.durable).known v) (name_of f) ≡ true
  unfolding receive_fact replay
  known_later f = by_cases (knows see (name_of f)) refl
    where
      by_cases : (t : Bool) → knows see (name_of f) ≡ t → has ((replay net.site v (if not t then Learned f ∷ stored_note see f else []) w.durable).known v) (name_of f) ≡ true
      by_cases true e = seen_known (name_of f) e
      by_cases false e = (replay_grows net.site v (stored_note see f) (apply_record net.site v (Learned f) w.durable)).known v (name_of f) (learned_known f)

  -- The batch that receiving makes is permitted.
  batch_may : (item : Item) (p : Payload) → MayCarry w.durable.facts w.durable.known (sender net.site l) v item → payload w.durable.facts item ≡ Some p →
      list_all is_numbered (receive net.site see l offset p).batch ≡ true → MayReplay net.site w.durable v (receive net.site see l offset p).batch
  unfolding view_of masked
  batch_may item p carried e = received_may net.site w.durable w.frames w.unclaimed c.now see (bare_view net w v) (view_sees net w v) l offset item p carried e

  -- The batch teaches only the fact of the frame, which is in the table, and maybe a Stored note.
  fact_received : (f : Fact) → fact_at w.durable.facts (name_of f) ≡ Some f → (n : ℕ) (g : Fact) → slice_get (receive_fact see l offset f).batch n ≡ Some (Learned g) →
      is_secret g ≡ true → IsDrawnOrReceived net w v 0 g
  unfolding receive_fact
  fact_received f there n g at secret = by_cases (not (knows see (name_of f))) n at
    where
      by_cases : (t : Bool) (n : ℕ) → slice_get (if t then Learned f ∷ stored_note see f else []) n ≡ Some (Learned g) → IsDrawnOrReceived net w v 0 g
      by_cases true zero h = let same : f ≡ g = cc in inl (subst (λ (x : Fact). fact_at w.durable.facts (name_of x) ≡ Some x) same there)
      by_cases true (suc n) h = absurd (note_not_secret see f g n h secret)
      by_cases false n h = cc

  -- The fact is known here now, and came from the node before on its route.
  adjacent_later : (n : Name) (x : IsAdjacent w.durable.facts w.durable.known (sender net.site l) (sender net.site l) v n) →
      IsAdjacent (commit net.site w v 0 (receive_fact see l offset x.fact)).durable.facts (commit net.site w v 0 (receive_fact see l offset x.fact)).durable.known
      v (sender net.site l) v (name_of x.fact)
  unfolding commit
  adjacent_later n x =
      let name : name_of x.fact ≡ n = found_name w.durable.facts n x.fact x.there in
      record {
        fact = x.fact;
        there = (replay_grows net.site v (receive_fact see l offset x.fact).batch w.durable).facts (name_of x.fact) x.fact (ap (fact_at w.durable.facts) name ∙ x.there);
        next = x.next;
        knows = known_later x.fact;
      }

  fact_volatile : (n : Name) (x : IsAdjacent w.durable.facts w.durable.known (sender net.site l) (sender net.site l) v n) →
      IsVolatile net (commit net.site w v 0 (receive_fact see l offset x.fact)) v (acknowledge see.volatile l offset (name_of x.fact))
  fact_volatile n x =
      acknowledge_keeps net (commit net.site w v 0 (receive_fact see l offset x.fact)) v see.volatile l offset (name_of x.fact) refl (adjacent_later n x)
      (kept_later (receive_fact see l offset x.fact))

  fact_taken : (n : Name) (x : IsAdjacent w.durable.facts w.durable.known (sender net.site l) (sender net.site l) v n) →
      MayReplay net.site w.durable v (receive_fact see l offset x.fact).batch → fact_at w.durable.facts (name_of x.fact) ≡ Some x.fact →
      IsVolatile net (commit net.site w v 0 (receive_fact see l offset x.fact)) v (acknowledge see.volatile l offset (name_of x.fact)) →
      MayTake net w v 0 (receive_fact see l offset x.fact)
  unfolding receive_fact
  fact_taken n x may there vol =
      record { batch = may; orders = λ k. k; posted = c.posted; wired = c.wired; volatile = vol; drawn = fact_received x.fact there }

  fact_takes : (n : Name) (x : IsAdjacent w.durable.facts w.durable.known (sender net.site l) (sender net.site l) v n) →
      MayReplay net.site w.durable v (receive_fact see l offset x.fact).batch → MayTake net w v 0 (receive_fact see l offset x.fact)
  fact_takes n x may =
      let name : name_of x.fact ≡ n = found_name w.durable.facts n x.fact x.there in
      fact_taken n x may (ap (fact_at w.durable.facts) name ∙ x.there) (fact_volatile n x)

  -- Lemmas on a frame that brings an acknowledgement.

  ack_received : (n : Name) (k : ℕ) (g : Fact) → slice_get (receive_ack see l (sender net.site l) n).batch k ≡ Some (Learned g) → is_secret g ≡ true → IsDrawnOrReceived net w v 0 g
  unfolding receive_ack
  ack_received n k g at secret = by_cases (has (owed see (sender net.site l)) n) k at
    where
      by_cases : (t : Bool) (k : ℕ) → slice_get (if t then Acked n ∷ [] else []) k ≡ Some (Learned g) → IsDrawnOrReceived net w v 0 g
      by_cases true zero h = cc
      by_cases true (suc k) h = cc
      by_cases false k h = cc

  ack_taken : (n : Name) → MayReplay net.site w.durable v (receive_ack see l (sender net.site l) n).batch →
      IsVolatile net (commit net.site w v 0 (receive_ack see l (sender net.site l) n)) v see.volatile →
      ((k : ℕ) (g : Fact) → slice_get (receive_ack see l (sender net.site l) n).batch k ≡ Some (Learned g) → is_secret g ≡ true → IsDrawnOrReceived net w v 0 g) →
      MayTake net w v 0 (receive_ack see l (sender net.site l) n)
  unfolding receive_ack
  ack_taken n may vol came =
      record {
        batch = may;
        orders = λ k. k;
        posted = c.posted;
        wired = c.wired;
        volatile = by_test (IsVolatile net (commit net.site w v 0 (receive_ack see l (sender net.site l) n)) v) (has (owed see (sender net.site l)) n)
            (record (see.volatile) { window = cleared l n see.volatile.window }) see.volatile
            (λ e. cleared_keeps net (commit net.site w v 0 (receive_ack see l (sender net.site l) n)) v see.volatile l n vol) (λ e. vol);
        drawn = came;
      }

  ack_takes : (n : Name) → MayReplay net.site w.durable v (receive_ack see l (sender net.site l) n).batch → MayTake net w v 0 (receive_ack see l (sender net.site l) n)
  ack_takes n may = ack_taken n may (kept_later (receive_ack see l (sender net.site l) n)) (ack_received n)

  -- Receiving either kind of frame.

  received_takes : (item : Item) (p : Payload) → MayCarry w.durable.facts w.durable.known (sender net.site l) v item → payload w.durable.facts item ≡ Some p →
      list_all is_numbered (receive net.site see l offset p).batch ≡ true → MayTake net w v 0 (receive net.site see l offset p)
  received_takes (DataItem n) p x e numbered =
      let is : Data x.fact ≡ p = some_data x.fact p (sym (ap data_payload x.there) ∙ e) in
      subst (λ (q : Payload). MayTake net w v 0 (receive net.site see l offset q)) is
      (fact_takes n x (subst (λ (q : Payload). MayReplay net.site w.durable v (receive net.site see l offset q).batch) (sym is) (batch_may (DataItem n) p x e numbered)))
  received_takes (AckItem n) p x e numbered =
      let is : Ack n ≡ p = cc in
      subst (λ (q : Payload). MayTake net w v 0 (receive net.site see l offset q)) is
      (ack_takes n (subst (λ (q : Payload). MayReplay net.site w.durable v (receive net.site see l offset q).batch) (sym is) (batch_may (AckItem n) p x e numbered)))

  pub item_keeps : (environment : Environment) (item : Item) → w.up v ≡ true → MayCarry w.durable.facts w.durable.known (sender net.site l) v item → (o : Option Payload) →
      payload w.durable.facts item ≡ o → Conserved net (receive_item net w l offset environment o).0
  item_keeps environment item up carried None e = c
  item_keeps environment item up carried (Some p) e =
      perform_keeps net w network c v up 0 environment (receive net.site see l offset p) (λ numbered. received_takes item p carried e numbered)
