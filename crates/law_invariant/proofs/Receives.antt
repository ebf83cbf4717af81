-- Receiving a frame makes only permitted records: the fact and its Stored note, or an acknowledgement's mark.
use Rattle.std.proofs.Common.{not, ◌≡◌, ℕ, ◌<◌, true, false, ◌&&◌, List, [], ◌∷◌, ◌++◌, refl, sym, ◌∙◌, ap, subst, arith, Some, inl, inr, reverse}
use Rattle.std.specs.Prelude.{◌==◌, nat_lt, if◌then◌else◌}
use Rattle.std.specs.List.{list_all, list_any}
use Rattle.std.proofs.lemmas.Bool.Decides.{nat_tests}
use Rattle.qkd_base.specs.Name.{Name, name_eq, has}
use Rattle.qkd_base.specs.Route.{next_after, are_nodes}
use Rattle.qkd_base.specs.declared.key_name.NameKind.TheVariants.{Key as KeyKind, Note as NoteKind}
use Rattle.qkd_base.specs.declared.lane.Lane.{Lane}
use Rattle.net_model.specs.declared.fact.Fact.{Fact}
use Rattle.net_model.specs.declared.fact.Fact.TheVariants.{Key, Chunk, Stored, Part}
use Rattle.net_model.specs.declared.payload.Payload.{Payload}
use Rattle.net_model.specs.declared.payload.Payload.TheVariants.{Data, Ack}
use Rattle.net_model.specs.declared.record.Record.TheVariants.{Learned, Acked}
use Rattle.net_model.specs.Facts.{IsWellFormedFact}
use Rattle.net_model.specs.Table.{name_of, route_of, target, is_secret, fact_at, learned, is_stored_about}
use Rattle.net_model.specs.Item.{Item, DataItem, AckItem, payload, data_payload}
use Rattle.net_model.specs.Site.{Site, sender}
use Rattle.net_model.specs.World.{Durable, Allocation, Transmission}
use Rattle.net_model.specs.Records.{apply_record}
use Rattle.net_model.specs.Knowledge.{IsOn, IsAdjacent, MayCarry, IsTargetOf}
use Rattle.net_model.specs.Invariant.{Invariant}
use Rattle.net_model.specs.Doubt.{MayReplay, NoStoredBy}
use Rattle.net_model.specs.Decision.{last_count, fresh_name, knows}
use Rattle.net_model.specs.Relay.{owed, stored_note, receive_fact, receive_ack, receive}
use Rattle.net_model.specs.View.{View}
use Rattle.net_model.specs.Handle.{is_numbered}
use Rattle.law_base.proofs.Base.{name_eq_from, eq_from, eq_same, and_left, and_right, or_cases, or_left, or_right, not_false, not_both, was_not, number_set_same}
use Rattle.law_base.proofs.Tables.{found_name, has-push, has_last, is_some_of_some, learned_there, ranged_name}
use Rattle.law_base.proofs.Seen.{Sees, seen_there}
use Rattle.law_invariant.proofs.Made.{IsBelow, is_below, ranged_route, made_may}
use Rattle.law_invariant.proofs.Only.{fresh_is}
use Rattle.law_invariant.proofs.Streams.{first_of-reverse, route_back}

pub some_data : (f : Fact) (p : Payload) → Some (Data f) ≡ Some p → Data f ≡ p
some_data f p e = cc

pub on_next : (nodes : List ℕ) (u v : ℕ) → next_after nodes u ≡ Some v → IsOn nodes v
on_next [] u v h = cc
on_next (a ∷ []) u v h = cc
on_next (a ∷ b ∷ rest) u v h =
    elim (a == u) as (λ t. (if t then Some b else next_after (b ∷ rest) u) ≡ Some v → IsOn (a ∷ b ∷ rest) v) [
      | true ↦ λ e. let is : b ≡ v = cc in
          or_right (a == v) (list_any (λ x. x == v) (b ∷ rest)) (or_left (b == v) (list_any (λ x. x == v) rest) (ap (λ (x : ℕ). x == v) is ∙ eq_same v))
      | false ↦ λ e. or_right (a == v) (list_any (λ x. x == v) (b ∷ rest)) (on_next (b ∷ rest) u v e)
    ] h

on_low : (nodes : List ℕ) (v : ℕ) → are_nodes nodes ≡ true → IsOn nodes v → v < 16
on_low [] v all h = cc
on_low (x ∷ nodes) v all h = elim (or_cases (x == v) (list_any (λ u. u == v) nodes) h) [
  | inl is ↦ let same = eq_from x v is in let low = and_left (nat_lt x 16) (are_nodes nodes) all in below x v same low
  | inr later ↦ on_low nodes v (and_right (nat_lt x 16) (are_nodes nodes) all) later
]
  where
    below : (x v : ℕ) → x ≡ v → nat_lt x 16 ≡ true → v < 16
    below x v same low = grind (arith, nat_tests)

-- Learning a fact of the table gives no new name.
below_received : (s : Site) (d : Durable) (v c : ℕ) (f : Fact) → fact_at d.facts (name_of f) ≡ Some f → IsBelow d v c → IsBelow (apply_record s v (Learned f) d) v c
unfolding apply_record
below_received s d v c f there b =
    record {
      table = λ n g e mine. b.table n g (old n g e) mine;
      known = λ n e mine.
          let e2 : has (d.known v ++ name_of f ∷ []) n ≡ true = sym (ap (λ (ns : List Name). has ns n) (number_set_same d.known v (d.known v ++ name_of f ∷ []))) ∙ e in
          elim (or_cases (has (d.known v) n) (name_eq (name_of f) n) (sym (has-push (d.known v) (name_of f) n) ∙ e2)) [
            | inl before ↦ b.known n before mine
            | inr is ↦ b.table n f (ap (fact_at d.facts) (sym (name_eq_from (name_of f) n is)) ∙ there) mine
          ];
      keys = λ n g p e is mine node. b.keys n g p (old n g e) is mine node;
    }
  where
    old : (n : Name) (g : Fact) → fact_at (learned d.facts f) n ≡ Some g → fact_at d.facts n ≡ Some g
    old n g e = sym (ap (λ (fs : List Fact). fact_at fs n) (learned_there d.facts f there)) ∙ e

secret_name : (f : Fact) → is_secret f ≡ true → IsWellFormedFact f → (name_of f).kind ≡ KeyKind
secret_name (Key name master slave route bytes) e h = h.0
secret_name (Chunk name stream index route bytes) e h = h.0
secret_name (Part name key master slave route bytes) e h = h.0
secret_name _ e h = cc

knows_more : (s : Site) (d : Durable) (v : ℕ) (f : Fact) → has ((apply_record s v (Learned f) d).known v) (name_of f) ≡ true
unfolding apply_record
knows_more s d v f = ap (λ (ns : List Name). has ns (name_of f)) (number_set_same d.known v (d.known v ++ name_of f ∷ [])) ∙ has_last (d.known v) (name_of f)

table_received : (s : Site) (d : Durable) (v : ℕ) (f : Fact) → fact_at d.facts (name_of f) ≡ Some f → (apply_record s v (Learned f) d).facts ≡ d.facts
unfolding apply_record
table_received s d v f there = learned_there d.facts f there

module _ (s : Site) (d : Durable) (frames : Lane → List Allocation) (unclaimed : Lane → List Transmission) (inv : Invariant s d frames unclaimed) (see bare : View)
    (h : Sees s d see bare) where
  -- A fact that has just reached its target may get its Stored note.
  noted_may : (f : Fact) → fact_at d.facts (name_of f) ≡ Some f → has (d.known see.me) (name_of f) ≡ false → see.me < 16 →
      list_all is_numbered (stored_note see f) ≡ true → MayReplay s (apply_record s see.me (Learned f) d) see.me (stored_note see f)
  noted_may f there new low =
      elim (is_secret f && (target f == see.me)) as (λ t. (is_secret f && (target f == see.me)) ≡ t →
      list_all is_numbered (if t then Learned note ∷ [] else []) ≡ true → MayReplay s d' see.me (if t then Learned note ∷ [] else [])) [
        | false ↦ λ e numbered. tt
        | true ↦ λ e numbered.
            let secret = and_left (is_secret f) (target f == see.me) e in
            let ends = eq_from (target f) see.me (and_right (is_secret f) (target f == see.me) e) in
            let fact = inv.table (name_of f) f there in
            let there' : fact_at d'.facts (name_of f) ≡ Some f = ap (λ (fs : List Fact). fact_at fs (name_of f)) (table_received s d see.me f there) ∙ there in (
              made_may s d' see.me (last_count see.me see.facts) note refl (omega arith) (below_received s d see.me (last_count see.me see.facts) f there (is_below s d frames unclaimed inv see bare h))
                  (record {
                    formed = (refl, secret_name f secret fact.formed);
                    ranged = (fresh_is see NoteKind 0 low (and_left (is_numbered (Learned note)) true numbered), ranged_name f fact.ranged, route_back (route_of f) (ranged_route f fact.ranged));
                    starts = first_of-reverse (route_of f) ∙ ends;
                    entitled = tt;
                    note = (subst (IsTargetOf see.me) (sym there') (secret, ends), knows_more s d see.me f, no_other);
                    next = λ stream index e. cc;
                    part = λ p e. cc;
                    unhanded = λ p e. cc;
                  }),
              tt,
            )
      ] refl
    where
      d' : Durable
      d' = apply_record s see.me (Learned f) d

      note : Fact
      note = Stored (fresh_name see NoteKind 0) (name_of f) (reverse (route_of f))

      no_other : NoStoredBy see.me (apply_record s see.me (Learned f) d).facts (name_of f)
      no_other m g e node = not_false (is_stored_about (name_of f) g) (λ about.
          let e2 : fact_at d.facts m ≡ Some g = sym (ap (λ (fs : List Fact). fact_at fs m) (table_received s d see.me f there)) ∙ e in
          let k = (inv.stored.target m (name_of f) g e2 about).1 in
          not_both (has (d.known see.me) (name_of f)) (subst (λ (u : ℕ). has (d.known u) (name_of f) ≡ true) node k) new)

  fact_may : (l : Lane) (offset u : ℕ) (n : Name) (x : IsAdjacent d.facts d.known u u see.me n) → list_all is_numbered (receive_fact see l offset x.fact).batch ≡ true →
      MayReplay s d see.me (receive_fact see l offset x.fact).batch
  unfolding receive_fact
  fact_may l offset u n x =
      elim (not (knows see (name_of x.fact))) as (λ t. not (knows see (name_of x.fact)) ≡ t →
      list_all is_numbered (if t then Learned x.fact ∷ stored_note see x.fact else []) ≡ true →
      MayReplay s d see.me (if t then Learned x.fact ∷ stored_note see x.fact else [])) [
        | false ↦ λ e numbered. tt
        | true ↦ λ e numbered.
            let name : name_of x.fact ≡ n = found_name d.facts n x.fact x.there in
            let there : fact_at d.facts (name_of x.fact) ≡ Some x.fact = ap (fact_at d.facts) name ∙ x.there in
            let new : has (d.known see.me) (name_of x.fact) ≡ false = not_false (has (d.known see.me) (name_of x.fact)) (λ k.
            let seen = seen_there s d see bare h (name_of x.fact) x.fact there k in
            not_both (knows see (name_of x.fact)) (is_some_of_some (fact_at see.facts (name_of x.fact)) _ seen) (was_not (knows see (name_of x.fact)) e)) in
            let on = on_next (route_of x.fact) u see.me x.next in
            let low = on_low (route_of x.fact) see.me (ranged_route x.fact (inv.table (name_of x.fact) x.fact there).ranged).1 on in (
              (new, inl (record { there = there; on = on; source = inr (u, x.next, ap (has (d.known u)) name ∙ x.knows) })),
              noted_may x.fact there new low (and_right (is_numbered (Learned x.fact)) (list_all is_numbered (stored_note see x.fact)) numbered),
            )
      ] refl

  ack_may : (l : Lane) (u : ℕ) (n : Name) → IsAdjacent d.facts d.known u see.me u n → MayReplay s d see.me (receive_ack see l u n).batch
  unfolding receive_ack
  ack_may l u n x = elim (has (owed see u) n) as (λ t. MayReplay s d see.me (if t then Acked n ∷ [] else [])) [ true ↦ ((u, x), tt) | false ↦ tt ]

  pub received_may : (l : Lane) (offset : ℕ) (item : Item) (p : Payload) → MayCarry d.facts d.known (sender s l) see.me item → payload d.facts item ≡ Some p →
      list_all is_numbered (receive s see l offset p).batch ≡ true → MayReplay s d see.me (receive s see l offset p).batch
  received_may l offset (DataItem n) p carried e =
      let is : Data carried.fact ≡ p = some_data carried.fact p (sym (ap data_payload carried.there) ∙ e) in
      subst (λ (q : Payload). list_all is_numbered (receive s see l offset q).batch ≡ true → MayReplay s d see.me (receive s see l offset q).batch) is
      (fact_may l offset (sender s l) n carried)
  received_may l offset (AckItem n) p carried e =
      let is : Ack n ≡ p = cc in
      subst (λ (q : Payload). list_all is_numbered (receive s see l offset q).batch ≡ true → MayReplay s d see.me (receive s see l offset q).batch) is
      (λ numbered. ack_may l (sender s l) n carried)

-- Receiving a frame orders nothing.
pub receive_orders : (s : Site) (see : View) (l : Lane) (offset : ℕ) (p : Payload) → (receive s see l offset p).orders ≡ []
unfolding receive_fact receive_ack
receive_orders s see l offset (Data f) = refl
receive_orders s see l offset (Ack n) = refl
