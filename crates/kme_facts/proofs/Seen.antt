-- How a batch changes a view that agrees with the state.
use Rattle.std.proofs.Common.{◌≡◌, ℕ, ◌≤◌, true, false, ◌&&◌, List, [], ◌∷◌, ◌++◌, length, take, refl, sym, ◌∙◌, ap, subst, Option, Some, None, map}
use Rattle.std.specs.Prelude.{if◌then◌else◌}
use Rattle.std.specs.List.{list_any}
use Rattle.net_model.specs.declared.fact.Fact.{Fact}
use Rattle.net_model.specs.declared.record.Record.{Record}
use Rattle.net_model.specs.declared.record.Record.TheVariants.{Block, Lease, Learned, Acked, Handed, Closed, Bare}
use Rattle.net_model.specs.Table.{without_bytes}
use Rattle.net_model.specs.World.{no_volatile}
use Rattle.net_model.specs.View.{View}
use Rattle.net_model.specs.Needed.{masked, masked_fact}
use Rattle.net_model.specs.Fold.{owes, is_end_of, is_handed_by, is_stream_of, marked, view_record, view_records, view_batch}
use Rattle.law_base.proofs.Blind.{needed_alike, masked_twice}
use Rattle.law_base.proofs.Adding.{records_add}
use Rattle.end_store.specs.Pooled.{ends_view}
use Rattle.stream_core.specs.Kept.{StreamEnds, Sees}
use Rattle.kme_facts.specs.Needs.{kept_view, needs_at, IsMasked}
use Rattle.kme_facts.specs.Settled.{kept_before, WasMasked}
use Rattle.kme_facts.specs.Taken.{HasRoom}
use Rattle.kme_facts.proofs.Settling.{alike_masked}

-- the part of a view that the state keeps: the node's number and four lists
abbrev pub five : View → View
five v = record { me = v.me; facts = v.facts; acked = v.acked; handed = v.handed; closed = v.closed; ports = []; volatile = no_volatile }

five_record : (r : Record) (v : View) → five (view_record r v) ≡ view_record r (five v)
unfolding view_record
five_record (Block link number bytes) v = refl
five_record (Lease lane end) v = refl
five_record (Learned f) v = refl
five_record (Bare f) v = refl
five_record (Acked n) v =
    elim (owes v n) as (λ b. five (if b then record v { acked = v.acked ++ n ∷ [] } else v) ≡ (if b then record (five v) { acked = v.acked ++ n ∷ [] } else five v)) [ true ↦ refl | false ↦ refl ]
five_record (Handed n sae) v =
    elim (list_any (λ f. is_end_of v f && is_handed_by n sae f) v.facts) as (λ b. five (if b then record v { handed = marked v.handed n sae } else v) ≡ (if b then record (five v) { handed = marked v.handed n sae } else five v)) [
      | true ↦ refl
      | false ↦ refl
    ]
five_record (Closed n sae) v =
    elim (list_any (λ f. is_end_of v f && is_stream_of n f) v.facts) as (λ b. five (if b then record v { closed = marked v.closed n sae } else v) ≡ (if b then record (five v) { closed = marked v.closed n sae } else five v)) [
      | true ↦ refl
      | false ↦ refl
    ]

five_records : (rs : List Record) (v : View) → five (view_records rs v) ≡ view_records rs (five v)
unfolding view_records
five_records [] v = refl
five_records (r ∷ rs) v = five_records rs (view_record r v) ∙ ap (view_records rs) (five_record r v)

five_masked : (v : View) → five (masked v) ≡ masked (five v)
unfolding masked
five_masked v =
    let fs = alike_masked v (five v) (record { me = refl; acked = refl; handed = refl; facts = refl }) v.facts in
    λ i. record (five v) { facts = fs i }

five_batch : (v : View) (rs : List Record) → five (view_batch v rs) ≡ view_batch (five v) rs
five_batch v rs = five_masked (view_records rs v) ∙ ap masked (five_records rs v)

seen_five : (v : View) (s : StreamEnds) → Sees v s → five v ≡ kept_view s
seen_five v s sees =
    let me = sees.ends.me in
    let facts = sees.ends.facts in
    let acked = sees.ends.acked in
    let handed = sees.ends.handed in
    let closed = sees.closed in
    λ i. record (five v) { me = me i; facts = facts i; acked = acked i; handed = handed i; closed = closed i }

five_seen : (v : View) (s : StreamEnds) → five v ≡ kept_view s → Sees v s
five_seen v s e = record {
  ends = record { me = ap (λ (w : View). w.me) e; facts = ap (λ (w : View). w.facts) e; acked = ap (λ (w : View). w.acked) e; handed = ap (λ (w : View). w.handed) e };
  closed = ap (λ (w : View). w.closed) e;
}

-- which facts are needed

pub need_seen : (v : View) (s : StreamEnds) (o : Option Fact) → Sees v s → needs_at (ends_view s.ends) o ≡ needs_at v o
need_seen v s None sees = refl
need_seen v s (Some f) sees =
    sym (needed_alike v (ends_view s.ends) f (record { me = sees.ends.me; acked = sees.ends.acked; handed = sees.ends.handed; facts = ap (map without_bytes) sees.ends.facts }))

-- applying a batch

pub batch_seen : (old mid new : StreamEnds) (rs : List Record) → kept_view mid ≡ view_records rs (kept_view old) → kept_view new ≡ masked (kept_view mid) →
    (v : View) → Sees v old → Sees (view_batch v rs) new
batch_seen old mid new rs taken let_go v sees =
    five_seen (view_batch v rs) new
    (five_batch v rs ∙ ap (λ (w : View). view_batch w rs) (seen_five v old sees) ∙ ap masked (sym taken) ∙ sym let_go)

pub batch_masked : (mid new : StreamEnds) → kept_view new ≡ masked (kept_view mid) → IsMasked new
batch_masked mid new e = record { same = ap masked e ∙ masked_twice (kept_view mid) ∙ sym e }

-- the state before the batch

take_all_of : {A : Type 0} (xs ys zs : List A) → ys ≡ xs ++ zs → take (length xs) ys ≡ xs
take_all_of {A} xs ys zs e = ap (λ (l : List A). take (length xs) l) e ∙ front xs
  where
    front : (l : List A) → take (length l) (l ++ zs) ≡ l
    front [] = refl
    front (x ∷ l) = ap (λ (k : List A). x ∷ k) (front l)

pub was_masked : (old mid : StreamEnds) (rs : List Record) (nf na nh : ℕ) → IsMasked old → kept_view mid ≡ view_records rs (kept_view old) →
    nf ≡ length old.ends.known.facts → na ≡ length old.ends.known.acked → nh ≡ length old.ends.handed → WasMasked mid nf na nh
unfolding masked
was_masked old mid rs nf na nh was taken f a h =
    let grew = records_add rs (kept_view old) in
    let me = ap (λ (w : View). w.me) taken ∙ grew.later.me in
    let facts = ap (λ (k : ℕ). take k mid.ends.known.facts) f ∙ take_all_of old.ends.known.facts mid.ends.known.facts grew.facts (ap (λ (w : View). w.facts) taken ∙ grew.later.facts_are) in
    let acked = ap (λ (k : ℕ). take k mid.ends.known.acked) a ∙ take_all_of old.ends.known.acked mid.ends.known.acked grew.acked (ap (λ (w : View). w.acked) taken ∙ grew.later.acked_are) in
    let handed = ap (λ (k : ℕ). take k mid.ends.handed) h ∙ take_all_of old.ends.handed mid.ends.handed grew.handed (ap (λ (w : View). w.handed) taken ∙ grew.later.handed_are) in
    let b = kept_before mid nf na nh in
    let same = ap (map (masked_fact b)) facts
    ∙ alike_masked b (kept_view old) (record { me = me; acked = acked; handed = handed; facts = ap (map without_bytes) facts }) old.ends.known.facts
    ∙ ap (λ (w : View). w.facts) was.same ∙ sym facts in
    record { same = λ i. record b { facts = same i } }

pub nothing_masked : (s : StreamEnds) → s.ends.known.facts ≡ [] → IsMasked s
unfolding masked
nothing_masked s e =
    let fs = subst (λ (l : List Fact). map (masked_fact (kept_view s)) l ≡ l) (sym e) refl in
    record { same = λ i. record (kept_view s) { facts = fs i } }

-- the room that is left

pub room_same : (s t : StreamEnds) → t.ends.known.facts_spare ≡ s.ends.known.facts_spare → t.ends.known.acked_spare ≡ s.ends.known.acked_spare → t.ends.handed_spare ≡ s.ends.handed_spare →
    t.closed_spare ≡ s.closed_spare → (n : ℕ) → HasRoom s n → HasRoom t n
room_same s t facts acked handed closed n room = record {
  facts = subst (λ (k : ℕ). n ≤ k) (sym facts) room.facts;
  acked = subst (λ (k : ℕ). n ≤ k) (sym acked) room.acked;
  handed = subst (λ (k : ℕ). n ≤ k) (sym handed) room.handed;
  closed = subst (λ (k : ℕ). n ≤ k) (sym closed) room.closed;
}
