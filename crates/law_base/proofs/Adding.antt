-- Each record only appends to the lists of a view.
use Rattle.std.proofs.Common.{◌≡◌, Bool, true, false, List, [], ◌∷◌, ◌++◌, refl, ◌∙◌, ap, append_assoc}
use Rattle.std.specs.Prelude.{if◌then◌else◌, ◌&&◌}
use Rattle.std.specs.List.{list_any}
use Rattle.net_model.specs.declared.fact.Fact.{Fact}
use Rattle.net_model.specs.declared.record.Record.{Record}
use Rattle.net_model.specs.declared.record.Record.TheVariants.{Block, Lease, Learned, Acked, Handed, Closed, Bare}
use Rattle.net_model.specs.Table.{name_of, has_fact, learned, was_handed}
use Rattle.net_model.specs.View.{View}
use Rattle.net_model.specs.Fold.{owes, is_end_of, is_handed_by, is_stream_of, marked, view_record, view_records}
use Rattle.law_base.specs.Touched.{Grows}

-- The new list is the old one with further items at its end.
record Tail {A : Type 0} (old new : List A) : Type 0 where
  pub more : List A
  pub is : new ≡ old ++ more

none : {A : Type 0} (xs : List A) → xs ≡ xs ++ []
none [] = refl
none (x ∷ xs) = ap (λ ys. x ∷ ys) (none xs)

no_tail : {A : Type 0} (xs : List A) → Tail xs xs
no_tail xs = record { more = []; is = none xs }

one_tail : {A : Type 0} (b : Bool) (xs : List A) (x : A) → Tail xs (if b then xs ++ x ∷ [] else xs)
one_tail true xs x = record { more = x ∷ []; is = refl }
one_tail false xs x = no_tail xs

other_tail : {A : Type 0} (b : Bool) (xs : List A) (x : A) → Tail xs (if b then xs else xs ++ x ∷ [])
other_tail true xs x = no_tail xs
other_tail false xs x = record { more = x ∷ []; is = refl }

grown : (v w : View) → w.me ≡ v.me → Tail v.facts w.facts → Tail v.acked w.acked → Tail v.handed w.handed → Grows v w
grown v w me f a h = record {
  facts = f.more;
  acked = a.more;
  handed = h.more;
  later = record { me = me; facts_are = f.is; acked_are = a.is; handed_are = h.is };
}

same : (v w : View) → w.me ≡ v.me → w.facts ≡ v.facts → w.acked ≡ v.acked → w.handed ≡ v.handed → Grows v w
same v w me f a h = record {
  facts = [];
  acked = [];
  handed = [];
  later = record { me = me; facts_are = f ∙ none v.facts; acked_are = a ∙ none v.acked; handed_are = h ∙ none v.handed };
}

learned_tail : (facts : List Fact) (f : Fact) → Tail facts (learned facts f)
learned_tail facts f = other_tail (has_fact facts (name_of f)) facts f

one_grows : (r : Record) (v : View) → Grows v (view_record r v)
unfolding view_record
one_grows (Block link number bytes) v = same v (view_record (Block link number bytes) v) refl refl refl refl
one_grows (Lease lane end) v = same v (view_record (Lease lane end) v) refl refl refl refl
one_grows (Learned f) v = grown v (view_record (Learned f) v) refl (learned_tail v.facts f) (no_tail v.acked) (no_tail v.handed)
one_grows (Bare f) v = grown v (view_record (Bare f) v) refl (learned_tail v.facts f) (no_tail v.acked) (no_tail v.handed)
one_grows (Acked n) v = elim (owes v n) as (λ b. Grows v (if b then record v { acked = v.acked ++ n ∷ [] } else v)) [
  | true ↦ grown v (record v { acked = v.acked ++ n ∷ [] }) refl (no_tail v.facts) (record { more = n ∷ []; is = refl }) (no_tail v.handed)
  | false ↦ same v v refl refl refl refl
]
one_grows (Handed n sae) v = elim (list_any (λ f. is_end_of v f && is_handed_by n sae f) v.facts) as (λ b. Grows v (if b then record v { handed = marked v.handed n sae } else v)) [
  | true ↦ grown v (record v { handed = marked v.handed n sae }) refl (no_tail v.facts) (no_tail v.acked) (other_tail (was_handed v.handed n sae) v.handed (n, sae))
  | false ↦ same v v refl refl refl refl
]
one_grows (Closed n sae) v = elim (list_any (λ f. is_end_of v f && is_stream_of n f) v.facts) as (λ b. Grows v (if b then record v { closed = marked v.closed n sae } else v)) [
  | true ↦ same v (record v { closed = marked v.closed n sae }) refl refl refl refl
  | false ↦ same v v refl refl refl refl
]

then_more : {A : Type 0} (a b c d e : List A) → b ≡ a ++ d → c ≡ b ++ e → c ≡ a ++ (d ++ e)
then_more a b c d e first second = second ∙ ap (λ xs. xs ++ e) first ∙ append_assoc a d e

both_grow : (u v w : View) → Grows u v → Grows v w → Grows u w
both_grow u v w g h = record {
  facts = g.facts ++ h.facts;
  acked = g.acked ++ h.acked;
  handed = g.handed ++ h.handed;
  later = record {
    me = h.later.me ∙ g.later.me;
    facts_are = then_more u.facts v.facts w.facts g.facts h.facts g.later.facts_are h.later.facts_are;
    acked_are = then_more u.acked v.acked w.acked g.acked h.acked g.later.acked_are h.later.acked_are;
    handed_are = then_more u.handed v.handed w.handed g.handed h.handed g.later.handed_are h.later.handed_are;
  };
}

pub records_add : (rs : List Record) (v : View) → Grows v (view_records rs v)
unfolding view_records
records_add [] v = same v v refl refl refl refl
records_add (r ∷ rs) v = both_grow v (view_record r v) (view_records rs (view_record r v)) (one_grows r v) (records_add rs (view_record r v))
