-- A new link between two nodes that have none yet gets the first free number.
use Rattle.std.proofs.Common.{◌≡◌, ◌∙◌, ◌⊎◌, inl, inr, ℕ, zero, suc, ◌+◌, ◌<◌, ◌≤◌, ◌==◌, Bool, true, false, [], ◌∷◌, length, get_or, Option, Some, None, refl, sym, ap, subst, arith, cond}
use Rattle.std.specs.Prelude.{◌≢◌, if◌then◌else◌, nat_lt, is_some, slice_set}
use Rattle.std.specs.List.{list_any}
use Rattle.std.proofs.lemmas.Bool.{and_from, or_parts, cases_lt, cases_eq, eq-eqb, eqb-false, lt-ltb, le-ltb, ltb-true, ltb-false, false≢true}
use Rattle.std.proofs.lemmas.List.{length-set, get_or-set_same, get_or-set_other}
use Rattle.std.proofs.lemmas.List.Sums.{sum_by-set}
use Rattle.route_table.specs.Table.{Table, IsTable, ends_of, lower_then_higher}
use Rattle.declared_site.specs.SiteOf.{links_in}
use Rattle.scenario_text.specs.Declaring.{is_between}
use Rattle.law_run.proofs.FitGiven.{same_some}
use Rattle.law_run.proofs.Found.{IsFree}

abbrev Ends : Type 0
Ends = ℕ × ℕ

-- The two nodes are different and in order of number.
pub record InOrder (n : ℕ) (p : Ends) : Type 0 where
  pub order : p.0 < p.1
  pub within : p.1 < n

in_order_by : (n a b : ℕ) → a < n → b < n → (a == b) ≡ false → (low : Bool) → nat_lt a b ≡ low → InOrder n (if low then (a, b) else (b, a))
in_order_by n a b first last apart true is = record { order = ltb-true a b is; within = last }
in_order_by n a b first last apart false is =
    let le = ltb-false a b is in
    let differ = eqb-false a b apart in
    record { order = omega (arith, le, differ); within = first }

pub in_order : (n a b : ℕ) → a < n → b < n → (a == b) ≡ false → InOrder n (lower_then_higher a b)
in_order n a b first last apart = in_order_by n a b first last apart (nat_lt a b) refl

-- No link of the table has these ends.
none_between : (p : Ends) (t : Table) → list_any (is_between p) t ≡ false → (link : ℕ) → is_between p (get_or t link None) ≡ false
none_between p [] h link = refl
none_between p (e ∷ t) h zero = (or_parts (is_between p e) (list_any (is_between p) t) h).0
none_between p (e ∷ t) h (suc link) = none_between p t (or_parts (is_between p e) (list_any (is_between p) t) h).1 link

is_itself : (p : Ends) → is_between p (Some p) ≡ true
is_itself p = and_from (p.0 == p.0) (p.1 == p.1) (eq-eqb p.0 p.0 refl) (eq-eqb p.1 p.1 refl)

module _ (t : Table) (table : IsTable t) (numbered : (link : ℕ) → is_some (ends_of t link) ≡ nat_lt link (links_in t)) (link : ℕ) (free : IsFree t 0 link) where
  within : link < length t
  within = let is = free.is in let below = free.within in omega (arith, is, below)

  free_here : ends_of t link ≡ None
  free_here = let is : link ≡ free.place = (let e = free.is in omega (arith, e)) in ap (λ (n : ℕ). ends_of t n) is ∙ free.free

  -- The number of the new link is the number of links before.
  last : link ≡ links_in t
  last =
      let n = links_in t in
      let none : nat_lt link n ≡ false = sym (numbered link) ∙ ap is_some free_here in
      let least : n ≤ link = ltb-false link n none in
      elim (cases_lt n link) [
        | inl below ↦
            let is = free.is in
            let there : nat_lt n n ≡ true = sym (numbered n) ∙ free.before n (omega (arith, below, is)) in
            let never = ltb-true n n there in
            absurd (omega (arith, never))
        | inr most ↦ omega (arith, least, most)
      ]

  module _ (p : Ends) where
    abbrev after : Table
    after = slice_set t link (Some p)

    one_more : links_in after ≡ links_in t + 1
    one_more =
        let sums = sum_by-set (λ (o : Option Ends). cond (is_some o) 1 0) t link (Some p) None within in
        let gone : ◌≡◌ {A = ℕ} (cond (is_some (ends_of t link)) 1 0) 0 = ap (λ (o : Option Ends). cond (is_some o) 1 0) free_here in
        omega (arith, sums, gone)

    here : ends_of after link ≡ Some p
    here = get_or-set_same t link (Some p) None within

    elsewhere : (l : ℕ) → l ≢ link → ends_of after l ≡ ends_of t l
    elsewhere l other = get_or-set_other t link l (Some p) None other

    ends_after : (l : ℕ) (e : Ends) → ends_of after l ≡ Some e → ((l ≡ link) × (p ≡ e)) ⊎ (ends_of t l ≡ Some e)
    ends_after l e is =
        elim (cases_eq l link) [
          | inl same ↦ inl (same, same_some p e (sym here ∙ ap (λ (n : ℕ). ends_of after n) (sym same) ∙ is))
          | inr other ↦ inr (sym (elsewhere l other) ∙ is)
        ]

    pub numbers_after : (l : ℕ) → is_some (ends_of after l) ≡ nat_lt l (links_in after)
    numbers_after l =
        elim (cases_eq l link) [
          | inl same ↦
              ap (λ (n : ℕ). is_some (ends_of after n)) same ∙ ap is_some here
              ∙ sym (lt-ltb l (links_in after) (let more = one_more in let at = last in omega (arith, more, at, same)))
          | inr other ↦ ap is_some (elsewhere l other) ∙ numbered l ∙ same_test l other (links_in t) (links_in after) one_more last
        ]
      where
        same_test : (l : ℕ) → l ≢ link → (n m : ℕ) → m ≡ n + 1 → link ≡ n → nat_lt l n ≡ nat_lt l m
        same_test l other n m more at =
            elim (cases_lt l n) [
              | inl below ↦ lt-ltb l n below ∙ sym (lt-ltb l m (omega (arith, below, more)))
              | inr above ↦ le-ltb l n above ∙ sym (le-ltb l m (omega (arith, above, more, at, other)))
            ]

    pub ends_within : (n : ℕ) → InOrder n p → ((l low high : ℕ) → ends_of t l ≡ Some (low, high) → high < n) → (l low high : ℕ) → ends_of after l ≡ Some (low, high) → high < n
    ends_within n ordered ends l low high is =
        elim (ends_after l (low, high) is) [
          | inl new ↦ subst (λ (e : Ends). e.1 < n) new.1 ordered.within
          | inr old ↦ ends l low high old
        ]

    pub table_after : (n : ℕ) → n ≤ 16 → InOrder n p → list_any (is_between p) t ≡ false → IsTable after
    table_after n few ordered apart = record {
      places = length-set t link (Some p) ∙ table.places;
      lower_first = λ l v w is.
          elim (ends_after l (v, w) is) [ inl new ↦ subst (λ (e : Ends). e.0 < e.1) new.1 ordered.order | inr old ↦ table.lower_first l v w old ];
      nodes = λ l v w is.
          elim (ends_after l (v, w) is) [
            | inl new ↦ let below : w < n = subst (λ (e : Ends). e.1 < n) new.1 ordered.within in omega (arith, below, few)
            | inr old ↦ table.nodes l v w old
          ];
      one_each = λ l m v w first other.
          elim (ends_after l (v, w) first) [
            | inl new ↦ elim (ends_after m (v, w) other) [ inl again ↦ new.0 ∙ sym again.0 | inr old ↦ absurd (never m (v, w) new.1 old) ]
            | inr old ↦ elim (ends_after m (v, w) other) [ inl new ↦ absurd (never l (v, w) new.1 old) | inr more ↦ table.one_each l m v w old more ]
          ];
    }
      where
        never : (m : ℕ) (e : Ends) → p ≡ e → ends_of t m ≡ Some e → ⊥
        never m e same old =
            false≢true (sym (none_between p t apart m) ∙ ap (is_between p) (old ∙ ap (λ (x : Ends). Some x) (sym same)) ∙ is_itself p)
