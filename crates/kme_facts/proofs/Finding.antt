-- Whether some item of a group passes a test: the items are tested one by one.
use Rattle.std.proofs.Common.{◌≡◌, ℕ, zero, suc, ◌+◌, ◌<◌, ◌≤◌, Bool, true, false, cond, ◌&&◌, ◌||◌, List, [], ◌∷◌, length, refl, sym, ◌∙◌, ap, subst, arith, Option, Some, None, ◌⊎◌, inl, inr}
use Rattle.std.specs.Prelude.{slice_get, filter, IfSome}
use Rattle.std.specs.List.{list_any}
use Rattle.relay_core.specs.Firsts.{IsFirstFrom, IsNoneFrom}
use Rattle.relay_core.proofs.Firsts.{get_within}

pub sides : (p q : ℕ) → (p < q) ⊎ ((p ≡ q) ⊎ (q < p))
sides zero zero = inr (inl refl)
sides zero (suc q) = inl (omega arith)
sides (suc p) zero = inr (inr (omega arith))
sides (suc p) (suc q) = elim (sides p q) [
  | inl lt ↦ inl (omega arith)
  | inr (inl e) ↦ inr (inl (omega arith))
  | inr (inr gt) ↦ inr (inr (omega arith))
]

module _ {A : Type 0} (t u : A → Bool) (xs : List A) where
  -- no item of the group before a place passes
  pub record Missed (from : ℕ) : Type 0 where
    pub none : (p : ℕ) (x : A) → p < from → slice_get xs p ≡ Some x → t x ≡ true → u x ≡ false

  pub missed_start : Missed 0
  missed_start = record { none = λ p x lt at h. absurd (omega arith) }

  pub missed_more : (from place : ℕ) → Missed from → IsFirstFrom t xs from place → IfSome (slice_get xs place) (λ x. u x ≡ false) → Missed (place + 1)
  missed_more from place missed first other = record {
    none = λ p x lt at h. elim (sides p from) [
      | inl before ↦ missed.none p x before at h
      | inr behind ↦ elim (sides p place) [
        | inl less ↦ let no = first.before p x (below p behind) less at in let c : true ≡ false = sym h ∙ no in absurd (let u : ⊥ = cc in u)
        | inr (inl e) ↦ subst (λ (o : Option A). IfSome o (λ y. u y ≡ false)) (ap (slice_get xs) (sym e) ∙ at) other
        | inr (inr more) ↦ absurd (omega arith)
      ]
    ];
  }
    where
      below : (p : ℕ) → (p ≡ from) ⊎ (from < p) → from ≤ p
      below p (inl e) = omega arith
      below p (inr lt) = omega arith

  none_both : (from : ℕ) → Missed from → ((p : ℕ) (x : A) → from ≤ p → slice_get xs p ≡ Some x → t x ≡ false) → IsNoneFrom (λ x. t x && u x) xs 0
  none_both from missed rest = record {
    none = λ p x low at. elim (sides p from) [
      | inl before ↦ both (t x) refl (λ h. missed.none p x before at h)
      | inr behind ↦ ap (λ (b : Bool). b && u x) (rest p x (below p behind) at)
    ];
  }
    where
      below : (p : ℕ) → (p ≡ from) ⊎ (from < p) → from ≤ p
      below p (inl e) = omega arith
      below p (inr lt) = omega arith

      both : {c : Bool} (b : Bool) → b ≡ b → (b ≡ true → c ≡ false) → (b && c) ≡ false
      both true e h = h refl
      both false e h = refl

  pub missed_none : (from : ℕ) → Missed from → IsNoneFrom t xs from → IsNoneFrom (λ x. t x && u x) xs 0
  missed_none from missed none = none_both from missed none.none

  pub missed_end : (from : ℕ) → Missed from → length xs ≤ from → IsNoneFrom (λ x. t x && u x) xs 0
  missed_end from missed le = none_both from missed (λ p x low at. let lt = get_within xs p x at in absurd (omega arith))

  pub hit_first : (from place : ℕ) → Missed from → IsFirstFrom t xs from place → IfSome (slice_get xs place) (λ x. u x ≡ true) → IsFirstFrom (λ x. t x && u x) xs 0 place
  hit_first from place missed first passes = record {
    behind = omega arith;
    item = first.item;
    there = first.there;
    passes = ap (λ (b : Bool). b && u first.item) first.passes ∙ subst (λ (o : Option A). IfSome o (λ x. u x ≡ true)) first.there passes;
    before = λ p x low high at. elim (sides p from) [
      | inl before ↦ both (t x) (λ h. missed.none p x before at h)
      | inr behind ↦ ap (λ (b : Bool). b && u x) (first.before p x (below p behind) high at)
    ];
  }
    where
      below : (p : ℕ) → (p ≡ from) ⊎ (from < p) → from ≤ p
      below p (inl e) = omega arith
      below p (inr lt) = omega arith

      both : {c : Bool} (b : Bool) → (b ≡ true → c ≡ false) → (b && c) ≡ false
      both true h = h refl
      both false h = refl

-- the items that a filter keeps

pub any_filtered : {A : Type 0} (t u : A → Bool) (xs : List A) → list_any u (filter t xs) ≡ list_any (λ x. t x && u x) xs
any_filtered t u [] = refl
any_filtered t u (x ∷ xs) =
    elim (t x) as (λ b. list_any u (cond b (x ∷ filter t xs) (filter t xs)) ≡ ((b && u x) || list_any (λ y. t y && u y) xs)) [
      | true ↦ ap (λ (b : Bool). u x || b) (any_filtered t u xs)
      | false ↦ any_filtered t u xs
    ]

-- the test of the item at a place
pub as_passed : {A : Type 0} (u : A → Bool) (o : Option A) (r b : Bool) → IfSome o (λ x. r ≡ u x) → r ≡ b → IfSome o (λ x. u x ≡ b)
as_passed u None r b h e = tt
as_passed u (Some x) r b h e = sym h ∙ e
