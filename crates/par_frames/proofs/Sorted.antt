-- In a list that is sorted by two numbers, the elements with the same first number are in order of the second.
use Rattle.std.proofs.Common.{◌≡◌, ℕ, zero, suc, ◌+◌, ◌-◌, ◌<◌, ◌≤◌, false, List, length, refl, ap, arith}
use mathlib.Core.Bool.{true≢false}
use Rattle.std.specs.Prelude.{◌==◌, get_or}
use Rattle.std.specs.List.Sorted.{IsNonDecreasingBy}
use Rattle.std.specs.Ordering.{nat_cmp, ordering_then, is_lt}
use Rattle.std.specs.declared.cmp.Ordering.{Ordering}
use Rattle.std.specs.declared.cmp.Ordering.TheVariants.{Less, Equal, Greater}
use Rattle.std.proofs.lemmas.Cmp.{ranked}
use Rattle.law_base.proofs.Base.{eq_from}
use Rattle.par_frames.specs.Sorting.{IsOrderedWhere, IsSortedByBoth}

-- The first number doesn't fall; while it stays, the second doesn't fall.
abbrev Rises : (a b c d : ℕ) → Type 0
Rises a b c d = (a ≤ c) × (a ≡ c → b ≤ d)

second_rises : (b d : ℕ) (o : Ordering) → o ≡ nat_cmp d b → is_lt o ≡ false → b ≤ d
second_rises b d Less e h = absurd (true≢false h)
second_rises b d Equal e h = let same = ranked d b Equal e in omega (arith, same)
second_rises b d Greater e h = let less = ranked d b Greater e in omega (arith, less)

not_less : (a b c d : ℕ) (o : Ordering) → o ≡ nat_cmp c a → is_lt (ordering_then o (nat_cmp d b)) ≡ false → Rises a b c d
not_less a b c d Less e h = absurd (true≢false h)
not_less a b c d Equal e h = let same = ranked c a Equal e in (omega (arith, same), λ f. second_rises b d (nat_cmp d b) refl h)
not_less a b c d Greater e h = let less = ranked c a Greater e in (omega (arith, less), λ f. absurd (omega (arith, less, f)))

module _ {A : Type 0} (place key : A → ℕ) (xs : List A) (sorted : IsSortedByBoth place key xs) where
  abbrev At : ℕ → A → A
  At i d = get_or xs i d

  next : (k : ℕ) (d : A) → k + 1 < length xs → Rises (place (At k d)) (key (At k d)) (place (At (k + 1) d)) (key (At (k + 1) d))
  next k d lt = not_less (place (At k d)) (key (At k d)) (place (At (k + 1) d)) (key (At (k + 1) d)) (nat_cmp (place (At (k + 1) d)) (place (At k d))) refl (sorted k d (omega arith) lt)

  far : (i m : ℕ) (d : A) → i + m < length xs → Rises (place (At i d)) (key (At i d)) (place (At (i + m) d)) (key (At (i + m) d))
  far i zero d lt =
      let same : i ≡ i + zero = omega arith in
      let one = ap (λ n. place (At n d)) same in
      let two = ap (λ n. key (At n d)) same in (omega (arith, one), λ e. omega (arith, two))
  far i (suc m) d lt =
      let on : i + m + 1 ≡ i + suc m = omega arith in
      let one = ap (λ n. place (At n d)) on in
      let two = ap (λ n. key (At n d)) on in
      let before = far i m d (omega (arith, lt)) in
      let last = next (i + m) d (omega (arith, lt)) in
      let low = before.0 in
      let high = last.0 in (
        omega (arith, one, low, high),
        λ e.
            let first = before.1 (omega (arith, one, low, high, e)) in
            let second = last.1 (omega (arith, one, low, high, e)) in omega (arith, two, first, second),
      )

  pub in_part : (n : ℕ) → IsOrderedWhere (λ x. place x == n) key xs
  in_part n i j d le lt here there =
      let at : i + (j - i) ≡ j = omega (arith, le) in
      let both = far i (j - i) d (omega (arith, le, lt)) in
      let one = ap (λ m. place (At m d)) at in
      let two = ap (λ m. key (At m d)) at in
      let first = eq_from (place (At i d)) n here in
      let second = eq_from (place (At j d)) n there in
      let up = both.1 (omega (arith, one, first, second)) in omega (arith, two, up)

  pub places_rise : IsNonDecreasingBy place xs
  places_rise i j d le lt =
      let at : i + (j - i) ≡ j = omega (arith, le) in
      let both = far i (j - i) d (omega (arith, le, lt)) in
      let one = ap (λ m. place (At m d)) at in
      let up = both.0 in omega (arith, one, up)
