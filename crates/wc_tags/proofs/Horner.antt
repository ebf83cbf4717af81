-- Horner's rule: the weighed sum of the blocks is computed from the first block on.
use Rattle.std.proofs.Common.{◌≡◌, ℕ, ◌+◌, ◌^◌, ◌<◌, List, [], ◌∷◌, length, refl, sym, ap, ◌∙◌, add-one, lit<}
use Rattle.std.specs.Prelude.{bit_xor}
use Rattle.std.specs.List.{AllByRecursion}
use Rattle.std.proofs.lemmas.Nat.{xor_lt}
use Rattle.std.specs.Int.Bits.{xor_assoc, xor_zero_l, xor_zero_r}
use Rattle.gf64.specs.Field.{product, power}
use Rattle.gf64.proofs.Ring.{product_below, product_xor, zero_times, one_is_neutral, commutes, associates}
use Rattle.gf64.proofs.Powers.{power_below, power_none, power_more}
use Rattle.wc_tags.specs.Tag.{weighed}

-- the sum after Horner's rule: (.. ((h + m1) * k + m2) * k ..) * k
pub horner : ℕ → ℕ → List ℕ → ℕ
horner k h [] = h
horner k h (m ∷ ms) = horner k (product (bit_xor h m) k) ms

-- all of these are elements of the field, so numbers of 64 bits
abbrev pub AreElements : List ℕ → Type 0
AreElements ms = AllByRecursion (λ m. m < 2 ^ 64) ms

no_more : (k h : ℕ) → h < 2 ^ 64 → h ≡ bit_xor (product h (power k 0)) (weighed k [])
unfolding weighed
no_more k h lh = sym (xor_zero_r _ ∙ ap (product h) (power_none k) ∙ commutes h 1 lh (lit< tt) ∙ one_is_neutral h lh)

weighed_more : (k m : ℕ) (ms : List ℕ) → weighed k (m ∷ ms) ≡ bit_xor (product m (power k (length ms + 1))) (weighed k ms)
unfolding weighed
weighed_more k m ms = refl

-- (x * k) * k ^ n is x * k ^ (n + 1)
one_power_more : (x k n : ℕ) → x < 2 ^ 64 → k < 2 ^ 64 → product (product x k) (power k n) ≡ product x (power k (n + 1))
one_power_more x k n lx lk =
    associates x k (power k n) lx lk (power_below k n lk) ∙ ap (product x) (commutes k (power k n) lk (power_below k n lk) ∙ sym (power_more k n))

horner_is : (k h : ℕ) (ms : List ℕ) → k < 2 ^ 64 → h < 2 ^ 64 → AreElements ms → horner k h ms ≡ bit_xor (product h (power k (length ms))) (weighed k ms)
unfolding horner
horner_is k h [] lk lh all = no_more k h lh
horner_is k h (m ∷ ms) lk lh all =
    let x : bit_xor h m < 2 ^ 64 = xor_lt 64 h m lh all.0 in
    let n : ℕ = length ms + 1 in
    let count : n ≡ length (m ∷ ms) = add-one (length ms) in
    horner_is k (product (bit_xor h m) k) ms lk (product_below (bit_xor h m) k x) all.1
    ∙ ap (λ (y : ℕ). bit_xor y (weighed k ms)) (one_power_more (bit_xor h m) k (length ms) x lk ∙ product_xor h m (power k n))
    ∙ xor_assoc (product h (power k n)) (product m (power k n)) (weighed k ms)
    ∙ ap (bit_xor (product h (power k n))) (sym (weighed_more k m ms))
    ∙ ap (λ (y : ℕ). bit_xor (product h (power k y)) (weighed k (m ∷ ms))) count

pub from_zero : (k : ℕ) (ms : List ℕ) → k < 2 ^ 64 → AreElements ms → horner k 0 ms ≡ weighed k ms
from_zero k ms lk all =
    horner_is k 0 ms lk (lit< tt) all ∙ ap (λ (y : ℕ). bit_xor y (weighed k ms)) (zero_times (power k (length ms))) ∙ xor_zero_l (weighed k ms)

pub last_one : (k h m : ℕ) → horner k h (m ∷ []) ≡ product (bit_xor h m) k
unfolding horner
last_one k h m = refl

pub first_one : (k h m : ℕ) (ms : List ℕ) → horner k h (m ∷ ms) ≡ horner k (product (bit_xor h m) k) ms
unfolding horner
first_one k h m ms = refl
