-- Products of a polynomial by the polynomials below x ^ 4.
use Rattle.std.proofs.Common.{◌≡◌, ℕ, zero, suc, ◌+◌, ◌*◌, ◌/◌, ◌%◌, ◌^◌, ◌<◌, Bool, refl, sym, ap, ap₂, subst, ◌∙◌, arith, lit<, ◌≤◌, List, ◌∷◌, length, set, inl, inr}
use Rattle.std.specs.Prelude.{bit_xor}
use Rattle.std.proofs.Math.Nat.{pow-le-pow_right}
use Rattle.std.proofs.lemmas.Nat.{xor_comm, xor_lt, shl_whole, shl_below}
use Rattle.std.proofs.lemmas.Bool.{cases_lt}
use Rattle.std.proofs.lemmas.List.{get_or-set_other, length-set}
use Rattle.std.proofs.lemmas.Grind.{get_or-set_at}
use Rattle.std.specs.Int.Bits.{xor_zero_l, xor_zero_r}
use Rattle.gf64.specs.Field.{part, poly_times, remainder}
use Rattle.gf64.specs.Multiples.{AreMultiples}
use Rattle.gf64.proofs.Sums.{none_at}
use Rattle.gf64.proofs.Multiplication.{times_half, times_add, times_below}
use Rattle.gf64.proofs.Division.{remainder_xor, remainder_zero, remainder_small, remainder_top, remainder_below}
use Rattle.gf64.proofs.Shifts.{times_x, remainder_shift, reduced_shifted}

-- ---- the table of products, filled in pairs

-- a factor below x ^ 3 has no fourth term
short : (p q : ℕ) → q < 8 → poly_times 4 p q ≡ poly_times 3 p q
unfolding poly_times
short p q lt = ap (λ (c : Bool). bit_xor (poly_times 3 p q) (part c (p * 2 ^ 3))) (none_at 3 q lt) ∙ xor_zero_r (poly_times 3 p q)

pub even : (p q : ℕ) → q < 8 → poly_times 4 p (2 * q) ≡ 2 * poly_times 4 p q
even p q lt =
    let half : 2 * q / 2 ≡ q = omega arith in
    let bit : 2 * q / 2 ^ 0 % 2 ≡ 0 = omega arith in
    times_half 3 p (2 * q) ∙ rw (bit, half) (xor_zero_l _) ∙ ap (λ (x : ℕ). 2 * x) (sym (short p q lt))

pub odd : (p q : ℕ) → q < 8 → poly_times 4 p (2 * q + 1) ≡ bit_xor (2 * poly_times 4 p q) p
odd p q lt =
    let half : (2 * q + 1) / 2 ≡ q = omega arith in
    let bit : (2 * q + 1) / 2 ^ 0 % 2 ≡ 1 = omega arith in
    times_half 3 p (2 * q + 1) ∙ rw (bit, half) (xor_comm p _) ∙ ap (λ (x : ℕ). bit_xor (2 * x) p) (sym (short p q lt))

pub first_two : (p : ℕ) → (poly_times 4 p 0 ≡ 0) × (poly_times 4 p 1 ≡ p)
unfolding poly_times
first_two p =
    let one : p * 2 ^ 0 ≡ p = omega arith in
    (refl, rw one (xor_zero_r _ ∙ xor_zero_r _ ∙ xor_zero_r _ ∙ xor_zero_l p))

-- ---- the product by four terms of another factor

low_terms : (p q : ℕ) → poly_times 4 p q ≡ poly_times 4 p (q % 16)
unfolding poly_times
low_terms p q =
    let b0 : q % 16 / 2 ^ 0 % 2 ≡ q / 2 ^ 0 % 2 = omega arith in
    let b1 : q % 16 / 2 ^ 1 % 2 ≡ q / 2 ^ 1 % 2 = omega arith in
    let b2 : q % 16 / 2 ^ 2 % 2 ≡ q / 2 ^ 2 % 2 = omega arith in
    let b3 : q % 16 / 2 ^ 3 % 2 ≡ q / 2 ^ 3 % 2 = omega arith in
    rw (b0, b1, b2, b3) refl

element : (m p : ℕ) → p < 2 ^ 67 → m ≡ remainder 63 p → m < 2 ^ 64
element m p lt e =
    let below : p < 2 ^ (64 + 63) = omega (arith, lt) in
    subst (λ (n : ℕ). n < 2 ^ 64) (sym e) (remainder_below 63 p below)

pub four_more : (p q i sum multiple : ℕ) → p < 2 ^ 64 → i < 16 → remainder 63 sum ≡ remainder 63 (poly_times (4 * i) p q) → multiple ≡ remainder 63 (poly_times 4 p (q / 2 ^ (4 * i) % 16))
    → remainder 63 (bit_xor sum (multiple * 2 ^ (4 * i) % 2 ^ 128)) ≡ remainder 63 (poly_times (4 * (i + 1)) p q)
four_more p q i sum multiple lp li s m =
    let next : 4 * (i + 1) ≡ 4 * i + 4 = omega arith in
    let four : ℕ = poly_times 4 p (q / 2 ^ (4 * i)) in
    let below : four < 2 ^ 67 = times_below 4 63 p (q / 2 ^ (4 * i)) lp in
    let is : multiple ≡ remainder 63 four = m ∙ ap (remainder 63) (sym (low_terms p (q / 2 ^ (4 * i)))) in
    let whole : multiple * 2 ^ (4 * i) % 2 ^ 128 ≡ multiple * 2 ^ (4 * i) = shl_whole multiple 64 (4 * i) 128 (element multiple four below is) (omega (arith, li)) in
    ap (λ (x : ℕ). remainder 63 (bit_xor sum x)) whole
    ∙ remainder_xor 63 sum (multiple * 2 ^ (4 * i))
    ∙ ap₂ bit_xor s (reduced_shifted (4 * i) four multiple (omega (arith, li)) below is)
    ∙ sym (remainder_xor 63 (poly_times (4 * i) p q) (four * 2 ^ (4 * i)))
    ∙ sym (ap (λ (n : ℕ). remainder 63 (poly_times n p q)) next ∙ ap (remainder 63) (times_add (4 * i) 4 p q))

-- the sum of shifted products stays below x ^ 124
pub stays_low : (i sum multiple : ℕ) → i < 16 → sum < 2 ^ 124 → multiple < 2 ^ 64 → bit_xor sum (multiple * 2 ^ (4 * i) % 2 ^ 128) < 2 ^ 124
stays_low i sum multiple li ls lm =
    let most : 64 + 4 * i ≤ 124 = omega (arith, li) in
    let room : 2 ^ (64 + 4 * i) ≤ 2 ^ 124 = pow-le-pow_right {n = 2} (lit< tt) {i = 64 + 4 * i} {j = 124} most in
    let whole : multiple * 2 ^ (4 * i) % 2 ^ 128 ≡ multiple * 2 ^ (4 * i) = shl_whole multiple 64 (4 * i) 128 lm (omega (arith, li)) in
    let below : multiple * 2 ^ (4 * i) < 2 ^ 124 = omega (arith, room, shl_below multiple 64 (4 * i) lm) in
    xor_lt 124 sum _ ls (subst (λ (n : ℕ). n < 2 ^ 124) (sym whole) below)

-- ---- the loops that fill and use the table

pub first_pair : (p : ℕ) (rest : List ℕ) → p < 2 ^ 64 → AreMultiples p 2 (0 ∷ p ∷ rest)
first_pair p rest lp zero lt = sym (ap (remainder 63) (first_two p).0 ∙ remainder_zero 63)
first_pair p rest lp (suc zero) lt = sym (ap (remainder 63) (first_two p).1 ∙ remainder_small 63 p lp)
first_pair p rest lp (suc (suc q)) lt = absurd (omega (arith, lt))

-- writing a further pair keeps the earlier products
pub pair_more : (p i even_one odd_one : ℕ) (products : List ℕ) → length products ≡ 16 → i < 8 → even_one ≡ remainder 63 (poly_times 4 p (2 * i)) → odd_one ≡ remainder 63 (poly_times 4 p (2 * i + 1))
    → AreMultiples p (2 * i) products → AreMultiples p (2 * (i + 1)) (set (set products (2 * i) even_one) (2 * i + 1) odd_one)
pair_more p i even_one odd_one products room li e o filled q lt =
    let inner : List ℕ = set products (2 * i) even_one in
    let inner_room : length inner ≡ 16 = length-set products (2 * i) even_one ∙ room in
    elim (cases_lt q (2 * i)) [
      | inl before ↦
          get_or-set_other inner (2 * i + 1) q odd_one 0 (omega (arith, before)) ∙ get_or-set_other products (2 * i) q even_one 0 (omega (arith, before)) ∙ filled q before
      | inr from_here ↦ elim (cases_lt q (2 * i + 1)) [
        | inl below ↦
            let here : q ≡ 2 * i = omega (arith, from_here, below) in
            get_or-set_other inner (2 * i + 1) q odd_one 0 (omega (arith, here)) ∙ get_or-set_at products (2 * i) q even_one 0 here (omega (arith, room, li)) ∙ e ∙ ap (λ (n : ℕ). remainder 63 (poly_times 4 p n)) (sym here)
        | inr above ↦
            let here : q ≡ 2 * i + 1 = omega (arith, above, lt) in
            get_or-set_at inner (2 * i + 1) q odd_one 0 here (omega (arith, inner_room, li)) ∙ o ∙ ap (λ (n : ℕ). remainder 63 (poly_times 4 p n)) (sym here)
      ]
    ]

-- the pair of products that the code computes is right
pub even_is : (p i at_i : ℕ) → p < 2 ^ 64 → i < 8 → at_i ≡ remainder 63 (poly_times 4 p i) → remainder 63 (2 * at_i) ≡ remainder 63 (poly_times 4 p (2 * i))
even_is p i at_i lp li e =
    let four : ℕ = poly_times 4 p i in
    let below : four < 2 ^ 67 = times_below 4 63 p i lp in
    let lower : four < 2 ^ (64 + 62) = omega (arith, below) in
    remainder_shift 62 at_i ∙ ap times_x (remainder_small 62 at_i (element at_i four below e) ∙ e ∙ remainder_top 62 four lower) ∙ sym (remainder_shift 62 four)
    ∙ ap (remainder 63) (sym (even p i li))

pub odd_is : (p i one : ℕ) → p < 2 ^ 64 → i < 8 → one ≡ remainder 63 (poly_times 4 p (2 * i)) → bit_xor one p ≡ remainder 63 (poly_times 4 p (2 * i + 1))
odd_is p i one lp li e =
    ap₂ bit_xor (e ∙ ap (remainder 63) (even p i li)) (sym (remainder_small 63 p lp)) ∙ sym (remainder_xor 63 (2 * poly_times 4 p i) p) ∙ ap (remainder 63) (sym (odd p i li))
