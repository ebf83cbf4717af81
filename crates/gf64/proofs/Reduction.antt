-- A polynomial is reduced by x ^ 64 = x ^ 4 + x ^ 3 + x + 1.
use Rattle.std.proofs.Common.{◌≡◌, ℕ, ◌-◌, ◌*◌, ◌/◌, ◌%◌, ◌^◌, ◌<◌, refl, sym, ap, ◌∙◌, arith, lit≤, bit_and}
use Rattle.std.specs.Prelude.{bit_xor}
use Rattle.std.proofs.lemmas.Nat.{xor_lt, shl_whole, shr_below, shr_split, and_mask, mod_below, pow_pos}
use Rattle.std.specs.Int.Bits.{xor_assoc, xor_self, xor_zero_l, xor_shifted}
use Rattle.gf64.specs.Field.{modulus, poly_times, remainder}
use Rattle.gf64.proofs.Sums.{swap_middle}
use Rattle.gf64.proofs.Multiplication.{times_xor, power_times}
use Rattle.gf64.proofs.Division.{same_remainder, remainder_small}

-- the multiple of the modulus by q, term by term
modulus_times : (n q : ℕ) → q < 2 ^ n → poly_times n modulus q ≡ bit_xor (bit_xor (bit_xor (bit_xor (q * 2 ^ 64) (q * 2 ^ 4)) (q * 2 ^ 3)) (q * 2 ^ 1)) (q * 2 ^ 0)
modulus_times n q lt =
    times_xor n (bit_xor (bit_xor (bit_xor (2 ^ 64) (2 ^ 4)) (2 ^ 3)) (2 ^ 1)) (2 ^ 0) q
    ∙ ap (λ (x : ℕ). bit_xor x (poly_times n (2 ^ 0) q)) (times_xor n (bit_xor (bit_xor (2 ^ 64) (2 ^ 4)) (2 ^ 3)) (2 ^ 1) q
    ∙ ap (λ (x : ℕ). bit_xor x (poly_times n (2 ^ 1) q)) (times_xor n (bit_xor (2 ^ 64) (2 ^ 4)) (2 ^ 3) q
    ∙ ap (λ (x : ℕ). bit_xor x (poly_times n (2 ^ 3) q)) (times_xor n (2 ^ 64) (2 ^ 4) q)))
    ∙ rw (power_times n 64 q lt, power_times n 4 q lt, power_times n 3 q lt, power_times n 1 q lt, power_times n 0 q lt) refl

cancel : (h l a b c d : ℕ) → bit_xor (bit_xor h l) (bit_xor (bit_xor (bit_xor (bit_xor h a) b) c) d) ≡ bit_xor (bit_xor (bit_xor (bit_xor l a) b) c) d
cancel h l a b c d =
    let x : ℕ = bit_xor h l in
    let first : bit_xor x (bit_xor h a) ≡ bit_xor l a = swap_middle h l h a ∙ ap (λ (z : ℕ). bit_xor z (bit_xor l a)) (xor_self h) ∙ xor_zero_l (bit_xor l a) in
    let second : bit_xor x (bit_xor (bit_xor h a) b) ≡ bit_xor (bit_xor l a) b = sym (xor_assoc x (bit_xor h a) b) ∙ ap (λ (z : ℕ). bit_xor z b) first in
    let third : bit_xor x (bit_xor (bit_xor (bit_xor h a) b) c) ≡ bit_xor (bit_xor (bit_xor l a) b) c = sym (xor_assoc x (bit_xor (bit_xor h a) b) c) ∙ ap (λ (z : ℕ). bit_xor z c) second in
    sym (xor_assoc x (bit_xor (bit_xor (bit_xor h a) b) c) d) ∙ ap (λ (z : ℕ). bit_xor z d) third

-- the upper half h of a polynomial, replaced by h * (x ^ 4 + x ^ 3 + x + 1)
pub folded : ℕ → ℕ
folded p = bit_xor (bit_xor (bit_xor (bit_xor (p % 2 ^ 64) (p / 2 ^ 64 * 2 ^ 4)) (p / 2 ^ 64 * 2 ^ 3)) (p / 2 ^ 64 * 2 ^ 1)) (p / 2 ^ 64 * 2 ^ 0)

halves : (p : ℕ) → bit_xor (p / 2 ^ 64 * 2 ^ 64) (p % 2 ^ 64) ≡ p
halves p = xor_shifted (p / 2 ^ 64) 64 (p % 2 ^ 64) (mod_below p (2 ^ 64) (pow_pos 64)) ∙ shr_split p 64

folded_is : (n p : ℕ) → p / 2 ^ 64 < 2 ^ n → folded p ≡ bit_xor p (poly_times n modulus (p / 2 ^ 64))
unfolding folded
folded_is n p lt =
    let h : ℕ = p / 2 ^ 64 in
    sym (cancel (h * 2 ^ 64) (p % 2 ^ 64) (h * 2 ^ 4) (h * 2 ^ 3) (h * 2 ^ 1) (h * 2 ^ 0))
    ∙ ap (λ (z : ℕ). bit_xor z (bit_xor (bit_xor (bit_xor (bit_xor (h * 2 ^ 64) (h * 2 ^ 4)) (h * 2 ^ 3)) (h * 2 ^ 1)) (h * 2 ^ 0))) (halves p)
    ∙ ap (bit_xor p) (sym (modulus_times n h lt))

remainder_folded : (p : ℕ) → p < 2 ^ 127 → remainder 63 (folded p) ≡ remainder 63 p
remainder_folded p lt =
    let high : p / 2 ^ 64 < 2 ^ 63 = shr_below p 63 64 lt in
    ap (remainder 63) (folded_is 63 p high) ∙ same_remainder 63 63 p (p / 2 ^ 64) (omega arith)

-- the code's words are wide enough to lose no term
pub code_folds : (p : ℕ) → p < 2 ^ 127 → bit_xor (bit_xor (bit_xor (bit_xor (bit_and p (2 ^ 64 - 1)) (p / 2 ^ 64 * 2 ^ 4 % 2 ^ 128)) (p / 2 ^ 64 * 2 ^ 3 % 2 ^ 128)) (p / 2 ^ 64 * 2 ^ 1 % 2 ^ 128)) (p / 2 ^ 64) ≡ folded p
unfolding folded
code_folds p lt =
    let h : ℕ = p / 2 ^ 64 in
    let high : h < 2 ^ 63 = shr_below p 63 64 lt in
    let one : h * 2 ^ 0 ≡ h = omega arith in
    rw (and_mask p 64, shl_whole h 63 4 128 high (lit≤ tt), shl_whole h 63 3 128 high (lit≤ tt), shl_whole h 63 1 128 high (lit≤ tt), one) refl

pub code_same : (p : ℕ) → p < 2 ^ 127 → remainder 63 (bit_xor (bit_xor (bit_xor (bit_xor (bit_and p (2 ^ 64 - 1)) (p / 2 ^ 64 * 2 ^ 4 % 2 ^ 128)) (p / 2 ^ 64 * 2 ^ 3 % 2 ^ 128)) (p / 2 ^ 64 * 2 ^ 1 % 2 ^ 128)) (p / 2 ^ 64)) ≡ remainder 63 p
code_same p lt = ap (remainder 63) (code_folds p lt) ∙ remainder_folded p lt

-- a polynomial below x ^ 68 that is folded is an element
pub folded_small : (p : ℕ) → p < 2 ^ 68 → folded p < 2 ^ 64
unfolding folded
folded_small p lt =
    let high : p / 2 ^ 64 < 2 ^ 4 = shr_below p 4 64 lt in
    xor_lt 64 _ _ (xor_lt 64 _ _ (xor_lt 64 _ _ (xor_lt 64 _ _ (mod_below p (2 ^ 64) (pow_pos 64)) (omega (arith, high))) (omega (arith, high))) (omega (arith, high))) (omega (arith, high))

-- an element with the same remainder as p is the remainder of p
pub left_over : (rest p : ℕ) → rest < 2 ^ 64 → remainder 63 rest ≡ remainder 63 p → rest ≡ remainder 63 p
left_over rest p lt e = sym (remainder_small 63 rest lt) ∙ e
