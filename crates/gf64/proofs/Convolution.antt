-- The coefficients of a product of polynomials.
use Rattle.std.proofs.Common.{◌≡◌, ℕ, zero, suc, ◌+◌, ◌-◌, ◌*◌, ◌%◌, ◌^◌, ◌<◌, Bool, eqb, sym, ap, ◌∙◌, arith, inl, inr}
use Rattle.std.specs.Prelude.{nat_le, if◌then◌else◌}
use Rattle.std.specs.Int.{bit_at}
use Rattle.std.proofs.lemmas.Bool.{cases_lt, lt-leb, le-leb}
use Rattle.std.proofs.lemmas.Nat.{pow_pos}
use Rattle.std.proofs.lemmas.Nat.Bits.{bit_at_xor, bit_at-zero, bit_at_cat_low, bit_at_cat_high}
use Rattle.gf64.specs.Field.{coefficient, part, poly_times}
use Rattle.gf64.specs.Laws.{convolution, IsConvolution}

-- a coefficient of p * x ^ n
shifted_bit : (p n k : ℕ) → bit_at (p * 2 ^ n) k ≡ (if nat_le n k then bit_at p (k - n) else 0)
shifted_bit p n k =
    let whole : p * 2 ^ n ≡ p * 2 ^ n + 0 = omega arith in
    elim (cases_lt k n) [
      | inl below ↦ ap (λ (m : ℕ). bit_at m k) whole ∙ bit_at_cat_low p n 0 k below ∙ bit_at-zero k ∙ ap (λ (b : Bool). if b then bit_at p (k - n) else 0) (sym (lt-leb n k below))
      | inr from_here ↦ ap (λ (m : ℕ). bit_at m k) whole ∙ bit_at_cat_high p n 0 k (pow_pos n) from_here ∙ ap (λ (b : Bool). if b then bit_at p (k - n) else 0) (sym (le-leb n k from_here))
    ]

-- a coefficient of p * x ^ n, multiplied by a coefficient of q
part_bit : (c m k r : ℕ) → c < 2 → bit_at m k ≡ r → bit_at (part (eqb c 1) m) k ≡ c * r
part_bit zero m k r lt e = bit_at-zero k ∙ omega arith
part_bit (suc zero) m k r lt e = e ∙ omega arith
part_bit (suc (suc c)) m k r lt e = absurd (omega (arith, lt))

convolves : (n p q k : ℕ) → bit_at (poly_times n p q) k ≡ convolution n p q k % 2
unfolding poly_times convolution
convolves zero p q k = bit_at-zero k
convolves (suc n) p q k =
    let term : ℕ = bit_at q n * (if nat_le n k then bit_at p (k - n) else 0) in
    let here : bit_at (part (coefficient n q) (p * 2 ^ n)) k ≡ term = part_bit (bit_at q n) (p * 2 ^ n) k _ (omega arith) (shifted_bit p n k) in
    let modulo : (convolution n p q k % 2 + term) % 2 ≡ (convolution n p q k + term) % 2 = omega arith in
    bit_at_xor (poly_times n p q) (part (coefficient n q) (p * 2 ^ n)) k
    ∙ ap (λ (x : ℕ). (x + bit_at (part (coefficient n q) (p * 2 ^ n)) k) % 2) (convolves n p q k)
    ∙ ap (λ (x : ℕ). (convolution n p q k % 2 + x) % 2) here ∙ modulo

pub is_convolution : IsConvolution
is_convolution p q k = convolves 64 p q k
