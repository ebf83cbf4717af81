-- The laws of the field.
use Rattle.std.specs.Prelude.{◌≡◌, ℕ, zero, suc, ◌+◌, ◌-◌, ◌*◌, ◌%◌, ◌^◌, ◌<◌, ◌↔◌, ◌⊎◌, nat_le, if◌then◌else◌, bit_xor}
use Rattle.std.specs.Int.{bit_at}
use Rattle.gf64.specs.Field.{modulus, poly_times, product, power}

-- q0 * pk + q1 * p(k - 1) + q2 * p(k - 2) + .., over the n lowest coefficients of q
unfoldable pub convolution : ℕ → ℕ → ℕ → ℕ → ℕ
convolution zero p q k = 0
convolution (suc n) p q k = convolution n p q k + bit_at q n * (if nat_le n k then bit_at p (k - n) else 0)

-- The coefficients of the polynomials' product are those of a product of coefficient lists, modulo 2.
abbrev pub IsConvolution : Type 0
IsConvolution = (p q k : ℕ) → bit_at (poly_times 64 p q) k ≡ convolution 64 p q k % 2

-- The product is the remainder of the polynomials' product p: the only r below x ^ 64 that differs from p by a multiple
-- of the modulus.
abbrev pub IsRemainder : Type 0
IsRemainder = (a b r : ℕ) → a < 2 ^ 64 → b < 2 ^ 64 → (product a b ≡ r) ↔ ((r < 2 ^ 64) × ((q : ℕ) × (poly_times 64 a b ≡ bit_xor (poly_times 63 modulus q) r)))

abbrev pub Commutes : Type 0
Commutes = (a b : ℕ) → a < 2 ^ 64 → b < 2 ^ 64 → product a b ≡ product b a

abbrev pub Associates : Type 0
Associates = (a b c : ℕ) → a < 2 ^ 64 → b < 2 ^ 64 → c < 2 ^ 64 → product (product a b) c ≡ product a (product b c)

abbrev pub Distributes : Type 0
Distributes = (a b c : ℕ) → a < 2 ^ 64 → b < 2 ^ 64 → c < 2 ^ 64 → product (bit_xor a b) c ≡ bit_xor (product a c) (product b c)

abbrev pub OneIsNeutral : Type 0
OneIsNeutral = (a : ℕ) → a < 2 ^ 64 → product 1 a ≡ a

abbrev pub HasNoZeroDivisors : Type 0
HasNoZeroDivisors = (a b : ℕ) → a < 2 ^ 64 → b < 2 ^ 64 → product a b ≡ 0 → (a ≡ 0) ⊎ (b ≡ 0)

-- squaring an element 64 times gives the element back
abbrev pub SquaresReturn : Type 0
SquaresReturn = (a : ℕ) → a < 2 ^ 64 → power a (2 ^ 64) ≡ a

abbrev pub HasTwoIdempotents : Type 0
HasTwoIdempotents = (a : ℕ) → a < 2 ^ 64 → product a a ≡ a → (a ≡ 0) ⊎ (a ≡ 1)
