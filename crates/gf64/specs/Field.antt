-- The field of 2 ^ 64 elements. A number stands for a polynomial over GF(2): bit i is the coefficient of x ^ i.
-- So `bit_xor` is the sum and the difference, and `p * 2 ^ i` is p times x ^ i.
use Rattle.std.specs.Prelude.{ℕ, zero, suc, ◌+◌, ◌*◌, ◌/◌, ◌%◌, ◌^◌, Bool, ◌==◌, if◌then◌else◌, bit_xor}

-- the coefficient of x ^ i
abbrev pub coefficient : ℕ → ℕ → Bool
coefficient i p = (p / 2 ^ i) % 2 == 1

-- the polynomial p if the coefficient c is 1, and 0 otherwise
abbrev pub part : Bool → ℕ → ℕ
part c p = if c then p else 0

-- the product of p and the n lowest terms of q: the sum of p times each term
unfoldable pub poly_times : ℕ → ℕ → ℕ → ℕ
poly_times zero p q = 0
poly_times (suc n) p q = bit_xor (poly_times n p q) (part (coefficient n q) (p * 2 ^ n))

-- x ^ 64 + x ^ 4 + x ^ 3 + x + 1
abbrev pub modulus : ℕ
modulus = 2 ^ 64 + 2 ^ 4 + 2 ^ 3 + 2 + 1

-- The remainder of long division by the modulus, for a polynomial below x ^ (64 + n). Each step removes the highest
-- term.
unfoldable pub remainder : ℕ → ℕ → ℕ
remainder zero p = p
remainder (suc n) p = remainder n (bit_xor p (part (coefficient (64 + n) p) (modulus * 2 ^ n)))

-- the product of two elements, which are polynomials below x ^ 64
unfoldable pub product : ℕ → ℕ → ℕ
product a b = remainder 63 (poly_times 64 a b)

-- a ^ n
unfoldable pub power : ℕ → ℕ → ℕ
power a zero = 1
power a (suc n) = product (power a n) a
