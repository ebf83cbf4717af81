-- The products of an element by the polynomials below x ^ 4.
use Rattle.std.specs.Prelude.{◌≡◌, ℕ, ◌<◌, List, slice_index}
use Rattle.gf64.specs.Field.{poly_times, remainder}

-- each of the first `count` products, taken modulo the modulus, is at the index that is its factor
abbrev pub AreMultiples : ℕ → ℕ → List ℕ → Type 0
AreMultiples p count products = (q : ℕ) → q < count → slice_index products q ≡ remainder 63 (poly_times 4 p q)
