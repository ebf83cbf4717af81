-- The elements with their sum and product are a commutative ring.
use Rattle.std.proofs.Common.{◌≡◌, ℕ, ◌^◌, ◌<◌, sym, ap, ◌∙◌, arith, lit<}
use Rattle.std.specs.Prelude.{bit_xor}
use Rattle.std.specs.Int.Bits.{xor_self}
use Rattle.gf64.specs.Field.{poly_times, remainder, product}
use Rattle.gf64.specs.Laws.{Commutes, Associates, Distributes, OneIsNeutral}
use Rattle.gf64.proofs.Multiplication.{one_times, times_xor, times_below}
use Rattle.gf64.proofs.Division.{remainder_xor, remainder_small, remainder_below}
use Rattle.gf64.proofs.Shifts.{by_shifts, shifts_are, exchanges}

by_shifts_is : (a b : ℕ) → a < 2 ^ 64 → product a b ≡ by_shifts 64 a b
unfolding product
by_shifts_is a b lt = shifts_are 64 a b lt (omega arith)

-- a product of elements is an element
pub product_below : (a b : ℕ) → a < 2 ^ 64 → product a b < 2 ^ 64
unfolding product
product_below a b lt = remainder_below 63 (poly_times 64 a b) (times_below 64 63 a b lt)

pub one_is_neutral : OneIsNeutral
unfolding product
one_is_neutral a lt = ap (remainder 63) (one_times 64 a lt) ∙ remainder_small 63 a lt

pub product_xor : (a b c : ℕ) → product (bit_xor a b) c ≡ bit_xor (product a c) (product b c)
unfolding product
product_xor a b c = ap (remainder 63) (times_xor 64 a b c) ∙ remainder_xor 63 (poly_times 64 a c) (poly_times 64 b c)

pub distributes : Distributes
distributes a b c _ _ _ = product_xor a b c

-- (a * b) * c is (a * c) * b
product_exchanges : (a b c : ℕ) → a < 2 ^ 64 → product (product a b) c ≡ product (product a c) b
product_exchanges a b c la =
    by_shifts_is (product a b) c (product_below a b la) ∙ ap (λ (p : ℕ). by_shifts 64 p c) (by_shifts_is a b la)
    ∙ exchanges 64 64 a b c
    ∙ sym (by_shifts_is (product a c) b (product_below a c la) ∙ ap (λ (p : ℕ). by_shifts 64 p b) (by_shifts_is a c la))

pub commutes : Commutes
commutes a b la lb =
    ap (λ (p : ℕ). product p b) (sym (one_is_neutral a la)) ∙ product_exchanges 1 a b (lit< tt) ∙ ap (λ (p : ℕ). product p a) (one_is_neutral b lb)

pub associates : Associates
associates a b c la lb lc =
    ap (λ (p : ℕ). product p c) (commutes a b la lb) ∙ product_exchanges b a c lb ∙ commutes (product b c) a (product_below b c lb) la

-- ---- products with 0

pub zero_times : (b : ℕ) → product 0 b ≡ 0
zero_times b = ap (λ (p : ℕ). product p b) (sym (xor_self 0)) ∙ product_xor 0 0 b ∙ xor_self (product 0 b)
