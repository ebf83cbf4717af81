-- Long division subtracts a multiple of the modulus. Its remainder is the only element that differs from the polynomial
-- by such a multiple.
use Rattle.std.proofs.Common.{◌≡◌, ℕ, zero, suc, ◌+◌, ◌*◌, ◌^◌, ◌<◌, ◌≤◌, Bool, true, false, eqb, refl, sym, ap, subst, ◌∙◌, arith, lit<}
use Rattle.std.specs.Prelude.{bit_xor}
use Rattle.std.proofs.Math.Nat.{pow-succ'}
use Rattle.std.proofs.lemmas.Nat.{xor_comm, xor_lt, pow_pos}
use Rattle.std.proofs.lemmas.Nat.Bits.{bit_at-pow_same, bit_at-pow_other}
use Rattle.std.specs.Int.Bits.{xor_assoc, xor_self, xor_zero_l, xor_zero_r}
use Rattle.gf64.specs.Field.{coefficient, part, modulus, poly_times, remainder, product}
use Rattle.gf64.specs.Laws.{IsRemainder}
use Rattle.gf64.proofs.Sums.{swap_middle, differ, part_differ, part_below, coefficient_xor, none_at}
use Rattle.gf64.proofs.Multiplication.{times_below}
use Rattle.gf64.proofs.Division.{remainder_xor, remainder_small, remainder_below, multiple}

-- ---- the product is linear in the second factor

pub second_xor : (n p q r : ℕ) → poly_times n p (bit_xor q r) ≡ bit_xor (poly_times n p q) (poly_times n p r)
unfolding poly_times
second_xor zero p q r = refl
second_xor (suc n) p q r =
    ap (bit_xor (poly_times n p (bit_xor q r))) (ap (λ (c : Bool). part c (p * 2 ^ n)) (coefficient_xor n q r) ∙ part_differ (coefficient n q) (coefficient n r) (p * 2 ^ n))
    ∙ ap (λ (x : ℕ). bit_xor x (bit_xor (part (coefficient n q) (p * 2 ^ n)) (part (coefficient n r) (p * 2 ^ n)))) (second_xor n p q r)
    ∙ swap_middle (poly_times n p q) (poly_times n p r) (part (coefficient n q) (p * 2 ^ n)) (part (coefficient n r) (p * 2 ^ n))

-- ---- products whose second factor is a power of x

pub second_zero : (n p : ℕ) → poly_times n p 0 ≡ 0
second_zero n p = ap (poly_times n p) (sym (xor_self 0)) ∙ second_xor n p 0 0 ∙ xor_self (poly_times n p 0)

pub coefficient_same : (k : ℕ) → coefficient k (2 ^ k) ≡ true
coefficient_same k = ap (λ (b : ℕ). eqb b 1) (bit_at-pow_same k)

coefficient_below : (i k : ℕ) → i < k → coefficient i (2 ^ k) ≡ false
coefficient_below i k lt = ap (λ (b : ℕ). eqb b 1) (bit_at-pow_other k i (λ (e : i ≡ k). omega (arith, lt)))

higher_power : (n k p : ℕ) → n ≤ k → poly_times n p (2 ^ k) ≡ 0
unfolding poly_times
higher_power zero k p le = refl
higher_power (suc n) k p le = rw (coefficient_below n k (omega (arith, le))) (xor_zero_r _ ∙ higher_power n k p (omega (arith, le)))

higher_part : (c : Bool) (n p : ℕ) → poly_times n p (part c (2 ^ n)) ≡ 0
higher_part true n p = higher_power n n p (omega arith)
higher_part false n p = second_zero n p

coefficient_part : (c : Bool) (n : ℕ) → coefficient n (part c (2 ^ n)) ≡ c
coefficient_part true n = coefficient_same n
coefficient_part false n = none_at n 0 (pow_pos n)

differ_false : (c : Bool) → differ false c ≡ c
differ_false true = refl
differ_false false = refl

-- ---- the quotient, which gets one term at each step of the division

with_term : (n p q : ℕ) (c : Bool) → q < 2 ^ n → poly_times (suc n) p (bit_xor q (part c (2 ^ n))) ≡ bit_xor (poly_times n p q) (part c (p * 2 ^ n))
unfolding poly_times
with_term n p q c lt =
    let low : poly_times n p (bit_xor q (part c (2 ^ n))) ≡ poly_times n p q = second_xor n p q (part c (2 ^ n)) ∙ ap (bit_xor (poly_times n p q)) (higher_part c n p) ∙ xor_zero_r (poly_times n p q) in
    let top : coefficient n (bit_xor q (part c (2 ^ n))) ≡ c = coefficient_xor n q (part c (2 ^ n)) ∙ ap (λ (d : Bool). differ d (coefficient n (part c (2 ^ n)))) (none_at n q lt) ∙ differ_false _ ∙ coefficient_part c n in
    ap (λ (x : ℕ). bit_xor x (part (coefficient n (bit_xor q (part c (2 ^ n)))) (p * 2 ^ n))) low ∙ ap (λ (d : Bool). bit_xor (poly_times n p q) (part d (p * 2 ^ n))) top

taken_again : (p m t r : ℕ) → bit_xor p m ≡ bit_xor t r → p ≡ bit_xor (bit_xor t m) r
taken_again p m t r e =
    sym (xor_assoc p m m ∙ ap (bit_xor p) (xor_self m) ∙ xor_zero_r p) ∙ ap (λ (x : ℕ). bit_xor x m) e ∙ xor_assoc t r m ∙ ap (bit_xor t) (xor_comm r m) ∙ sym (xor_assoc t m r)

quotient : (n p : ℕ) → (q : ℕ) × ((q < 2 ^ n) × (p ≡ bit_xor (poly_times n modulus q) (remainder n p)))
unfolding poly_times remainder
quotient zero p = (0, (lit< tt, sym (xor_zero_l p)))
quotient (suc n) p =
    let c : Bool = coefficient (64 + n) p in
    let low = quotient n (bit_xor p (part c (modulus * 2 ^ n))) in
    let twice : 2 ^ suc n ≡ 2 * 2 ^ n = pow-succ' 2 n in
    let power : 2 ^ n < 2 ^ suc n = omega (arith, twice, pow_pos n) in
    let below : bit_xor low.0 (part c (2 ^ n)) < 2 ^ suc n = xor_lt (suc n) low.0 (part c (2 ^ n)) (omega (arith, low.1.0, power)) (part_below c (2 ^ n) (2 ^ suc n) power) in (
      bit_xor low.0 (part c (2 ^ n)),
      (
        below,
        taken_again p (part c (modulus * 2 ^ n)) (poly_times n modulus low.0) (remainder n (bit_xor p (part c (modulus * 2 ^ n)))) low.1.1
            ∙ ap (λ (x : ℕ). bit_xor x (remainder n (bit_xor p (part c (modulus * 2 ^ n))))) (sym (with_term n modulus low.0 c low.1.0)),
      ),
    )

-- ---- the remainder is unique

one_remainder : (p q r : ℕ) → r < 2 ^ 64 → p ≡ bit_xor (poly_times 63 modulus q) r → remainder 63 p ≡ r
one_remainder p q r lt e =
    ap (remainder 63) e ∙ remainder_xor 63 (poly_times 63 modulus q) r ∙ ap (λ (x : ℕ). bit_xor x (remainder 63 r)) (multiple 63 63 q (omega arith)) ∙ xor_zero_l (remainder 63 r) ∙ remainder_small 63 r lt

pub is_remainder : IsRemainder
unfolding product
is_remainder a b r la lb =
    let p : ℕ = poly_times 64 a b in
    let q = quotient 63 p in (
      λ (e : remainder 63 p ≡ r). (
        subst (λ (n : ℕ). n < 2 ^ 64) e (remainder_below 63 p (times_below 64 63 a b la)),
        (q.0, subst (λ (n : ℕ). p ≡ bit_xor (poly_times 63 modulus q.0) n) e q.1.1),
      ),
      λ h. one_remainder p h.1.0 r h.0 h.1.1,
    )
