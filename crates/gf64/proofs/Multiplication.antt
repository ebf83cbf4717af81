-- The product of polynomials.
use Rattle.std.proofs.Common.{◌≡◌, ℕ, zero, suc, ◌+◌, ◌*◌, ◌/◌, ◌%◌, ◌^◌, ◌<◌, ◌≤◌, Bool, true, false, eqb, refl, sym, ap, ◌∙◌, arith, lit<}
use Rattle.std.specs.Prelude.{bit_xor}
use Rattle.std.proofs.Math.Nat.{pow-succ', pow-le-pow_right}
use Rattle.std.proofs.lemmas.Nat.{xor_comm, xor_lt, pow_pos, pow-add, shr-shr, shl_below}
use Rattle.std.specs.Int.Bits.{xor_assoc, xor_zero_l, xor_zero_r, xor_shifted}
use Rattle.gf64.specs.Field.{coefficient, part, poly_times}
use Rattle.gf64.proofs.Sums.{swap_middle, part_xor, part_below, part_times, coefficient_half, xor_shl, xor_double}

-- ---- recursion on the second factor: p * (q0 + x * q') is p * q0 + x * (p * q')

pub double_part : (c : Bool) (p k : ℕ) → part c (p * 2 ^ suc k) ≡ 2 * part c (p * 2 ^ k)
double_part true p k = ap (λ (n : ℕ). p * n) (pow-succ' 2 k) ∙ omega arith
double_part false p k = refl

pub times_half : (n p q : ℕ) → poly_times (suc n) p q ≡ bit_xor (part (coefficient 0 q) p) (2 * poly_times n p (q / 2))
unfolding poly_times
times_half zero p q =
    let one : p * 2 ^ 0 ≡ p = omega arith in
    xor_zero_l _ ∙ ap (part (coefficient 0 q)) one ∙ sym (xor_zero_r _)
times_half (suc n) p q =
    ap (λ (x : ℕ). bit_xor x (part (coefficient (suc n) q) (p * 2 ^ suc n))) (times_half n p q)
    ∙ xor_assoc (part (coefficient 0 q) p) (2 * poly_times n p (q / 2)) (part (coefficient (suc n) q) (p * 2 ^ suc n))
    ∙ ap (λ (x : ℕ). bit_xor (part (coefficient 0 q) p) (bit_xor (2 * poly_times n p (q / 2)) x))
    (ap (λ (c : Bool). part c (p * 2 ^ suc n)) (coefficient_half n q) ∙ double_part (coefficient n (q / 2)) p n)
    ∙ ap (bit_xor (part (coefficient 0 q) p)) (xor_double (poly_times n p (q / 2)) (part (coefficient n (q / 2)) (p * 2 ^ n)))

-- ---- the product is linear in the first factor

pub times_xor : (n p q r : ℕ) → poly_times n (bit_xor p q) r ≡ bit_xor (poly_times n p r) (poly_times n q r)
unfolding poly_times
times_xor zero p q r = refl
times_xor (suc n) p q r =
    ap (bit_xor (poly_times n (bit_xor p q) r)) (ap (part (coefficient n r)) (sym (xor_shl p q n)) ∙ part_xor (coefficient n r) (p * 2 ^ n) (q * 2 ^ n))
    ∙ ap (λ (x : ℕ). bit_xor x (bit_xor (part (coefficient n r) (p * 2 ^ n)) (part (coefficient n r) (q * 2 ^ n)))) (times_xor n p q r)
    ∙ swap_middle (poly_times n p r) (poly_times n q r) (part (coefficient n r) (p * 2 ^ n)) (part (coefficient n r) (q * 2 ^ n))

-- ---- products whose first factor is a power of x

add_low : (b rest : ℕ) → rest ≡ b / 2 → bit_xor (part (coefficient 0 b) 1) (2 * rest) ≡ b
add_low b rest e =
    let low : part (coefficient 0 b) 1 ≡ b % 2 = ap (λ (n : ℕ). part (eqb (n % 2) 1) 1) whole ∙ bit_is (b % 2) (omega arith) in
    let turn : bit_xor (b % 2) (2 * rest) ≡ bit_xor (rest * 2 ^ 1) (b % 2) = xor_comm (b % 2) (2 * rest) ∙ ap (λ (x : ℕ). bit_xor x (b % 2)) (omega arith) in
    ap (λ (x : ℕ). bit_xor x (2 * rest)) low ∙ turn ∙ xor_shifted rest 1 (b % 2) (omega arith) ∙ omega (arith, e)
  where
    whole : b / 2 ^ 0 ≡ b
    whole = omega arith

    bit_is : (n : ℕ) → n < 2 → part (eqb n 1) 1 ≡ n
    bit_is zero h = refl
    bit_is (suc zero) h = refl
    bit_is (suc (suc n)) h = absurd (omega arith)

pub one_times : (n q : ℕ) → q < 2 ^ n → poly_times n 1 q ≡ q
unfolding poly_times
one_times zero q lt = omega (arith, lt)
one_times (suc n) q lt =
    let e : 2 ^ suc n ≡ 2 * 2 ^ n = pow-succ' 2 n in
    times_half n 1 q ∙ add_low q (poly_times n 1 (q / 2)) (one_times n (q / 2) (omega (arith, lt, e)))

-- if the first factor is multiplied by x ^ k, so is the product
pub times_shl : (n k p q : ℕ) → poly_times n (p * 2 ^ k) q ≡ poly_times n p q * 2 ^ k
unfolding poly_times
times_shl zero k p q = omega arith
times_shl (suc n) k p q =
    let swap : p * 2 ^ k * 2 ^ n ≡ p * 2 ^ n * 2 ^ k = omega arith in
    ap (λ (x : ℕ). bit_xor x (part (coefficient n q) (p * 2 ^ k * 2 ^ n))) (times_shl n k p q)
    ∙ ap (bit_xor (poly_times n p q * 2 ^ k)) (ap (part (coefficient n q)) swap ∙ sym (part_times (coefficient n q) (p * 2 ^ n) (2 ^ k)))
    ∙ xor_shl (poly_times n p q) (part (coefficient n q) (p * 2 ^ n)) k

pub power_times : (n k q : ℕ) → q < 2 ^ n → poly_times n (2 ^ k) q ≡ q * 2 ^ k
power_times n k q lt =
    let one : 1 * 2 ^ k ≡ 2 ^ k = omega arith in
    ap (λ (p : ℕ). poly_times n p q) (sym one) ∙ times_shl n k 1 q ∙ ap (λ (m : ℕ). m * 2 ^ k) (one_times n q lt)

-- ---- the degree of a product

pub times_below : (n m p q : ℕ) → p < 2 ^ suc m → poly_times n p q < 2 ^ (m + n)
unfolding poly_times
times_below zero m p q lt = pow_pos (m + 0)
times_below (suc n) m p q lt =
    let e : m + suc n ≡ suc m + n = omega arith in
    let more : m + n ≤ m + suc n = omega arith in
    let room : 2 ^ (m + n) ≤ 2 ^ (m + suc n) = pow-le-pow_right {n = 2} (lit< tt) {i = m + n} {j = m + suc n} more in
    let top : p * 2 ^ n < 2 ^ (m + suc n) = rw e (shl_below p (suc m) n lt) in
    xor_lt (m + suc n) (poly_times n p q) (part (coefficient n q) (p * 2 ^ n)) (omega (arith, times_below n m p q lt, room)) (part_below (coefficient n q) (p * 2 ^ n) (2 ^ (m + suc n)) top)

-- ---- the product by the lowest terms of a factor, and then by further terms

pub times_none : (p q : ℕ) → 0 ≡ poly_times 0 p q
unfolding poly_times
times_none p q = refl

later_part : (c : Bool) (p n m : ℕ) → part c (p * 2 ^ m) * 2 ^ n ≡ part c (p * 2 ^ (n + m))
later_part c p n m =
    let e : p * 2 ^ m * 2 ^ n ≡ p * 2 ^ (n + m) = omega (arith, ap (λ (k : ℕ). p * k) (pow-add 2 n m)) in
    part_times c (p * 2 ^ m) (2 ^ n) ∙ ap (part c) e

pub times_add : (n m p q : ℕ) → poly_times (n + m) p q ≡ bit_xor (poly_times n p q) (poly_times m p (q / 2 ^ n) * 2 ^ n)
unfolding poly_times
times_add n zero p q =
    let e : n + 0 ≡ n = omega arith in
    let none : 0 ≡ 0 * 2 ^ n = omega arith in
    ap (λ (k : ℕ). poly_times k p q) e ∙ sym (xor_zero_r (poly_times n p q)) ∙ ap (bit_xor (poly_times n p q)) none
times_add n (suc m) p q =
    let e : n + suc m ≡ suc (n + m) = omega arith in
    let here : coefficient m (q / 2 ^ n) ≡ coefficient (n + m) q = ap (λ (k : ℕ). eqb (k % 2) 1) (shr-shr q n m) in
    ap (λ (k : ℕ). poly_times k p q) e
    ∙ ap (λ (x : ℕ). bit_xor x (part (coefficient (n + m) q) (p * 2 ^ (n + m)))) (times_add n m p q)
    ∙ xor_assoc (poly_times n p q) (poly_times m p (q / 2 ^ n) * 2 ^ n) (part (coefficient (n + m) q) (p * 2 ^ (n + m)))
    ∙ ap (λ (x : ℕ). bit_xor (poly_times n p q) (bit_xor (poly_times m p (q / 2 ^ n) * 2 ^ n) x)) (ap (λ (c : Bool). part c (p * 2 ^ (n + m))) (sym here) ∙ sym (later_part (coefficient m (q / 2 ^ n)) p n m))
    ∙ ap (bit_xor (poly_times n p q)) (xor_shl (poly_times m p (q / 2 ^ n)) (part (coefficient m (q / 2 ^ n)) (p * 2 ^ m)) n)
