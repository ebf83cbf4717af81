-- Sums of polynomials.
use Rattle.std.proofs.Common.{◌≡◌, ℕ, zero, suc, ◌+◌, ◌*◌, ◌/◌, ◌%◌, ◌^◌, ◌<◌, Bool, true, false, eqb, refl, sym, ap, ◌∙◌, arith}
use Rattle.std.specs.Prelude.{bit_xor}
use Rattle.std.proofs.lemmas.Nat.{xor_comm, xor_block, shr-shr, div_below, pow_pos, shl-shr}
use Rattle.std.specs.Int.Bits.{xor_shr, xor_mod, xor_assoc, xor_self, xor_zero_l, xor_zero_r}
use Rattle.gf64.specs.Field.{coefficient, part}

pub swap_middle : (a b c d : ℕ) → bit_xor (bit_xor a b) (bit_xor c d) ≡ bit_xor (bit_xor a c) (bit_xor b d)
swap_middle a b c d =
    xor_assoc a b (bit_xor c d) ∙ ap (bit_xor a) (sym (xor_assoc b c d) ∙ ap (λ (x : ℕ). bit_xor x d) (xor_comm b c) ∙ xor_assoc c b d) ∙ sym (xor_assoc a c (bit_xor b d))

-- the sum of two coefficients modulo 2
abbrev pub differ : Bool → Bool → Bool
differ true true = false
differ true false = true
differ false true = true
differ false false = false

pub part_differ : (c d : Bool) (p : ℕ) → part (differ c d) p ≡ bit_xor (part c p) (part d p)
part_differ true true p = sym (xor_self p)
part_differ true false p = sym (xor_zero_r p)
part_differ false true p = sym (xor_zero_l p)
part_differ false false p = refl

pub part_xor : (c : Bool) (p q : ℕ) → part c (bit_xor p q) ≡ bit_xor (part c p) (part c q)
part_xor true p q = refl
part_xor false p q = refl

pub part_zero : (c : Bool) → part c 0 ≡ 0
part_zero true = refl
part_zero false = refl

pub part_below : (c : Bool) (p m : ℕ) → p < m → part c p < m
part_below true p m lt = lt
part_below false p m lt = omega (arith, lt)

-- (c * p) * k is c * (p * k), for a coefficient c
pub part_times : (c : Bool) (p k : ℕ) → part c p * k ≡ part c (p * k)
part_times true p k = refl
part_times false p k = omega arith

-- ---- the coefficients of a sum

low_bits : (a b : ℕ) → a < 2 → b < 2 → (eqb (bit_xor a b % 2) 1) ≡ differ (eqb (a % 2) 1) (eqb (b % 2) 1)
low_bits zero zero _ _ = refl
low_bits zero (suc zero) _ _ = refl
low_bits (suc zero) zero _ _ = refl
low_bits (suc zero) (suc zero) _ _ = refl
low_bits (suc (suc a)) b h k = absurd (omega arith)
low_bits zero (suc (suc b)) h k = absurd (omega arith)
low_bits (suc zero) (suc (suc b)) h k = absurd (omega arith)

mod_two : (n : ℕ) → n % 2 % 2 ≡ n % 2
mod_two n = omega arith

pub coefficient_xor : (t p q : ℕ) → coefficient t (bit_xor p q) ≡ differ (coefficient t p) (coefficient t q)
coefficient_xor t p q =
    let x : bit_xor p q / 2 ^ t % 2 ≡ bit_xor (p / 2 ^ t % 2) (q / 2 ^ t % 2) = ap (λ (n : ℕ). n % 2) (xor_shr p q t) ∙ xor_mod (p / 2 ^ t) (q / 2 ^ t) 1 in
    ap (λ (n : ℕ). eqb n 1) (sym (mod_two (bit_xor p q / 2 ^ t)) ∙ ap (λ (n : ℕ). n % 2) x)
    ∙ low_bits (p / 2 ^ t % 2) (q / 2 ^ t % 2) (omega arith) (omega arith)
    ∙ ap (λ (n : ℕ). differ (eqb n 1) (eqb (q / 2 ^ t % 2 % 2) 1)) (mod_two (p / 2 ^ t)) ∙ ap (λ (n : ℕ). differ (eqb (p / 2 ^ t % 2) 1) (eqb n 1)) (mod_two (q / 2 ^ t))

pub coefficient_half : (t p : ℕ) → coefficient (suc t) p ≡ coefficient t (p / 2)
coefficient_half t p =
    let k : suc t ≡ 1 + t = omega arith in
    ap (λ (n : ℕ). eqb (n % 2) 1) (ap (λ (n : ℕ). p / 2 ^ n) k ∙ sym (shr-shr p 1 t))

pub coefficient_double : (t p : ℕ) → coefficient (suc t) (2 * p) ≡ coefficient t p
coefficient_double t p =
    let half : 2 * p / 2 ≡ p = omega arith in
    coefficient_half t (2 * p) ∙ ap (coefficient t) half

pub coefficient_shifted : (t i p : ℕ) → coefficient (t + i) (p * 2 ^ i) ≡ coefficient t p
coefficient_shifted t i p =
    let k : t + i ≡ i + t = omega arith in
    ap (λ (n : ℕ). eqb (n % 2) 1) (ap (λ (n : ℕ). p * 2 ^ i / 2 ^ n) k ∙ sym (shr-shr (p * 2 ^ i) i t) ∙ ap (λ (n : ℕ). n / 2 ^ t) (shl-shr p i))

-- a polynomial below x ^ t has no term x ^ t
pub none_at : (t p : ℕ) → p < 2 ^ t → coefficient t p ≡ false
none_at t p lt =
    let below : p / 2 ^ t < 1 = div_below p (2 ^ t) 1 (pow_pos t) (omega (arith, lt)) in
    let none : p / 2 ^ t ≡ 0 = omega (arith, below) in
    rw none refl

-- ---- a sum of shifted polynomials

pub xor_shl : (p q k : ℕ) → bit_xor (p * 2 ^ k) (q * 2 ^ k) ≡ bit_xor p q * 2 ^ k
xor_shl p q k =
    let a : p * 2 ^ k + 0 ≡ p * 2 ^ k = omega arith in
    let b : q * 2 ^ k + 0 ≡ q * 2 ^ k = omega arith in
    let end : bit_xor p q * 2 ^ k + bit_xor 0 0 ≡ bit_xor p q * 2 ^ k = omega arith in
    sym (ap (λ (x : ℕ). bit_xor x (q * 2 ^ k + 0)) a ∙ ap (bit_xor (p * 2 ^ k)) b) ∙ xor_block k p q 0 0 (pow_pos k) (pow_pos k) ∙ end

pub xor_double : (p q : ℕ) → bit_xor (2 * p) (2 * q) ≡ 2 * bit_xor p q
xor_double p q =
    let a : p * 2 ^ 1 ≡ 2 * p = omega arith in
    let b : q * 2 ^ 1 ≡ 2 * q = omega arith in
    let end : bit_xor p q * 2 ^ 1 ≡ 2 * bit_xor p q = omega arith in
    sym (ap (λ (x : ℕ). bit_xor x (q * 2 ^ 1)) a ∙ ap (bit_xor (2 * p)) b) ∙ xor_shl p q 1 ∙ end
