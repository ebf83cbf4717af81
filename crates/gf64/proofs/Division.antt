-- Long division by the modulus.
use Rattle.std.proofs.Common.{◌≡◌, ℕ, zero, suc, ◌+◌, ◌*◌, ◌/◌, ◌%◌, ◌^◌, ◌<◌, ◌≤◌, Bool, true, false, eqb, refl, sym, ap, ◌∙◌, arith, lit<, inl, inr}
use Rattle.std.specs.Prelude.{bit_xor}
use Rattle.std.proofs.Math.Nat.{pow-succ', pow-le-pow_right}
use Rattle.std.proofs.lemmas.Nat.{xor_lt, pow_pos, shl_below, div_below, mod_below, shr_split}
use Rattle.std.proofs.lemmas.Bool.{cases_lt}
use Rattle.std.specs.Int.Bits.{xor_self, xor_zero_r}
use Rattle.gf64.specs.Field.{coefficient, part, modulus, poly_times, remainder}
use Rattle.gf64.proofs.Sums.{swap_middle, differ, part_differ, part_below, coefficient_xor, coefficient_shifted, none_at}

pub remainder_xor : (n p q : ℕ) → remainder n (bit_xor p q) ≡ bit_xor (remainder n p) (remainder n q)
unfolding remainder
remainder_xor zero p q = refl
remainder_xor (suc n) p q =
    let m : ℕ = modulus * 2 ^ n in
    let one : bit_xor (bit_xor p q) (part (coefficient (64 + n) (bit_xor p q)) m) ≡ bit_xor (bit_xor p (part (coefficient (64 + n) p) m)) (bit_xor q (part (coefficient (64 + n) q) m)) =
    ap (bit_xor (bit_xor p q)) (ap (λ (c : Bool). part c m) (coefficient_xor (64 + n) p q) ∙ part_differ (coefficient (64 + n) p) (coefficient (64 + n) q) m)
    ∙ swap_middle p q (part (coefficient (64 + n) p) m) (part (coefficient (64 + n) q) m) in
    ap (remainder n) one ∙ remainder_xor n _ _

pub remainder_zero : (n : ℕ) → remainder n 0 ≡ 0
remainder_zero n = sym (ap (remainder n) (xor_self 0)) ∙ remainder_xor n 0 0 ∙ xor_self (remainder n 0)

-- a step of the division changes nothing if there is no highest term
pub remainder_top : (n p : ℕ) → p < 2 ^ (64 + n) → remainder (suc n) p ≡ remainder n p
unfolding remainder
remainder_top n p lt = rw (none_at (64 + n) p lt) (ap (remainder n) (xor_zero_r p))

-- an element is its own remainder
pub remainder_small : (n p : ℕ) → p < 2 ^ 64 → remainder n p ≡ p
unfolding remainder
remainder_small zero p lt = refl
remainder_small (suc n) p lt =
    let le : 64 ≤ 64 + n = omega arith in
    let room : 2 ^ 64 ≤ 2 ^ (64 + n) = pow-le-pow_right {n = 2} (lit< tt) {i = 64} {j = 64 + n} le in
    remainder_top n p (omega (arith, lt, room)) ∙ remainder_small n p lt

-- ---- multiples of the modulus have the remainder 0

modulus_below : (i n : ℕ) → i < n → modulus * 2 ^ i < 2 ^ (64 + n)
modulus_below i n lt =
    let le : 65 + i ≤ 64 + n = omega (arith, lt) in
    let room : 2 ^ (65 + i) ≤ 2 ^ (64 + n) = pow-le-pow_right {n = 2} (lit< tt) {i = 65 + i} {j = 64 + n} le in
    omega (arith, room, shl_below modulus 65 i (lit< tt))

modulus_top : (n : ℕ) → coefficient (64 + n) (modulus * 2 ^ n) ≡ true
modulus_top n = coefficient_shifted 64 n modulus

shifted_modulus : (n i : ℕ) → i < n → remainder n (modulus * 2 ^ i) ≡ 0
unfolding remainder
shifted_modulus zero i lt = absurd (omega (arith, lt))
shifted_modulus (suc n) i lt = elim (cases_lt i n) [
  | inl here ↦ remainder_top n (modulus * 2 ^ i) (modulus_below i n here) ∙ shifted_modulus n i here
  | inr above ↦
      let e : i ≡ n = omega (arith, lt, above) in
      rw (e, modulus_top n) (ap (remainder n) (xor_self (modulus * 2 ^ n)) ∙ remainder_zero n)
]

part_modulus : (c : Bool) (n i : ℕ) → i < n → remainder n (part c (modulus * 2 ^ i)) ≡ 0
part_modulus true n i lt = shifted_modulus n i lt
part_modulus false n i lt = remainder_zero n

pub multiple : (n m q : ℕ) → m ≤ n → remainder n (poly_times m modulus q) ≡ 0
unfolding poly_times
multiple n zero q le = remainder_zero n
multiple n (suc m) q le =
    let part_is : remainder n (part (coefficient m q) (modulus * 2 ^ m)) ≡ 0 = part_modulus (coefficient m q) n m (omega (arith, le)) in
    remainder_xor n (poly_times m modulus q) (part (coefficient m q) (modulus * 2 ^ m)) ∙ rw (multiple n m q (omega (arith, le)), part_is) refl

-- polynomials that differ by a multiple of the modulus have the same remainder
pub same_remainder : (n m p q : ℕ) → m ≤ n → remainder n (bit_xor p (poly_times m modulus q)) ≡ remainder n p
same_remainder n m p q le = remainder_xor n p (poly_times m modulus q) ∙ ap (bit_xor (remainder n p)) (multiple n m q le) ∙ xor_zero_r (remainder n p)

-- ---- the remainder is below x ^ 64

-- a polynomial below x ^ (t + 1) without a term x ^ t is below x ^ t
pub below_top : (t p : ℕ) → p < 2 ^ suc t → coefficient t p ≡ false → p < 2 ^ t
below_top t p lt none =
    let twice : 2 ^ suc t ≡ 2 * 2 ^ t = pow-succ' 2 t in
    let two : p / 2 ^ t < 2 = div_below p (2 ^ t) 2 (pow_pos t) (omega (arith, lt, twice)) in
    let low : p % 2 ^ t < 2 ^ t = mod_below p (2 ^ t) (pow_pos t) in
    let e : 0 * 2 ^ t + p % 2 ^ t ≡ p = ap (λ (n : ℕ). n * 2 ^ t + p % 2 ^ t) (sym (no_bit (p / 2 ^ t) two none)) ∙ shr_split p t in
    omega (arith, e, low)
  where
    no_bit : (n : ℕ) → n < 2 → eqb (n % 2) 1 ≡ false → n ≡ 0
    no_bit zero h e = refl
    no_bit (suc zero) h e = cc
    no_bit (suc (suc n)) h e = absurd (omega arith)

differ_part : (c : Bool) (t m : ℕ) → coefficient t m ≡ true → differ c (coefficient t (part c m)) ≡ false
differ_part true t m e = rw e refl
differ_part false t m e = rw (none_at t 0 (pow_pos t)) refl

pub remainder_below : (n p : ℕ) → p < 2 ^ (64 + n) → remainder n p < 2 ^ 64
unfolding remainder
remainder_below zero p lt = lt
remainder_below (suc n) p lt =
    let k : 64 + suc n ≡ suc (64 + n) = omega arith in
    let lt_suc : p < 2 ^ suc (64 + n) = rw k at lt in
    let m : ℕ = modulus * 2 ^ n in
    let five : 65 + n ≡ suc (64 + n) = omega arith in
    let room : m < 2 ^ suc (64 + n) = rw five at (shl_below modulus 65 n (lit< tt)) in
    remainder_below n _
    (below_top (64 + n) _ (xor_lt (suc (64 + n)) p (part (coefficient (64 + n) p) m) lt_suc (part_below (coefficient (64 + n) p) m (2 ^ suc (64 + n)) room))
    (coefficient_xor (64 + n) p (part (coefficient (64 + n) p) m) ∙ differ_part (coefficient (64 + n) p) (64 + n) m (modulus_top n)))
