-- A map that preserves sums is determined by its values at the powers of x.
use Rattle.std.proofs.Common.{◌≡◌, ℕ, zero, suc, ◌*◌, ◌/◌, ◌%◌, ◌^◌, ◌<◌, ◌≤◌, Bool, true, false, eqb, refl, sym, ap, ◌∙◌, arith, lit<, inl, inr}
use Rattle.std.specs.Prelude.{bit_xor, if◌then◌else◌}
use Rattle.std.proofs.Math.Nat.{pow-succ', pow-le-pow_right}
use Rattle.std.proofs.lemmas.Nat.{pow_pos, div_below, mod_below, shr_split}
use Rattle.std.proofs.lemmas.Bool.{cases_lt}
use Rattle.std.specs.Int.Bits.{xor_self, xor_shifted}
use Rattle.gf64.specs.Field.{coefficient, part}
use Rattle.gf64.proofs.Sums.{part_below}

-- ---- a test of each number below n, which the checker computes

unfoldable pub all_below : ℕ → (ℕ → Bool) → Bool
all_below zero test = true
all_below (suc n) test = if test n then all_below n test else false

both : (a b : Bool) → (if a then b else false) ≡ true → (a ≡ true) × (b ≡ true)
both true b e = (refl, e)
both false b e = cc

pub passes : (n i : ℕ) (test : ℕ → Bool) → all_below n test ≡ true → i < n → test i ≡ true
unfolding all_below
passes zero i test e lt = absurd (omega arith)
passes (suc n) i test e lt = elim (cases_lt i n) [
  | inl below ↦ passes n i test (both (test n) (all_below n test) e).1 below
  | inr above ↦
      let here : i ≡ n = omega (arith, lt, above) in
      ap test here ∙ (both (test n) (all_below n test) e).0
]

-- ---- a polynomial as its highest term and the rest

top_part : (h n : ℕ) → h < 2 → h * 2 ^ n ≡ part (eqb (h % 2) 1) (2 ^ n)
top_part zero n lt = omega arith
top_part (suc zero) n lt = omega arith
top_part (suc (suc h)) n lt = absurd (omega arith)

split_top : (n a : ℕ) → a < 2 ^ suc n → bit_xor (part (coefficient n a) (2 ^ n)) (a % 2 ^ n) ≡ a
split_top n a lt =
    let twice : 2 ^ suc n ≡ 2 * 2 ^ n = pow-succ' 2 n in
    let two : a / 2 ^ n < 2 = div_below a (2 ^ n) 2 (pow_pos n) (omega (arith, lt, twice)) in
    ap (λ (t : ℕ). bit_xor t (a % 2 ^ n)) (sym (top_part (a / 2 ^ n) n two)) ∙ xor_shifted (a / 2 ^ n) n (a % 2 ^ n) (mod_below a (2 ^ n) (pow_pos n)) ∙ shr_split a n

-- ---- maps of elements that preserve sums

-- the map of a sum is the sum of the maps
abbrev pub KeepsSums : (ℕ → ℕ) → Type 0
KeepsSums f = (a b : ℕ) → a < 2 ^ 64 → b < 2 ^ 64 → f (bit_xor a b) ≡ bit_xor (f a) (f b)

pub keeps_zero : (f : ℕ → ℕ) → KeepsSums f → f 0 ≡ 0
keeps_zero f keeps = ap f (sym (xor_self 0)) ∙ keeps 0 0 (lit< tt) (lit< tt) ∙ xor_self (f 0)

same_part : (f g : ℕ → ℕ) → KeepsSums f → KeepsSums g → (c : Bool) (p : ℕ) → f p ≡ g p → f (part c p) ≡ g (part c p)
same_part f g kf kg true p e = e
same_part f g kf kg false p e = keeps_zero f kf ∙ sym (keeps_zero g kg)

pub same_map : (f g : ℕ → ℕ) → KeepsSums f → KeepsSums g → (n : ℕ) → n ≤ 64 → ((i : ℕ) → i < n → f (2 ^ i) ≡ g (2 ^ i)) → (a : ℕ) → a < 2 ^ n → f a ≡ g a
same_map f g kf kg zero le powers a lt =
    let none : a ≡ 0 = omega (arith, lt) in
    rw none (keeps_zero f kf ∙ sym (keeps_zero g kg))
same_map f g kf kg (suc n) le powers a lt =
    let whole : 2 ^ suc n ≤ 2 ^ 64 = pow-le-pow_right {n = 2} (lit< tt) {i = suc n} {j = 64} le in
    let twice : 2 ^ suc n ≡ 2 * 2 ^ n = pow-succ' 2 n in
    let c : Bool = coefficient n a in
    let low : a % 2 ^ n < 2 ^ n = mod_below a (2 ^ n) (pow_pos n) in
    let low_element : a % 2 ^ n < 2 ^ 64 = omega (arith, low, whole, twice) in
    let top_element : part c (2 ^ n) < 2 ^ 64 = part_below c (2 ^ n) (2 ^ 64) (omega (arith, whole, twice, pow_pos n)) in
    let apart = split_top n a lt in
    ap f (sym apart) ∙ kf (part c (2 ^ n)) (a % 2 ^ n) top_element low_element
    ∙ ap (λ (x : ℕ). bit_xor x (f (a % 2 ^ n))) (same_part f g kf kg c (2 ^ n) (powers n (omega arith)))
    ∙ ap (bit_xor (g (part c (2 ^ n)))) (same_map f g kf kg n (omega (arith, le)) (λ (i : ℕ) (here : i < n). powers i (omega (arith, here))) (a % 2 ^ n) low)
    ∙ sym (kg (part c (2 ^ n)) (a % 2 ^ n) top_element low_element) ∙ ap g apart
