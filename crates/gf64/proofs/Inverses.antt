-- The power 2 ^ 64 - 2 of an element is its inverse.
use Rattle.std.proofs.Common.{◌≡◌, ℕ, zero, suc, ◌+◌, ◌-◌, ◌*◌, ◌^◌, ◌<◌, refl, sym, ap, ◌∙◌, arith, lit<, inl, inr}
use Rattle.std.proofs.Math.Nat.{pow-succ'}
use Rattle.std.proofs.lemmas.Nat.{pow_pos}
use Rattle.std.proofs.lemmas.Bool.{cases_eq}
use Rattle.gf64.specs.Field.{product, power}
use Rattle.gf64.specs.Laws.{HasNoZeroDivisors, SquaresReturn}
use Rattle.gf64.proofs.Ring.{zero_times, one_is_neutral, commutes, associates}
use Rattle.gf64.proofs.Powers.{power_below, power_one, power_more, power_add}
use Rattle.gf64.proofs.Squares.{squared, squared_none, squared_more, returns_itself}
use Rattle.gf64.proofs.Idempotents.{two_idempotents}

-- ---- the powers that repeated squaring gives

power_twice : (a n : ℕ) → a < 2 ^ 64 → product (power a (2 ^ n)) (power a (2 ^ n)) ≡ power a (2 ^ suc n)
power_twice a n lt =
    let twice : 2 ^ n + 2 ^ n ≡ 2 ^ suc n = omega (arith, pow-succ' 2 n) in
    sym (power_add a (2 ^ n) (2 ^ n) lt) ∙ ap (power a) twice

squared_is : (n a : ℕ) → a < 2 ^ 64 → squared n a ≡ power a (2 ^ n)
squared_is zero a lt = squared_none a ∙ sym (power_one a lt)
squared_is (suc n) a lt = squared_more n a ∙ ap (λ (x : ℕ). product x x) (squared_is n a lt) ∙ power_twice a n lt

pub squares_return : SquaresReturn
squares_return a lt = sym (squared_is 64 a lt) ∙ returns_itself a lt

-- the exponent e is 2 ^ 64 - 2; it stays a variable, so that the checker doesn't count up to it
power_returns : (a e : ℕ) → a < 2 ^ 64 → e + 2 ≡ 2 ^ 64 → power a (e + 2) ≡ a
power_returns a e lt whole = ap (power a) whole ∙ squares_return a lt

-- ---- the inverse

next : (a e : ℕ) → a < 2 ^ 64 → product a (power a e) ≡ power a (e + 1)
next a e lt = commutes a (power a e) lt (power_below a e lt) ∙ sym (power_more a e)

own_square : (a e : ℕ) → a < 2 ^ 64 → e + 2 ≡ 2 ^ 64 → product (power a (e + 1)) (power a (e + 1)) ≡ power a (e + 1)
own_square a e lt whole =
    let count : e + 1 + (e + 1) ≡ e + 2 + e = omega arith in
    sym (power_add a (e + 1) (e + 1) lt) ∙ ap (power a) count ∙ power_add a (e + 2) e lt ∙ ap (λ (x : ℕ). product x (power a e)) (power_returns a e lt whole) ∙ next a e lt

from_none : (a e : ℕ) → a < 2 ^ 64 → e + 2 ≡ 2 ^ 64 → power a (e + 1) ≡ 0 → a ≡ 0
from_none a e lt whole none =
    let count : e + 2 ≡ e + 1 + 1 = omega arith in
    sym (power_returns a e lt whole) ∙ ap (power a) count ∙ power_more a (e + 1) ∙ ap (λ (x : ℕ). product x a) none ∙ zero_times a

pub inverse_is : (a e : ℕ) → a < 2 ^ 64 → (a ≡ 0 → ⊥) → e + 2 ≡ 2 ^ 64 → product a (power a e) ≡ 1
inverse_is a e lt some whole =
    elim (two_idempotents (power a (e + 1)) (power_below a (e + 1) lt) (own_square a e lt whole)) [
      | inl none ↦ absurd (some (from_none a e lt whole none))
      | inr one ↦ next a e lt ∙ one
    ]

-- ---- there are no zero divisors

other_zero : (a b y : ℕ) → a < 2 ^ 64 → b < 2 ^ 64 → y < 2 ^ 64 → product a y ≡ 1 → product a b ≡ 0 → b ≡ 0
other_zero a b y la lb ly one none =
    sym (one_is_neutral b lb) ∙ ap (λ (x : ℕ). product x b) (sym one ∙ commutes a y la ly) ∙ associates y a b ly la lb
    ∙ ap (product y) none ∙ commutes y 0 ly (lit< tt) ∙ zero_times y

pub no_zero_divisors : HasNoZeroDivisors
no_zero_divisors a b la lb none = elim (cases_eq a 0) [
  | inl zero_a ↦ inl zero_a
  | inr some ↦
      let e : ℕ = 2 ^ 64 - 2 in
      inr (other_zero a b (power a e) la lb (power_below a e la) (inverse_is a e la some refl) none)
]

-- ---- the loop that squares and multiplies

pub next_square : (a i before after : ℕ) → a < 2 ^ 64 → before ≡ power a (2 ^ i) → after ≡ product before before → after ≡ power a (2 ^ (i + 1))
next_square a i before after lt b e =
    let k : suc i ≡ i + 1 = omega arith in
    e ∙ ap (λ (x : ℕ). product x x) b ∙ power_twice a i lt ∙ ap (λ (n : ℕ). power a (2 ^ n)) k

pub next_product : (a i before square after : ℕ) → a < 2 ^ 64 → before ≡ power a (2 ^ (i + 1) - 2) → square ≡ power a (2 ^ (i + 1)) → after ≡ product before square → after ≡ power a (2 ^ (i + 1 + 1) - 2)
next_product a i before square after lt b s e =
    let k : i + 1 + 1 ≡ suc (i + 1) = omega arith in
    let j : i + 1 ≡ suc i = omega arith in
    let one_twice : 2 ^ (i + 1) ≡ 2 * 2 ^ i = ap (λ (n : ℕ). 2 ^ n) j ∙ pow-succ' 2 i in
    let twice : 2 ^ (i + 1 + 1) ≡ 2 * 2 ^ (i + 1) = ap (λ (n : ℕ). 2 ^ n) k ∙ pow-succ' 2 (i + 1) in
    let count : 2 ^ (i + 1) - 2 + 2 ^ (i + 1) ≡ 2 ^ (i + 1 + 1) - 2 = omega (arith, one_twice, twice, pow_pos i) in
    e ∙ ap (λ (x : ℕ). product x square) b ∙ ap (product (power a (2 ^ (i + 1) - 2))) s ∙ sym (power_add a (2 ^ (i + 1) - 2) (2 ^ (i + 1)) lt) ∙ ap (power a) count
