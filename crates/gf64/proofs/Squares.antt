-- Squares of elements. The square of a sum is the sum of the squares, and 64 squares give an element back.
use Rattle.std.proofs.Common.{◌≡◌, ℕ, zero, suc, ◌*◌, ◌^◌, ◌<◌, refl, sym, ap, ◌∙◌, arith, lit<, lit≤}
use Rattle.std.specs.Prelude.{bit_xor}
use Rattle.std.proofs.Math.Nat.{pow-succ'}
use Rattle.std.proofs.lemmas.Nat.{xor_lt, pow_below}
use Rattle.std.specs.Int.Bits.{xor_assoc, xor_self, xor_zero_l}
use Rattle.gf64.specs.Field.{poly_times, remainder, product}
use Rattle.gf64.proofs.Multiplication.{power_times}
use Rattle.gf64.proofs.Division.{remainder_small}
use Rattle.gf64.proofs.Ring.{product_below, product_xor, commutes, associates}
use Rattle.gf64.proofs.Maps.{KeepsSums, same_map}

-- a ^ (2 ^ n)
pub squared : ℕ → ℕ → ℕ
squared zero a = a
squared (suc n) a = product (squared n a) (squared n a)

pub squared_none : (a : ℕ) → squared 0 a ≡ a
unfolding squared
squared_none a = refl

pub squared_more : (n a : ℕ) → squared (suc n) a ≡ product (squared n a) (squared n a)
unfolding squared
squared_more n a = refl

pub squared_below : (n a : ℕ) → a < 2 ^ 64 → squared n a < 2 ^ 64
unfolding squared
squared_below zero a lt = lt
squared_below (suc n) a lt = product_below (squared n a) (squared n a) (squared_below n a lt)

-- ---- squaring preserves sums and products

cross : (aa ab bb : ℕ) → bit_xor (bit_xor aa ab) (bit_xor ab bb) ≡ bit_xor aa bb
cross aa ab bb = xor_assoc aa ab (bit_xor ab bb) ∙ ap (bit_xor aa) (sym (xor_assoc ab ab bb) ∙ ap (λ (x : ℕ). bit_xor x bb) (xor_self ab) ∙ xor_zero_l bb)

pub square_xor : KeepsSums (λ a. product a a)
square_xor a b la lb =
    let s : ℕ = bit_xor a b in
    let ls : s < 2 ^ 64 = xor_lt 64 a b la lb in
    product_xor a b s
    ∙ ap (λ (x : ℕ). bit_xor x (product b s)) (commutes a s la ls ∙ product_xor a b a ∙ ap (bit_xor (product a a)) (commutes b a lb la))
    ∙ ap (bit_xor (bit_xor (product a a) (product a b))) (commutes b s lb ls ∙ product_xor a b b)
    ∙ cross (product a a) (product a b) (product b b)

pub squared_xor : (n : ℕ) → KeepsSums (squared n)
unfolding squared
squared_xor zero a b la lb = refl
squared_xor (suc n) a b la lb =
    ap (λ (x : ℕ). product x x) (squared_xor n a b la lb) ∙ square_xor (squared n a) (squared n b) (squared_below n a la) (squared_below n b lb)

-- (a * b) * (c * d) is (a * c) * (b * d)
pub product_swap : (a b c d : ℕ) → a < 2 ^ 64 → b < 2 ^ 64 → c < 2 ^ 64 → d < 2 ^ 64 → product (product a b) (product c d) ≡ product (product a c) (product b d)
product_swap a b c d la lb lc ld =
    let cd : product c d < 2 ^ 64 = product_below c d lc in
    let bd : product b d < 2 ^ 64 = product_below b d lb in
    associates a b (product c d) la lb cd
    ∙ ap (product a) (sym (associates b c d lb lc ld) ∙ ap (λ (x : ℕ). product x d) (commutes b c lb lc) ∙ associates c b d lc lb ld)
    ∙ sym (associates a c (product b d) la lc bd)

pub squared_product : (n a b : ℕ) → a < 2 ^ 64 → b < 2 ^ 64 → squared n (product a b) ≡ product (squared n a) (squared n b)
unfolding squared
squared_product zero a b la lb = refl
squared_product (suc n) a b la lb =
    ap (λ (x : ℕ). product x x) (squared_product n a b la lb)
    ∙ product_swap (squared n a) (squared n b) (squared n a) (squared n b) (squared_below n a la) (squared_below n b lb) (squared_below n a la) (squared_below n b lb)

-- ---- squaring x 64 times gives x back

x_returns : squared 64 2 ≡ 2
unfolding squared product remainder poly_times
x_returns = refl

next_power : (i : ℕ) → i < 63 → product (2 ^ i) 2 ≡ 2 ^ suc i
unfolding product
next_power i lt =
    let twice : 2 ^ suc i ≡ 2 * 2 ^ i = pow-succ' 2 i in
    let small : 2 ^ suc i < 2 ^ 64 = pow_below (suc i) 64 (omega (arith, lt)) in
    ap (remainder 63) (power_times 64 i 2 (lit< tt) ∙ sym twice) ∙ remainder_small 63 (2 ^ suc i) small

one_squared : (n : ℕ) → squared n 1 ≡ 1
unfolding squared product remainder poly_times
one_squared zero = refl
one_squared (suc n) = ap (λ (x : ℕ). product x x) (one_squared n)

power_returns : (i : ℕ) → i < 64 → squared 64 (2 ^ i) ≡ 2 ^ i
power_returns zero lt = one_squared 64
power_returns (suc i) lt =
    let here : 2 ^ i < 2 ^ 64 = pow_below i 64 (omega (arith, lt)) in
    ap (squared 64) (sym (next_power i (omega (arith, lt)))) ∙ squared_product 64 (2 ^ i) 2 here (lit< tt)
    ∙ ap (λ (x : ℕ). product x (squared 64 2)) (power_returns i (omega (arith, lt))) ∙ ap (product (2 ^ i)) x_returns ∙ next_power i (omega (arith, lt))

identity : KeepsSums (λ a. a)
identity a b la lb = refl

pub returns_itself : (a : ℕ) → a < 2 ^ 64 → squared 64 a ≡ a
returns_itself a lt = same_map (squared 64) (λ a. a) (squared_xor 64) identity 64 (lit≤ tt) power_returns a lt
