-- Polynomials over the field: lists of coefficients, the constant one first.
use Rattle.std.proofs.Common.{◌≡◌, ℕ, zero, suc, ◌+◌, ◌^◌, ◌<◌, ◌≤◌, List, [], ◌∷◌, ◌++◌, length, refl, sym, ap, ◌∙◌, arith, lit<}
use Rattle.std.specs.Prelude.{bit_xor}
use Rattle.std.proofs.lemmas.Nat.{xor_lt, xor_comm}
use Rattle.std.specs.Int.Bits.{xor_assoc, xor_self, xor_zero_l, xor_zero_r}
use Rattle.gf64.specs.Field.{product, power}
use Rattle.gf64.proofs.Sums.{swap_middle}
use Rattle.gf64.proofs.Ring.{product_below, product_xor, zero_times, one_is_neutral, commutes, associates}
use Rattle.gf64.proofs.Powers.{power_below, power_none, power_more}
use Rattle.wc_tags.proofs.Horner.{AreElements}

-- the value of a polynomial at x: c0 + x * (c1 + x * (c2 + ..))
pub value : ℕ → List ℕ → ℕ
value x [] = 0
value x (c ∷ cs) = bit_xor c (product x (value x cs))

pub value_none : (x : ℕ) → value x [] ≡ 0
unfolding value
value_none x = refl

pub value_more : (x c : ℕ) (cs : List ℕ) → value x (c ∷ cs) ≡ bit_xor c (product x (value x cs))
unfolding value
value_more x c cs = refl

pub value_below : (x : ℕ) (cs : List ℕ) → x < 2 ^ 64 → AreElements cs → value x cs < 2 ^ 64
unfolding value
value_below x [] lx all = lit< tt
value_below x (c ∷ cs) lx all = xor_lt 64 c (product x (value x cs)) all.0 (product_below x (value x cs) lx)

-- ---- sums and products of elements

pub times_zero : (a : ℕ) → a < 2 ^ 64 → product a 0 ≡ 0
times_zero a lt = commutes a 0 lt (lit< tt) ∙ zero_times a

pub times_xor : (a b c : ℕ) → a < 2 ^ 64 → b < 2 ^ 64 → c < 2 ^ 64 → product a (bit_xor b c) ≡ bit_xor (product a b) (product a c)
times_xor a b c la lb lc =
    commutes a (bit_xor b c) la (xor_lt 64 b c lb lc) ∙ product_xor b c a
    ∙ ap (λ (p : ℕ). bit_xor p (product c a)) (commutes b a lb la) ∙ ap (bit_xor (product a b)) (commutes c a lc la)

-- a * (b * c) is b * (a * c)
pub times_exchange : (a b c : ℕ) → a < 2 ^ 64 → b < 2 ^ 64 → c < 2 ^ 64 → product a (product b c) ≡ product b (product a c)
times_exchange a b c la lb lc =
    sym (associates a b c la lb lc) ∙ ap (λ (p : ℕ). product p c) (commutes a b la lb) ∙ associates b a c lb la lc

-- adding an element twice changes nothing
pub xor_twice : (a b : ℕ) → bit_xor a (bit_xor a b) ≡ b
xor_twice a b = sym (xor_assoc a a b) ∙ ap (λ (x : ℕ). bit_xor x b) (xor_self a) ∙ xor_zero_l b

pub xor_cancel : (a b c d : ℕ) → bit_xor (bit_xor a b) (bit_xor (bit_xor c b) d) ≡ bit_xor a (bit_xor c d)
xor_cancel a b c d =
    ap (λ (x : ℕ). bit_xor (bit_xor a b) (bit_xor x d)) (xor_comm c b) ∙ ap (bit_xor (bit_xor a b)) (xor_assoc b c d)
    ∙ xor_assoc a b (bit_xor b (bit_xor c d)) ∙ ap (bit_xor a) (xor_twice b (bit_xor c d))

-- two elements whose difference is 0 are equal
pub same_from_xor : (a b : ℕ) → bit_xor a b ≡ 0 → a ≡ b
same_from_xor a b none = sym (xor_zero_r a) ∙ ap (bit_xor a) (sym none) ∙ xor_twice a b

-- ---- the sum of two polynomials

pub sums : List ℕ → List ℕ → List ℕ
sums [] ys = ys
sums (x ∷ xs) [] = x ∷ xs
sums (x ∷ xs) (y ∷ ys) = bit_xor x y ∷ sums xs ys

pub sums_more : (x y : ℕ) (xs ys : List ℕ) → sums (x ∷ xs) (y ∷ ys) ≡ bit_xor x y ∷ sums xs ys
unfolding sums
sums_more x y xs ys = refl

pub sums_elements : (xs ys : List ℕ) → AreElements xs → AreElements ys → AreElements (sums xs ys)
unfolding sums
sums_elements [] ys ex ey = ey
sums_elements (x ∷ xs) [] ex ey = ex
sums_elements (x ∷ xs) (y ∷ ys) ex ey = (xor_lt 64 x y ex.0 ey.0, sums_elements xs ys ex.1 ey.1)

pub sums_length : (n : ℕ) (xs ys : List ℕ) → length xs ≤ n → length ys ≤ n → length (sums xs ys) ≤ n
unfolding sums
sums_length n [] ys lx ly = ly
sums_length n (x ∷ xs) [] lx ly = lx
sums_length zero (x ∷ xs) (y ∷ ys) lx ly = absurd (omega arith)
sums_length (suc n) (x ∷ xs) (y ∷ ys) lx ly = omega (arith, sums_length n xs ys (omega arith) (omega arith))

pub value_sums : (k : ℕ) (xs ys : List ℕ) → k < 2 ^ 64 → AreElements xs → AreElements ys → value k (sums xs ys) ≡ bit_xor (value k xs) (value k ys)
unfolding sums
value_sums k [] ys lk ex ey = sym (ap (λ (v : ℕ). bit_xor v (value k ys)) (value_none k) ∙ xor_zero_l (value k ys))
value_sums k (x ∷ xs) [] lk ex ey = sym (ap (bit_xor (value k (x ∷ xs))) (value_none k) ∙ xor_zero_r (value k (x ∷ xs)))
value_sums k (x ∷ xs) (y ∷ ys) lk ex ey =
    value_more k (bit_xor x y) (sums xs ys)
    ∙ ap (λ (v : ℕ). bit_xor (bit_xor x y) (product k v)) (value_sums k xs ys lk ex.1 ey.1)
    ∙ ap (bit_xor (bit_xor x y)) (times_xor k (value k xs) (value k ys) lk (value_below k xs lk ex.1) (value_below k ys lk ey.1))
    ∙ swap_middle x y (product k (value k xs)) (product k (value k ys))
    ∙ ap (λ (v : ℕ). bit_xor v (bit_xor y (product k (value k ys)))) (sym (value_more k x xs)) ∙ ap (bit_xor (value k (x ∷ xs))) (sym (value_more k y ys))

-- ---- a polynomial with one more term at the end

pub value_last : (k m : ℕ) (cs : List ℕ) → k < 2 ^ 64 → m < 2 ^ 64 → AreElements cs → value k (cs ++ m ∷ []) ≡ bit_xor (value k cs) (product m (power k (length cs)))
value_last k m [] lk lm all =
    value_more k m [] ∙ ap (λ (v : ℕ). bit_xor m (product k v)) (value_none k) ∙ ap (bit_xor m) (times_zero k lk) ∙ xor_zero_r m
    ∙ sym (ap (λ (v : ℕ). bit_xor v (product m (power k 0))) (value_none k) ∙ xor_zero_l (product m (power k 0)) ∙ ap (product m) (power_none k) ∙ commutes m 1 lm (lit< tt) ∙ one_is_neutral m lm)
value_last k m (c ∷ cs) lk lm all =
    let p : ℕ = power k (length cs) in
    let lp : p < 2 ^ 64 = power_below k (length cs) lk in
    let lv : value k cs < 2 ^ 64 = value_below k cs lk all.1 in
    let count : length cs + 1 ≡ length (c ∷ cs) = omega arith in
    value_more k c (cs ++ m ∷ [])
    ∙ ap (λ (v : ℕ). bit_xor c (product k v)) (value_last k m cs lk lm all.1)
    ∙ ap (bit_xor c) (times_xor k (value k cs) (product m p) lk lv (product_below m p lm))
    ∙ sym (xor_assoc c (product k (value k cs)) (product k (product m p)))
    ∙ ap (λ (v : ℕ). bit_xor v (product k (product m p))) (sym (value_more k c cs))
    ∙ ap (bit_xor (value k (c ∷ cs))) (times_exchange k m p lk lm lp ∙ ap (product m) (commutes k p lk lp ∙ sym (power_more k (length cs)) ∙ ap (power k) count))
