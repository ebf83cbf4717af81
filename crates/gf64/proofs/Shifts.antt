-- Reducing a product after each shift gives the same remainder. The laws of the product then follow by induction.
use Rattle.std.proofs.Common.{◌≡◌, ℕ, zero, suc, ◌+◌, ◌-◌, ◌*◌, ◌/◌, ◌%◌, ◌^◌, ◌<◌, ◌≤◌, Bool, true, false, eqb, refl, sym, ap, ap₂, subst, ◌∙◌, arith, lit<}
use Rattle.std.specs.Prelude.{bit_xor}
use Rattle.std.proofs.Math.Nat.{pow-succ', pow-le-pow_right}
use Rattle.std.proofs.lemmas.Nat.{xor_block, mod_below, pow_pos}
use Rattle.std.specs.Int.Bits.{xor_zero_r}
use Rattle.gf64.specs.Field.{coefficient, part, modulus, poly_times, remainder}
use Rattle.gf64.proofs.Sums.{swap_middle, part_differ, part_xor, part_zero, part_below, coefficient_xor, coefficient_double, xor_double}
use Rattle.gf64.proofs.Multiplication.{double_part, times_half, times_below}
use Rattle.gf64.proofs.Division.{remainder_xor, remainder_small, remainder_top, remainder_below}

-- the product of an element and x
pub times_x : ℕ → ℕ
times_x a = bit_xor (2 * a) (part (coefficient 63 a) modulus)

-- the product of a by the n lowest terms of b, begun at the highest of these terms
pub by_shifts : ℕ → ℕ → ℕ → ℕ
by_shifts zero a b = 0
by_shifts (suc n) a b = bit_xor (part (coefficient 0 b) a) (times_x (by_shifts n a (b / 2)))

-- ---- multiplying by x and then reducing is times_x

pub remainder_shift : (n p : ℕ) → remainder (suc n) (2 * p) ≡ times_x (remainder n p)
unfolding remainder times_x
remainder_shift zero p = ap (λ (c : Bool). bit_xor (2 * p) (part c modulus)) (coefficient_double 63 p)
remainder_shift (suc n) p =
    let k : 64 + suc n ≡ suc (64 + n) = omega arith in
    let c : coefficient (64 + suc n) (2 * p) ≡ coefficient (64 + n) p = ap (λ (t : ℕ). coefficient t (2 * p)) k ∙ coefficient_double (64 + n) p in
    ap (λ (b : Bool). remainder (suc n) (bit_xor (2 * p) (part b (modulus * 2 ^ suc n)))) c
    ∙ ap (λ (m : ℕ). remainder (suc n) (bit_xor (2 * p) m)) (double_part (coefficient (64 + n) p) modulus n)
    ∙ ap (remainder (suc n)) (xor_double p (part (coefficient (64 + n) p) (modulus * 2 ^ n)))
    ∙ remainder_shift n (bit_xor p (part (coefficient (64 + n) p) (modulus * 2 ^ n)))

pub shifts_are : (n a b : ℕ) → a < 2 ^ 64 → n ≤ 64 → remainder 63 (poly_times n a b) ≡ by_shifts n a b
unfolding poly_times by_shifts
shifts_are zero a b lt le = remainder_small 63 0 (lit< tt)
shifts_are (suc n) a b lt le =
    let up : 63 + n ≤ 126 = omega (arith, le) in
    let room : 2 ^ (63 + n) ≤ 2 ^ 126 = pow-le-pow_right {n = 2} (lit< tt) {i = 63 + n} {j = 126} up in
    let below : poly_times n a (b / 2) < 2 ^ (64 + 62) = omega (arith, times_below n 63 a (b / 2) lt, room) in
    ap (remainder 63) (times_half n a b)
    ∙ remainder_xor 63 (part (coefficient 0 b) a) (2 * poly_times n a (b / 2))
    ∙ ap (λ (x : ℕ). bit_xor x (remainder 63 (2 * poly_times n a (b / 2)))) (remainder_small 63 (part (coefficient 0 b) a) (part_below (coefficient 0 b) a (2 ^ 64) lt))
    ∙ ap (bit_xor (part (coefficient 0 b) a)) (remainder_shift 62 (poly_times n a (b / 2)) ∙ ap times_x (sym (remainder_top 62 (poly_times n a (b / 2)) below) ∙ shifts_are n a (b / 2) lt (omega (arith, le))))

-- ---- shifting by several terms, and what the code does for one

top_term : (a h : ℕ) → a < 2 ^ 64 → h ≡ a / 2 ^ 63 → h < 2 → bit_xor (a * 2 % 2 ^ 64) (27 * h) ≡ bit_xor (2 * a) (part (eqb (h % 2) 1) modulus)
top_term a zero lt e small =
    let whole : a * 2 % 2 ^ 64 ≡ 2 * a = omega (arith, lt, e) in
    ap (λ (x : ℕ). bit_xor x 0) whole
top_term a (suc zero) lt e small =
    let low : ℕ = a * 2 % 2 ^ 64 in
    let whole : 1 * 2 ^ 64 + low ≡ 2 * a = omega (arith, lt, e) in
    sym (ap (λ (x : ℕ). bit_xor x modulus) (sym whole) ∙ xor_block 64 1 1 low 27 (mod_below (a * 2) (2 ^ 64) (pow_pos 64)) (lit< tt) ∙ omega arith)
top_term a (suc (suc h)) lt e small = absurd (omega arith)

pub doubled_is : (a : ℕ) → a < 2 ^ 64 → bit_xor (a * 2 % 2 ^ 64) (27 * (a / 2 ^ 63)) ≡ remainder 63 (2 * a)
unfolding times_x
doubled_is a lt = top_term a (a / 2 ^ 63) lt refl (omega (arith, lt)) ∙ sym (remainder_shift 62 a ∙ ap times_x (remainder_small 62 a lt))

same_shifted : (k n a b : ℕ) → remainder n a ≡ remainder n b → remainder (n + k) (a * 2 ^ k) ≡ remainder (n + k) (b * 2 ^ k)
same_shifted zero n a b e =
    let none : n + 0 ≡ n = omega arith in
    let one : a * 2 ^ 0 ≡ a = omega arith in
    let other : b * 2 ^ 0 ≡ b = omega arith in
    ap₂ remainder none one ∙ e ∙ sym (ap₂ remainder none other)
same_shifted (suc k) n a b e =
    let up : n + suc k ≡ suc (n + k) = omega arith in
    let one : a * 2 ^ suc k ≡ 2 * (a * 2 ^ k) = ap (λ (m : ℕ). a * m) (pow-succ' 2 k) ∙ omega arith in
    let other : b * 2 ^ suc k ≡ 2 * (b * 2 ^ k) = ap (λ (m : ℕ). b * m) (pow-succ' 2 k) ∙ omega arith in
    ap₂ remainder up one ∙ remainder_shift (n + k) (a * 2 ^ k) ∙ ap times_x (same_shifted k n a b e)
    ∙ sym (ap₂ remainder up other ∙ remainder_shift (n + k) (b * 2 ^ k))

-- the remainder of a polynomial below x ^ 67, with three steps of the division or more
few_steps : (j p : ℕ) → p < 2 ^ 67 → remainder (j + 3) p ≡ remainder 3 p
few_steps zero p lt = refl
few_steps (suc j) p lt =
    let up : suc j + 3 ≡ suc (j + 3) = omega arith in
    let more : 67 ≤ 64 + (j + 3) = omega arith in
    let room : 2 ^ 67 ≤ 2 ^ (64 + (j + 3)) = pow-le-pow_right {n = 2} (lit< tt) {i = 67} {j = 64 + (j + 3)} more in
    ap (λ (n : ℕ). remainder n p) up ∙ remainder_top (j + 3) p (omega (arith, lt, room)) ∙ few_steps j p lt

-- a polynomial may be reduced before it is shifted
pub reduced_shifted : (k p r : ℕ) → k ≤ 60 → p < 2 ^ 67 → r ≡ remainder 63 p → remainder 63 (r * 2 ^ k) ≡ remainder 63 (p * 2 ^ k)
reduced_shifted k p r le lt e =
    let n : ℕ = 63 - k in
    let whole : n + k ≡ 63 = omega (arith, le) in
    let steps : n ≡ 60 - k + 3 = omega (arith, le) in
    let below : p < 2 ^ (64 + 63) = omega (arith, lt) in
    let small : r < 2 ^ 64 = subst (λ (m : ℕ). m < 2 ^ 64) (sym e) (remainder_below 63 p below) in
    let here : remainder n r ≡ remainder n p = remainder_small n r small ∙ e ∙ few_steps 60 p lt ∙ sym (ap (λ (m : ℕ). remainder m p) steps ∙ few_steps (60 - k) p lt) in
    ap (λ (m : ℕ). remainder m (r * 2 ^ k)) (sym whole) ∙ same_shifted k n r p here ∙ ap (λ (m : ℕ). remainder m (p * 2 ^ k)) whole

-- ---- times_x is linear

times_x_xor : (p q : ℕ) → times_x (bit_xor p q) ≡ bit_xor (times_x p) (times_x q)
unfolding times_x
times_x_xor p q =
    ap (λ (x : ℕ). bit_xor x (part (coefficient 63 (bit_xor p q)) modulus)) (sym (xor_double p q))
    ∙ ap (bit_xor (bit_xor (2 * p) (2 * q))) (ap (λ (c : Bool). part c modulus) (coefficient_xor 63 p q) ∙ part_differ (coefficient 63 p) (coefficient 63 q) modulus)
    ∙ swap_middle (2 * p) (2 * q) (part (coefficient 63 p) modulus) (part (coefficient 63 q) modulus)

times_x_zero : times_x 0 ≡ 0
unfolding times_x
times_x_zero = refl

part_times_x : (c : Bool) (p : ℕ) → part c (times_x p) ≡ times_x (part c p)
part_times_x true p = refl
part_times_x false p = sym times_x_zero

-- ---- by_shifts is linear in the first factor

first_xor : (n p q b : ℕ) → by_shifts n (bit_xor p q) b ≡ bit_xor (by_shifts n p b) (by_shifts n q b)
unfolding by_shifts
first_xor zero p q b = refl
first_xor (suc n) p q b =
    ap (λ (x : ℕ). bit_xor x (times_x (by_shifts n (bit_xor p q) (b / 2)))) (part_xor (coefficient 0 b) p q)
    ∙ ap (bit_xor (bit_xor (part (coefficient 0 b) p) (part (coefficient 0 b) q))) (ap times_x (first_xor n p q (b / 2)) ∙ times_x_xor (by_shifts n p (b / 2)) (by_shifts n q (b / 2)))
    ∙ swap_middle (part (coefficient 0 b) p) (part (coefficient 0 b) q) (times_x (by_shifts n p (b / 2))) (times_x (by_shifts n q (b / 2)))

first_times_x : (n p b : ℕ) → by_shifts n (times_x p) b ≡ times_x (by_shifts n p b)
unfolding by_shifts
first_times_x zero p b = sym times_x_zero
first_times_x (suc n) p b =
    ap (λ (x : ℕ). bit_xor x (times_x (by_shifts n (times_x p) (b / 2)))) (part_times_x (coefficient 0 b) p)
    ∙ ap (bit_xor (times_x (part (coefficient 0 b) p))) (ap times_x (first_times_x n p (b / 2)))
    ∙ sym (times_x_xor (part (coefficient 0 b) p) (times_x (by_shifts n p (b / 2))))

first_zero : (n b : ℕ) → by_shifts n 0 b ≡ 0
unfolding by_shifts
first_zero zero b = refl
first_zero (suc n) b = ap (λ (x : ℕ). bit_xor (part (coefficient 0 b) 0) (times_x x)) (first_zero n (b / 2)) ∙ ap (bit_xor (part (coefficient 0 b) 0)) times_x_zero ∙ xor_zero_r _ ∙ part_zero (coefficient 0 b)

part_by : (c : Bool) (m p k : ℕ) → part c (by_shifts m p k) ≡ by_shifts m (part c p) k
part_by true m p k = refl
part_by false m p k = sym (first_zero m k)

-- (a * b) * k is (a * k) * b
pub exchanges : (n m a b k : ℕ) → by_shifts m (by_shifts n a b) k ≡ by_shifts n (by_shifts m a k) b
unfolding by_shifts
exchanges zero m a b k = first_zero m k
exchanges (suc n) m a b k =
    first_xor m (part (coefficient 0 b) a) (times_x (by_shifts n a (b / 2))) k
    ∙ ap (bit_xor (by_shifts m (part (coefficient 0 b) a) k)) (first_times_x m (by_shifts n a (b / 2)) k ∙ ap times_x (exchanges n m a (b / 2) k))
    ∙ ap (λ (x : ℕ). bit_xor x (times_x (by_shifts n (by_shifts m a k) (b / 2)))) (sym (part_by (coefficient 0 b) m a k))
