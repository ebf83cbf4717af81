-- A polynomial other than zero has fewer roots than coefficients.
use Rattle.std.proofs.Common.{◌≡◌, ℕ, suc, ◌^◌, ◌<◌, false, eqb, List, [], ◌∷◌, length, refl, sym, ap, ◌∙◌, arith, inl, inr}
use Rattle.std.specs.Prelude.{bit_xor}
use Rattle.std.specs.List.{AllByRecursion, IsDistinct}
use Rattle.std.proofs.lemmas.Nat.{xor_lt}
use Rattle.std.proofs.lemmas.Bool.{eqb-false}
use Rattle.std.proofs.lemmas.Map.Keys.{IsDistinct-head, IsDistinct-tail}
use Rattle.std.specs.Int.Bits.{xor_zero_l, xor_zero_r}
use Rattle.gf64.specs.Field.{product}
use Rattle.gf64.proofs.Ring.{product_below, product_xor}
use Rattle.gf64.proofs.Inverses.{no_zero_divisors}
use Rattle.wc_tags.proofs.Horner.{AreElements}
use Rattle.tag_bound.proofs.Polynomials.{value, value_none, value_more, value_below, times_zero, times_xor, times_exchange, xor_cancel, same_from_xor}

abbrev pub AreZero : List ℕ → Type 0
AreZero cs = AllByRecursion (λ c. c ≡ 0) cs

abbrev pub AreRoots : List ℕ → List ℕ → Type 0
AreRoots keys cs = AllByRecursion (λ k. value k cs ≡ 0) keys

-- the quotient of the polynomial c + x * p by x - r, from the coefficients of p
quotient : ℕ → List ℕ → List ℕ
quotient r [] = []
quotient r (c ∷ cs) = value r (c ∷ cs) ∷ quotient r cs

quotient_length : (r : ℕ) (cs : List ℕ) → length (quotient r cs) ≡ length cs
unfolding quotient
quotient_length r [] = refl
quotient_length r (c ∷ cs) = ap suc (quotient_length r cs)

quotient_elements : (r : ℕ) (cs : List ℕ) → r < 2 ^ 64 → AreElements cs → AreElements (quotient r cs)
unfolding quotient
quotient_elements r [] lr all = tt
quotient_elements r (c ∷ cs) lr all = (value_below r (c ∷ cs) lr all, quotient_elements r cs lr all.1)

-- the value of a polynomial is its value at r plus x - r times the value of the quotient
divided : (x r c : ℕ) (cs : List ℕ) → x < 2 ^ 64 → r < 2 ^ 64 → c < 2 ^ 64 → AreElements cs →
    value x (c ∷ cs) ≡ bit_xor (value r (c ∷ cs)) (product (bit_xor x r) (value x (quotient r cs)))
unfolding quotient
divided x r c [] lx lr lc all =
    value_more x c [] ∙ ap (λ (v : ℕ). bit_xor c (product x v)) (value_none x) ∙ ap (bit_xor c) (times_zero x lx)
    ∙ sym (ap (bit_xor (value r (c ∷ []))) (ap (product (bit_xor x r)) (value_none x) ∙ times_zero (bit_xor x r) (xor_lt 64 x r lx lr))
    ∙ xor_zero_r (value r (c ∷ [])) ∙ value_more r c [] ∙ ap (λ (v : ℕ). bit_xor c (product r v)) (value_none r) ∙ ap (bit_xor c) (times_zero r lr))
divided x r c (d ∷ ds) lx lr lc all =
    let v : ℕ = value r (d ∷ ds) in
    let w : ℕ = value x (quotient r ds) in
    let s : ℕ = bit_xor x r in
    let lv : v < 2 ^ 64 = value_below r (d ∷ ds) lr all in
    let lw : w < 2 ^ 64 = value_below x (quotient r ds) lx (quotient_elements r ds lr all.1) in
    let ls : s < 2 ^ 64 = xor_lt 64 x r lx lr in
    value_more x c (d ∷ ds)
    ∙ ap (λ (y : ℕ). bit_xor c (product x y)) (divided x r d ds lx lr all.0 all.1)
    ∙ ap (bit_xor c) (times_xor x v (product s w) lx lv (product_below s w ls))
    ∙ ap (λ (y : ℕ). bit_xor c (bit_xor (product x v) y)) (times_exchange x s w lx ls lw)
    ∙ sym (ap (λ (y : ℕ). bit_xor y (product s (value x (v ∷ quotient r ds)))) (value_more r c (d ∷ ds))
    ∙ ap (λ (y : ℕ). bit_xor (bit_xor c (product r v)) (product s y)) (value_more x v (quotient r ds))
    ∙ ap (bit_xor (bit_xor c (product r v))) (times_xor s v (product x w) ls lv (product_below x w lx) ∙ ap (λ (y : ℕ). bit_xor y (product s (product x w))) (product_xor x r v))
    ∙ xor_cancel c (product r v) (product x v) (product s (product x w)))

-- if r is a root and the quotient is zero, the polynomial is zero
zero_from_quotient : (r c : ℕ) (cs : List ℕ) → r < 2 ^ 64 → value r (c ∷ cs) ≡ 0 → AreZero (quotient r cs) → AreZero (c ∷ cs)
unfolding quotient
zero_from_quotient r c [] lr root none =
    (sym (xor_zero_r c) ∙ ap (bit_xor c) (sym (ap (product r) (value_none r) ∙ times_zero r lr)) ∙ sym (value_more r c []) ∙ root, tt)
zero_from_quotient r c (d ∷ ds) lr root none =
    (sym (xor_zero_r c) ∙ ap (bit_xor c) (sym (ap (product r) none.0 ∙ times_zero r lr)) ∙ sym (value_more r c (d ∷ ds)) ∙ root, zero_from_quotient r d ds lr none.0 none.1)

-- a root other than r is a root of the quotient
root_of_quotient : (x r c : ℕ) (cs : List ℕ) → x < 2 ^ 64 → r < 2 ^ 64 → c < 2 ^ 64 → AreElements cs → eqb r x ≡ false → value r (c ∷ cs) ≡ 0 → value x (c ∷ cs) ≡ 0 → value x (quotient r cs) ≡ 0
root_of_quotient x r c cs lx lr lc all apart at_r at_x =
    let q : ℕ = value x (quotient r cs) in
    let none : product (bit_xor x r) q ≡ 0 =
    sym (xor_zero_l (product (bit_xor x r) q)) ∙ ap (λ (v : ℕ). bit_xor v (product (bit_xor x r) q)) (sym at_r) ∙ sym (divided x r c cs lx lr lc all) ∙ at_x in
    elim (no_zero_divisors (bit_xor x r) q (xor_lt 64 x r lx lr) (value_below x (quotient r cs) lx (quotient_elements r cs lr all)) none) [
      | inl same ↦ absurd (eqb-false r x apart (sym (same_from_xor x r same)))
      | inr root ↦ root
    ]

roots_of_quotient : (r c : ℕ) (cs keys : List ℕ) → r < 2 ^ 64 → c < 2 ^ 64 → AreElements cs → AreElements keys → AllByRecursion (λ k. eqb r k ≡ false) keys → value r (c ∷ cs) ≡ 0 → AreRoots keys (c ∷ cs) → AreRoots keys (quotient r cs)
roots_of_quotient r c cs [] lr lc all ek apart at_r roots = tt
roots_of_quotient r c cs (k ∷ ks) lr lc all ek apart at_r roots =
    (root_of_quotient k r c cs ek.0 lr lc all apart.0 at_r roots.0, roots_of_quotient r c cs ks lr lc all ek.1 apart.1 at_r roots.1)

pub few_roots : (keys cs : List ℕ) → AreElements keys → AreElements cs → IsDistinct eqb keys → AreRoots keys cs → (AreZero cs → ⊥) → length keys < length cs
few_roots [] [] ek ec apart roots some = absurd (some tt)
few_roots [] (c ∷ cs) ek ec apart roots some = omega arith
few_roots (k ∷ ks) [] ek ec apart roots some = absurd (some tt)
few_roots (k ∷ ks) (c ∷ cs) ek ec apart roots some =
    let fewer : length ks < length (quotient k cs) =
    few_roots ks (quotient k cs) ek.1 (quotient_elements k cs ek.0 ec.1) (IsDistinct-tail eqb k ks apart)
    (roots_of_quotient k c cs ks ek.0 ec.0 ec.1 ek.1 (IsDistinct-head eqb k ks apart) roots.0 roots.1)
    (λ none. some (zero_from_quotient k c cs ek.0 roots.0 none)) in
    omega (arith, fewer, quotient_length k cs)
