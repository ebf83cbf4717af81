-- Powers of an element.
use Rattle.std.proofs.Common.{◌≡◌, ℕ, zero, suc, ◌+◌, ◌^◌, ◌<◌, refl, sym, ap, ◌∙◌, arith, add-one, lit<}
use Rattle.gf64.specs.Field.{product, power}
use Rattle.gf64.proofs.Ring.{product_below, one_is_neutral, commutes, associates}

pub power_below : (a n : ℕ) → a < 2 ^ 64 → power a n < 2 ^ 64
unfolding power
power_below a zero lt = lit< tt
power_below a (suc n) lt = product_below (power a n) a (power_below a n lt)

pub power_none : (a : ℕ) → power a 0 ≡ 1
unfolding power
power_none a = refl

pub power_more : (a n : ℕ) → power a (n + 1) ≡ product (power a n) a
unfolding power
power_more a n = rw add-one refl

pub power_one : (a : ℕ) → a < 2 ^ 64 → power a 1 ≡ a
unfolding power
power_one a lt = one_is_neutral a lt

pub power_add : (a m n : ℕ) → a < 2 ^ 64 → power a (m + n) ≡ product (power a m) (power a n)
power_add a m zero lt =
    let e : m + 0 ≡ m = omega arith in
    ap (power a) e ∙ sym (ap (product (power a m)) (power_none a) ∙ commutes (power a m) 1 (power_below a m lt) (lit< tt) ∙ one_is_neutral (power a m) (power_below a m lt))
power_add a m (suc n) lt =
    let e : m + suc n ≡ m + n + 1 = omega arith in
    let k : suc n ≡ n + 1 = omega arith in
    ap (power a) e ∙ power_more a (m + n) ∙ ap (λ (p : ℕ). product p a) (power_add a m n lt)
    ∙ associates (power a m) (power a n) a (power_below a m lt) (power_below a n lt) lt
    ∙ ap (product (power a m)) (sym (ap (power a) k ∙ power_more a n))
