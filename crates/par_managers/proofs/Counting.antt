-- The number of places below n whose remainder is a worker's number.
use Rattle.std.proofs.Common.{◌≡◌, ℕ, ◌+◌, ◌-◌, ◌*◌, ◌/◌, ◌%◌, ◌<◌, ◌≤◌, sym, ap, ◌∙◌, arith}
use Rattle.std.proofs.lemmas.Nat.{div-mul-add, div-add-mod'}
use Rattle.std.proofs.Math.Nat.{mod-lt}
use mathlib.Core.Logic.{dite}
use native.Mathlib.Decide.{dec_le}
use Rattle.block_run.specs.Jobs.{job_count}

-- If n is q times w plus a remainder below w, then n / w is q.
divided : (n w q r : ℕ) → r < w → n ≡ q * w + r → n / w ≡ q
divided n w q r small is = ap (λ (m : ℕ). m / w) is ∙ div-mul-add q w r small

module _ (k w : ℕ) (mine : k < w) where
  pub count_none : job_count k w 0 ≡ 0
  count_none = divided (0 + w - (k + 1)) w 0 (w - (k + 1)) (omega (arith, mine)) (omega arith)

  module _ (i : ℕ) where
    q : ℕ
    q = i / w

    r : ℕ
    r = i % w

    whole : i ≡ q * w + r
    unfolding q r
    whole = sym (div-add-mod' i w)

    small : r < w
    unfolding r
    small = mod-lt i (omega (arith, mine))

    more : (q + 1) * w ≡ q * w + w
    more = omega arith

    pub count_in : i % w ≡ k → job_count k w (i + 1) ≡ job_count k w i + 1
    unfolding r
    count_in is =
        let at : r ≡ k = is in
        let before : job_count k w i ≡ q = divided (i + w - (k + 1)) w q (w - 1) (omega (arith, mine)) (omega (arith, whole, at, mine)) in
        let after : job_count k w (i + 1) ≡ q + 1 = divided (i + 1 + w - (k + 1)) w (q + 1) 0 (omega (arith, mine)) (omega (arith, whole, at, mine, more)) in
        omega (arith, before, after)

    pub count_out : (i % w ≡ k → ⊥) → job_count k w (i + 1) ≡ job_count k w i
    unfolding r
    count_out not =
        let apart : r ≡ k → ⊥ = not in
        dite (dec_le (r + 1) k)
        (λ below.
        let before : job_count k w i ≡ q = divided (i + w - (k + 1)) w q (r + w - (k + 1)) (omega (arith, mine, below)) (omega (arith, whole, mine, below)) in
        let after : job_count k w (i + 1) ≡ q = divided (i + 1 + w - (k + 1)) w q (r + w - k) (omega (arith, mine, below)) (omega (arith, whole, mine, below)) in
        before_after before after)
        (λ no.
        let above : k + 1 ≤ r = omega (arith, no, apart) in
        let before : job_count k w i ≡ q + 1 = divided (i + w - (k + 1)) w (q + 1) (r - (k + 1)) (omega (arith, small)) (omega (arith, whole, mine, above, more)) in
        let after : job_count k w (i + 1) ≡ q + 1 = divided (i + 1 + w - (k + 1)) w (q + 1) (r - k) (omega (arith, small, mine)) (omega (arith, whole, mine, above, more)) in
        before_after before after)
      where
        before_after : {a b c : ℕ} → a ≡ c → b ≡ c → b ≡ a
        before_after h g = g ∙ sym h
