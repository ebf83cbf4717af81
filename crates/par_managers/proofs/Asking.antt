-- The jobs from a place on.
use Rattle.std.proofs.Common.{◌≡◌, ℕ, zero, suc, ◌+◌, ◌<◌, ◌≤◌, List, [], ◌∷◌, length, drop, refl, sym, ap, subst, ◌∙◌, arith}
use Rattle.std.specs.Prelude.{get_or}
use Rattle.std.specs.List.{All}
use Rattle.run_ops.specs.declared.job.Job.{Job}

dropped : {A : Type 0} (xs : List A) (i : ℕ) (x : A) → i < length xs → x ≡ get_or xs i x → drop i xs ≡ x ∷ drop (suc i) xs
dropped [] i x below is = absurd (omega (arith, below))
dropped (y ∷ ys) zero x below is = ap (λ (z : _). z ∷ ys) (sym is)
dropped (y ∷ ys) (suc i) x below is = dropped ys i x (omega (arith, below)) is

pub drop_next : {A : Type 0} (xs : List A) (i : ℕ) (x : A) → i < length xs → x ≡ get_or xs i x → drop i xs ≡ x ∷ drop (i + 1) xs
drop_next xs i x below is =
    let same : suc i ≡ i + 1 = omega arith in
    dropped xs i x below is ∙ ap (λ (n : ℕ). x ∷ drop n xs) same

pub drop_all : {A : Type 0} (xs : List A) (i : ℕ) → length xs ≤ i → drop i xs ≡ []
drop_all [] zero above = refl
drop_all [] (suc i) above = refl
drop_all (y ∷ ys) zero above = absurd (omega (arith, above))
drop_all (y ∷ ys) (suc i) above = drop_all ys i (omega (arith, above))

pub there_at : (P : Job → Type 0) (all : List Job) (i : ℕ) (job : Job) → All P all → i < length all → job ≡ get_or all i job → P job
there_at P all i job h below is = subst P (sym is) (h i job below)
