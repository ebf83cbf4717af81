-- The order of lists is decided by the first numbers that differ.
use Rattle.std.proofs.Common.{◌≡◌, ℕ, zero, suc, ◌<◌, ◌≢◌, List, [], ◌∷◌, length, get_or, refl, sym, ap, ◌∙◌, arith}
use Rattle.std.specs.declared.cmp.Ordering.{Ordering}
use Rattle.std.specs.declared.cmp.Ordering.TheVariants.{Equal}
use Rattle.std.specs.Ordering.{nat_cmp, ordering_then}
use Rattle.std.specs.Cmp.Lexicographic.{slice_cmp}
use Rattle.ordered_set.proofs.Between.{equal, unequal}

pub all_equal : (a b : List ℕ) → length a ≡ length b → ((k : ℕ) → k < length a → get_or a k 0 ≡ get_or b k 0) → slice_cmp nat_cmp a b ≡ Equal
all_equal [] [] long each = refl
all_equal [] (y ∷ b) long each = absurd (omega arith)
all_equal (x ∷ a) [] long each = absurd (omega arith)
all_equal (x ∷ a) (y ∷ b) long each =
    let same : nat_cmp x y ≡ Equal = ap (nat_cmp x) (sym (each 0 (omega arith))) ∙ equal x in
    ap (λ (o : Ordering). ordering_then o (slice_cmp nat_cmp a b)) same ∙ all_equal a b (omega arith) (λ k lt. each (suc k) (omega arith))

pub first_unequal : (a b : List ℕ) (i : ℕ) → length a ≡ length b → i < length a → ((k : ℕ) → k < i → get_or a k 0 ≡ get_or b k 0) → get_or a i 0 ≢ get_or b i 0 →
    slice_cmp nat_cmp a b ≡ nat_cmp (get_or a i 0) (get_or b i 0)
first_unequal [] b i long lt each differ = absurd (omega arith)
first_unequal (x ∷ a) [] i long lt each differ = absurd (omega arith)
first_unequal (x ∷ a) (y ∷ b) zero long lt each differ = unequal x y (slice_cmp nat_cmp a b) differ
first_unequal (x ∷ a) (y ∷ b) (suc i) long lt each differ =
    let same : nat_cmp x y ≡ Equal = ap (nat_cmp x) (sym (each 0 (omega arith))) ∙ equal x in
    ap (λ (o : Ordering). ordering_then o (slice_cmp nat_cmp a b)) same ∙ first_unequal a b i (omega arith) (omega arith) (λ k less. each (suc k) (omega arith)) differ
