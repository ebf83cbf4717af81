-- A list that is cut into pieces.
use Rattle.std.proofs.Common.{◌≡◌, ℕ, suc, ◌+◌, ◌≤◌, List, [], ◌∷◌, ◌++◌, length, take, drop, sum, refl, ap, ap₂, ◌∙◌, arith, length-drop, take_all}
use Rattle.std.proofs.lemmas.List.{take-append-le, drop-append-le}
use Rattle.std.proofs.lemmas.List.Sums.{sum_by-cons, sum_by_push}
use Rattle.edge_io.specs.Writes.{cut}

-- cutting a list gives as many pieces as there are lengths
pub length_cut : (ns bs : List ℕ) → length (cut ns bs) ≡ length ns
length_cut [] bs = refl
length_cut (n ∷ ns) bs = ap suc (length_cut ns (drop n bs))

-- appending a piece to a list appends it to the list of the pieces
pub cut_more : (ns bs more : List ℕ) (n : ℕ) → sum ns ≡ length bs → n ≡ length more → cut (ns ++ n ∷ []) (bs ++ more) ≡ cut ns bs ++ more ∷ []
cut_more [] [] more n whole size = ap (λ (x : List ℕ). x ∷ []) (take_all n more (omega arith))
cut_more [] (b ∷ bs) more n whole size = absurd (omega arith)
cut_more (k ∷ ks) bs more n whole size =
    let parts : sum (k ∷ ks) ≡ k + sum ks = sum_by-cons (λ (x : ℕ). x) k ks in
    let le : k ≤ length bs = omega arith in
    let rest = cut_more ks (drop k bs) more n (omega (arith, length-drop k bs)) size in
    ap₂ (λ (x : List ℕ) (xs : List (List ℕ)). x ∷ xs) (take-append-le k bs more le) (ap (cut (ks ++ n ∷ [])) (drop-append-le k bs more le) ∙ rest)

-- appending a length adds it to the sum of the lengths
pub sum_more : (ns : List ℕ) (n : ℕ) → sum (ns ++ n ∷ []) ≡ sum ns + n
sum_more ns n = sum_by_push (λ (x : ℕ). x) ns n
