-- Lists whose last item moves to the end of another list.
use Rattle.std.proofs.Common.{◌≡◌, ℕ, zero, suc, ◌+◌, ◌<◌, List, [], ◌∷◌, ◌++◌, map, reverse, length, get_or, refl, sym, ap, subst, ◌∙◌, arith, append_assoc, length-append}
use Rattle.std.specs.Prelude.{All}
use Rattle.std.proofs.lemmas.List.{reverse-append, map-append, get_or_append_left}
use Rattle.std.proofs.Math.Seq.{get_or-append_seam}
use Rattle.std.proofs.lemmas.List.Elements.{All-append}

-- When one more item moves, the images of the moved items, followed by the reverse of the others, stay the same list.
pub moved : {A B : Type 0} (f : A → B) (done : List A) (a : A) (b : B) (done' : List A) (left left' : List B) → done' ≡ done ++ a ∷ [] → f a ≡ b → left ≡ left' ++ b ∷ [] →
    map f done' ++ reverse left' ≡ map f done ++ reverse left
moved f done a b done' left left' more is less =
    ap (λ xs. map f xs ++ reverse left') more ∙ ap (λ xs. xs ++ reverse left') (map-append f done (a ∷ [])) ∙ append_assoc (map f done) (f a ∷ []) (reverse left')
    ∙ ap (λ x. map f done ++ x ∷ reverse left') is ∙ sym (ap (λ xs. map f done ++ xs) (ap reverse less ∙ reverse-append left' (b ∷ [])))

-- What holds of all items holds of all but the last.

pub all_but_last : {A : Type 0} (P : A → Type 0) (xs rest : List A) (x : A) → xs ≡ rest ++ x ∷ [] → All P xs → All P rest
all_but_last P xs rest x is all = λ k d lt.
    let within : k < length xs = subst (λ (ys : List _). k < length ys) (sym is) (subst (λ (n : ℕ). k < n) (sym (length-append rest (x ∷ []))) (omega (arith, lt))) in
    subst P (ap (λ ys. get_or ys k d) is ∙ get_or_append_left rest (x ∷ []) d k lt) (all k d within)

pub the_last : {A : Type 0} (P : A → Type 0) (xs rest : List A) (x : A) → xs ≡ rest ++ x ∷ [] → All P xs → P x
the_last P xs rest x is all =
    let within : length rest < length xs = subst (λ (ys : List _). length rest < length ys) (sym is) (subst (λ (n : ℕ). length rest < n) (sym (length-append rest (x ∷ []))) (omega arith)) in
    subst P (ap (λ ys. get_or ys (length rest) x) is ∙ get_or-append_seam rest x [] x) (all (length rest) x within)

single : {A : Type 0} (P : A → Type 0) (x : A) → P x → All P (x ∷ [])
single P x one zero d lt = one
single P x one (suc k) d lt = absurd (omega (arith, lt))

pub all_more : {A : Type 0} (P : A → Type 0) (xs more : List A) (x : A) → more ≡ xs ++ x ∷ [] → All P xs → P x → All P more
all_more P xs more x is all one = subst (All P) (sym is) (All-append P xs (x ∷ []) all (single P x one))
