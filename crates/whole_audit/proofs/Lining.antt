-- How the table of a scenario's lines is filled, entry by entry.
use Rattle.std.proofs.Common.{◌≡◌, ℕ, ◌+◌, ◌<◌, List, ◌∷◌, ◌++◌, length, get_or, drop, Option, sym, ap, ◌∙◌}
use Rattle.std.proofs.lemmas.List.{append_assoc, at_drop_more}
use Rattle.run_types.specs.declared.line.Line.{Line}

-- Each step moves lines into the table. The table together with the lines still to be added gives the same lines as before.
pub one_more : {A : Type 0} (F : List A → List Line) (put : List Line) (new old first : ℕ → List Line → Option Line) (xs : List A) (i : ℕ) (x d : A) → i < length xs → x ≡ get_or xs i d → ((ys : List A) → F (x ∷ ys) ≡ put ++ F ys)
    → ((number : ℕ) (behind : List Line) → new number behind ≡ old number (put ++ behind)) → ((number : ℕ) (behind : List Line) → old number (F (drop i xs) ++ behind) ≡ first number (F xs ++ behind))
    → (number : ℕ) (behind : List Line) → new number (F (drop (i + 1) xs) ++ behind) ≡ first number (F xs ++ behind)
one_more {A} F put new old first xs i x d lt is puts add so_far number behind =
    let rest : List A = drop (i + 1) xs in
    let begins : F (drop i xs) ≡ put ++ F rest = at_drop_more F xs i d lt ∙ ap (λ (y : A). F (y ∷ rest)) (sym is) ∙ puts rest in
    add number (F rest ++ behind)
    ∙ ap (old number) (sym (append_assoc put (F rest) behind))
    ∙ ap (λ (ys : List Line). old number (ys ++ behind)) (sym begins)
    ∙ so_far number behind
