-- How the table of a scenario's lines is filled, entry by entry.
use Rattle.std.proofs.Common.{◌≡◌, ℕ, zero, suc, ◌+◌, ◌<◌, ◌≤◌, Bool, true, false, cond, eqb, List, [], ◌∷◌, ◌++◌, length, get_or, map, drop, Option, Some, None, refl, sym, ap, ◌∙◌, subst, arith, inl, inr}
use Rattle.std.proofs.lemmas.List.{append_assoc, append-nil, at_drop_more, at_drop_all}
use Rattle.std.proofs.lemmas.Bool.{cases_Bool}
use Rattle.std.specs.Map.{lookup}
use Rattle.run_audit.specs.declared.line_kind.LineKind.{LineKind}
use Rattle.run_audit.specs.Kept.{found_or}

abbrev pub Lined : Type 0
Lined = List (ℕ × LineKind)

-- Each step moves lines into the table. The table together with the lines still to be added gives the same kinds as before.
pub one_more : {A : Type 0} (F : List A → Lined) (put : Lined) (new old first : ℕ → Lined → Option LineKind) (xs : List A) (i : ℕ) (x d : A) → i < length xs → x ≡ get_or xs i d → ((ys : List A) → F (x ∷ ys) ≡ put ++ F ys)
    → ((number : ℕ) (behind : Lined) → new number behind ≡ old number (put ++ behind)) → ((number : ℕ) (behind : Lined) → old number (F (drop i xs) ++ behind) ≡ first number (F xs ++ behind))
    → (number : ℕ) (behind : Lined) → new number (F (drop (i + 1) xs) ++ behind) ≡ first number (F xs ++ behind)
one_more {A} F put new old first xs i x d lt is puts add so_far number behind =
    let rest : List A = drop (i + 1) xs in
    let begins : F (drop i xs) ≡ put ++ F rest = at_drop_more F xs i d lt ∙ ap (λ (y : A). F (y ∷ rest)) (sym is) ∙ puts rest in
    add number (F rest ++ behind)
    ∙ ap (old number) (sym (append_assoc put (F rest) behind))
    ∙ ap (λ (ys : Lined). old number (ys ++ behind)) (sym begins)
    ∙ so_far number behind

pub all_done : {A : Type 0} (F : List A → Lined) (old first : ℕ → Lined → Option LineKind) (xs : List A) (i : ℕ) → length xs ≤ i → F [] ≡ [] → ((number : ℕ) (behind : Lined) → old number (F (drop i xs) ++ behind) ≡ first number (F xs ++ behind))
    → (number : ℕ) (behind : Lined) → old number behind ≡ first number (F xs ++ behind)
all_done {A} F old first xs i le none so_far number behind =
    ap (λ (ls : Lined). old number (ls ++ behind)) (sym (ap F (drop_end xs i le) ∙ none)) ∙ so_far number behind
  where
    drop_end : (ys : List A) (k : ℕ) → length ys ≤ k → drop k ys ≡ []
    drop_end [] zero h = refl
    drop_end [] (suc k) h = refl
    drop_end (y ∷ ys) zero h = absurd (omega arith)
    drop_end (y ∷ ys) (suc k) h = drop_end ys k (omega arith)

-- A line is added to a table without its number. It is then found as if it stood first among the lines still to be added.
pub put_behind : (o new : Option LineKind) (number q : ℕ) (kind : LineKind) (behind : Lined) → new ≡ cond (eqb number q) (Some kind) o → o ≡ None → found_or new q behind ≡ found_or o q ((number, kind) ∷ behind)
put_behind o new number q kind behind e none = elim (cases_Bool (eqb number q)) [
  | inl holds ↦ rw (e, none, holds) refl
  | inr other ↦ rw (e, none, other) refl
]

pub found_none : (o : Option LineKind) (q : ℕ) → found_or o q [] ≡ o
found_none None q = refl
found_none (Some kind) q = refl

-- An empty table to which the lines of two lists were added has the first line of each number.
pub both_put : (k0 k1 k2 : Option LineKind) (q : ℕ) (front back : Lined) → k0 ≡ None → ((behind : Lined) → found_or k1 q behind ≡ found_or k0 q (front ++ behind)) → ((behind : Lined) → found_or k2 q behind ≡ found_or k1 q (back ++ behind))
    → k2 ≡ lookup (λ n. eqb n q) (front ++ back)
both_put k0 k1 k2 q front back none one two =
    sym (found_none k2 q) ∙ two [] ∙ ap (found_or k1 q) (append-nil back) ∙ one back ∙ ap (λ (o : Option LineKind). found_or o q (front ++ back)) none
