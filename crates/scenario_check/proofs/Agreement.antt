-- What is said of a text agrees with the reader: the first refused line is the same.
use Rattle.std.proofs.Common.{◌≡◌, ℕ, ◌+◌, ◌-◌, Bool, true, false, ◌&&◌, ◌||◌, eqb, List, [], ◌∷◌, ◌++◌, length, Option, Some, None, refl}
use Rattle.std.specs.Prelude.{nat_lt, if◌then◌else◌}
use Rattle.std.specs.Str.Lines.{strip_carriage_return}
use Rattle.scenario_text.specs.declared.reading.Reading.{Reading}
use Rattle.scenario_text.specs.Line.{Step, Goes, Ends, line_at}
use Rattle.scenario_text.specs.Text.{Meaning, within, last_at, then_lines, parts_from}
use Rattle.scenario_check.specs.declared.refusal.Refusal.{Refusal}
use Rattle.scenario_check.specs.declared.refusal.Checked.{Checked}
use Rattle.scenario_check.specs.declared.refusal.Checked.TheVariants.{Refused}
use Rattle.scenario_check.specs.Reasons.{reason_for}
use Rattle.scenario_check.specs.Check.{refusal, last_checked, then_checked, checked_from, first_number}
use Rattle.scenario_check.specs.Laws.{Agrees}

-- ---- the first refused line stays the first

abbrev Keeps : Refusal → (List Refusal → Checked) → Type 0
Keeps x F = (xs : List Refusal) → first_number (F (x ∷ xs)) ≡ Some x.number

kept_if : (x : Refusal) (xs : List Refusal) (is_enough : Bool) (F : List Refusal → Checked) → Keeps x F → first_number (if is_enough then Refused (x ∷ xs) else F (x ∷ xs)) ≡ Some x.number
kept_if x xs true F keeps = refl
kept_if x xs false F keeps = keeps xs

kept_last : (n : ℕ) (r : Reading) (x : Refusal) (xs : List Refusal) (left : ℕ) (line : List ℕ) (step : Option Step) → first_number (last_checked n r (x ∷ xs) left line step) ≡ Some x.number
unfolding last_checked
kept_last n r x xs left line None = refl
kept_last n r x xs left line (Some Ends) = refl
kept_last n r x xs left line (Some (Goes now)) = refl

kept_then : (n : ℕ) (r : Reading) (x : Refusal) (xs : List Refusal) (left all : ℕ) (line next : List ℕ) (step : Option Step) (is_end : Bool) (F : Reading → List Refusal → Checked)
    → ((now : Reading) → Keeps x (F now)) → first_number (then_checked n r (x ∷ xs) left all line next step is_end F) ≡ Some x.number
unfolding then_checked
kept_then n r x xs left all line next None is_end F keeps =
    kept_if x (xs ++ refusal n line (reason_for r left all line) ∷ []) (nat_lt left all || eqb (length (x ∷ (xs ++ refusal n line (reason_for r left all line) ∷ []))) 10) (F r) (keeps r)
kept_then n r x xs left all line next (Some Ends) true F keeps = refl
kept_then n r x xs left all line next (Some Ends) false F keeps = refl
kept_then n r x xs left all line next (Some (Goes now)) is_end F keeps = keeps now xs

kept : (left n : ℕ) (r : Reading) (x : Refusal) (parts : List (List ℕ)) (xs : List Refusal) → first_number (checked_from left n r (x ∷ xs) parts) ≡ Some x.number
unfolding checked_from
kept left n r x [] xs = refl
kept left n r x (part ∷ []) xs = kept_last n r x xs left part (within left (length part) (length part) (line_at r n part))
kept left n r x (part ∷ next ∷ parts) xs =
    kept_then n r x xs left (length part + 1) (strip_carriage_return part) next
    (within left (length part + 1) (length (strip_carriage_return part)) (line_at r n (strip_carriage_return part))) (eqb (length next) 0 && eqb (length parts) 0)
    (λ now more. checked_from (left - (length part + 1)) (n + 1) now more (next ∷ parts))
    (λ now more. kept (left - (length part + 1)) (n + 1) now x (next ∷ parts) more)

-- ---- as long as none is refused, both read the same

agrees_last : (n : ℕ) (r : Reading) (left : ℕ) (line : List ℕ) (step : Option Step) → Agrees (last_at n r step) (last_checked n r [] left line step)
unfolding last_checked last_at
agrees_last n r left line None = refl
agrees_last n r left line (Some Ends) = (n, refl)
agrees_last n r left line (Some (Goes now)) = refl

agrees_then : (n : ℕ) (r : Reading) (left all : ℕ) (line next : List ℕ) (step : Option Step) (is_end : Bool) (M : Reading → Meaning) (F : Reading → List Refusal → Checked)
    → ((now : Reading) → Agrees (M now) (F now [])) → ((now : Reading) (x : Refusal) → Keeps x (F now))
    → Agrees (then_lines n r step is_end M) (then_checked n r [] left all line next step is_end F)
unfolding then_checked then_lines
agrees_then n r left all line next None is_end M F same keeps =
    kept_if (refusal n line (reason_for r left all line)) [] (nat_lt left all || eqb (length (refusal n line (reason_for r left all line) ∷ [])) 10) (F r) (keeps r (refusal n line (reason_for r left all line)))
agrees_then n r left all line next (Some Ends) true M F same keeps = (n, refl)
agrees_then n r left all line next (Some Ends) false M F same keeps = refl
agrees_then n r left all line next (Some (Goes now)) is_end M F same keeps = same now

pub agrees : (left n : ℕ) (r : Reading) (parts : List (List ℕ)) → Agrees (parts_from left n r parts) (checked_from left n r [] parts)
unfolding checked_from parts_from
agrees left n r [] = refl
agrees left n r (part ∷ []) = agrees_last n r left part (within left (length part) (length part) (line_at r n part))
agrees left n r (part ∷ next ∷ parts) =
    agrees_then n r left (length part + 1) (strip_carriage_return part) next
    (within left (length part + 1) (length (strip_carriage_return part)) (line_at r n (strip_carriage_return part))) (eqb (length next) 0 && eqb (length parts) 0)
    (λ now. parts_from (left - (length part + 1)) (n + 1) now (next ∷ parts))
    (λ now more. checked_from (left - (length part + 1)) (n + 1) now more (next ∷ parts))
    (λ now. agrees (left - (length part + 1)) (n + 1) now (next ∷ parts))
    (λ now x xs. kept (left - (length part + 1)) (n + 1) now x (next ∷ parts) xs)
