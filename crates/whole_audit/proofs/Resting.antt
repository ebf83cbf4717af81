-- How what lines still have to give changes with an item.
use Rattle.std.proofs.Common.{◌≡◌, ℕ, Bool, true, false, cond, eqb, eqb-true, List, [], ◌∷◌, Option, Some, refl, sym, ap, ◌∙◌, inl, inr}
use Rattle.std.specs.Prelude.{unwrap_or}
use Rattle.std.specs.Ordering.{nat_cmp}
use Rattle.std.specs.Cmp.Lexicographic.{slice_cmp}
use Rattle.std.specs.BTreeMap.{Updates}
use Rattle.std.proofs.lemmas.Map.Text.{is_eq-slice_cmp}
use Rattle.std.proofs.lemmas.Bool.{cases_Bool}
use Rattle.run_audit.specs.Table.{at}
use Rattle.run_audit.proofs.Keys.{and_true}
use Rattle.run_types.specs.declared.scenario.Scenario.{Scenario}
use Rattle.run_types.specs.declared.item.NumberedItem.{NumberedItem}
use Rattle.whole_audit.specs.declared.rests.Rest.{Rest}
use Rattle.whole_audit.specs.declared.rests.Rests.{Rests}
use Rattle.whole_audit.specs.Lines.{command_at}
use Rattle.whole_audit.specs.Rests.{asked_if, behind, rest_of}
use Rattle.whole_audit.specs.Kept.{rest_at, AreRests}

-- A table with one more rest has it at its line, and the earlier ones elsewhere.
pub rests_put : (old new : Rests) (number : ℕ) (rest : Rest) → Updates (slice_cmp nat_cmp) old.lines new.lines (number ∷ []) (Some rest) → (n : ℕ) (first : Rest) → rest_at new n first ≡ cond (eqb number n) rest (rest_at old n first)
rests_put old new number rest updates n first =
    ap (λ (o : Option Rest). unwrap_or o first) (updates.0 (n ∷ []) ∙ ap (λ (b : Bool). cond b (Some rest) (at old.lines (n ∷ []))) (is_eq-slice_cmp (number ∷ []) (n ∷ []) ∙ and_true (eqb number n)))
    ∙ inside (eqb number n) (at old.lines (n ∷ []))
  where
    inside : (b : Bool) (o : Option Rest) → unwrap_or (cond b (Some rest) o) first ≡ cond b rest (unwrap_or o first)
    inside true o = refl
    inside false o = refl

pub rests_more : (s : Scenario) (old new : Rests) (t : NumberedItem) (before : List NumberedItem) → AreRests s old before
    → (rest : Rest) → rest ≡ behind t.item (rest_of s t.number before) → ((n : ℕ) (first : Rest) → rest_at new n first ≡ cond (eqb t.number n) rest (rest_at old n first)) → AreRests s new (t ∷ before)
rests_more s old new t before h rest is put n = elim (cases_Bool (eqb t.number n)) [
  | inl same ↦
      put n (asked_if (command_at s n))
      ∙ ap (λ (b : Bool). cond b rest (rest_at old n (asked_if (command_at s n)))) same
      ∙ is
      ∙ ap (λ (k : ℕ). behind t.item (rest_of s k before)) (eqb-true t.number n same)
      ∙ sym (ap (λ (b : Bool). cond b (behind t.item (rest_of s n before)) (rest_of s n before)) same)
  | inr other ↦
      put n (asked_if (command_at s n))
      ∙ ap (λ (b : Bool). cond b rest (rest_at old n (asked_if (command_at s n)))) other
      ∙ h n
      ∙ sym (ap (λ (b : Bool). cond b (behind t.item (rest_of s n before)) (rest_of s n before)) other)
]
