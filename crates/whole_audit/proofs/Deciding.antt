-- The loop over the items of a report: which items were judged so far, and the least rule that one breaks.
use Rattle.std.proofs.Common.{◌≡◌, ℕ, zero, suc, ◌+◌, ◌<◌, ◌≤◌, Bool, true, false, not, ◌&&◌, cond, List, [], ◌∷◌, length, get_or, drop, Option, Some, None, refl, sym, ap, ◌∙◌, arith}
use Rattle.std.proofs.lemmas.List.{at_drop_more}
use Rattle.run_types.specs.declared.scenario.Scenario.{Scenario}
use Rattle.run_types.specs.declared.item.NumberedItem.{NumberedItem}
use Rattle.whole_audit.specs.declared.judge.Judge.{Judge}
use Rattle.whole_audit.specs.Order.{may_end}
use Rattle.whole_audit.specs.declared.findings.Findings.{Findings}
use Rattle.whole_audit.specs.Whole.{least_of, broken, first_of, break_from, break_of}
use Rattle.whole_audit.specs.Kept.{IsJudgeOf}

pub none_stands : (f : Findings) → least_of f ≡ None → f.order ≡ true
none_stands f none = by f.order refl
  where
    by : (b : Bool) → f.order ≡ b → f.order ≡ true
    by true e = e
    by false e = absurd (let broken : Some 7 ≡ None = sym (ap (λ (c : Bool). cond (not (c && f.gives && f.turns && f.asked.parts)) (Some 7) (least_of (record f { order = true; gives = true; turns = true; asked = record (f.asked) { parts = true } }))) e) ∙ none in cc)

-- ---- the loop

-- The judge is that of the items before this place, and none of them breaks a rule.
pub record IsSoFar (s : Scenario) (j : Judge) (items : List NumberedItem) (place : ℕ) : Type 0 where
  pub before : List NumberedItem
  pub judge : IsJudgeOf s j before
  pub judged : break_from s before place (drop place items) ≡ break_of s items

pub none_judged : (s : Scenario) (j : Judge) (items : List NumberedItem) → IsJudgeOf s j [] → IsSoFar s j items 0
unfolding break_of
none_judged s j items judge = record { before = []; judge = judge; judged = refl }

module _ (s : Scenario) (items : List NumberedItem) (place : ℕ) (told : NumberedItem) (inside : place < length items) (is : told ≡ get_or items place told) where
  begins : (before : List NumberedItem) → break_from s before place (drop place items) ≡ break_from s before place (told ∷ drop (place + 1) items)
  begins before = at_drop_more (break_from s before place) items place told inside ∙ ap (λ (t : NumberedItem). break_from s before place (t ∷ drop (place + 1) items)) (sym is)

  abbrev behind : (before : List NumberedItem) → Option (ℕ × ℕ)
  behind before = break_from s (told ∷ before) (place + 1) (drop (place + 1) items)

  pub breaks : (j : Judge) (so_far : IsSoFar s j items place) (rule : ℕ) → Some rule ≡ broken s so_far.before told → Some (place, rule) ≡ break_of s items
  breaks j so_far rule h = ap (λ (o : Option ℕ). first_of place o (behind so_far.before)) h ∙ sym (begins so_far.before) ∙ so_far.judged

  pub goes_on : (j new : Judge) (so_far : IsSoFar s j items place) → None ≡ broken s so_far.before told → IsJudgeOf s new (told ∷ so_far.before) → IsSoFar s new items (place + 1)
  goes_on j new so_far h judge = record {
    before = told ∷ so_far.before;
    judge = judge;
    judged = ap (λ (o : Option ℕ). first_of place o (behind so_far.before)) h ∙ sym (begins so_far.before) ∙ so_far.judged;
  }

drop_end : (items : List NumberedItem) (k : ℕ) → length items ≤ k → drop k items ≡ []
drop_end [] zero h = refl
drop_end [] (suc k) h = refl
drop_end (y ∷ ys) zero h = absurd (omega arith)
drop_end (y ∷ ys) (suc k) h = drop_end ys k (omega arith)

module _ (s : Scenario) (j : Judge) (items : List NumberedItem) (place : ℕ) (ends : length items ≤ place) (within : place ≤ length items) (so_far : IsSoFar s j items place) where
  at_end : cond (may_end s so_far.before) None (Some (place, 7)) ≡ break_of s items
  at_end = sym (ap (break_from s so_far.before place) (drop_end items place ends)) ∙ so_far.judged

  pub ends_well : may_end s so_far.before ≡ true → None ≡ break_of s items
  ends_well h = sym (ap (λ (b : Bool). cond b None (Some (place, 7))) h) ∙ at_end

  pub ends_early : may_end s so_far.before ≡ false → Some (length items, 7) ≡ break_of s items
  ends_early h =
      let same : length items ≡ place = omega (arith, ends, within) in
      ap (λ (n : ℕ). Some (n, 7)) same ∙ sym (ap (λ (b : Bool). cond b None (Some (place, 7))) h) ∙ at_end
