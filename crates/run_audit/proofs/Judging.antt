-- The audit's loop over the items of a report: which items were judged so far.
use Rattle.std.proofs.Common.{◌≡◌, ℕ, zero, suc, ◌+◌, ◌-◌, ◌^◌, ◌<◌, ◌≤◌, min, Bool, true, false, List, [], ◌∷◌, length, get_or, drop, Option, Some, None, refl, sym, ap, ◌∙◌, subst, arith}
use Rattle.std.proofs.lemmas.List.{at_drop_more}
use Rattle.run_types.specs.declared.scenario.Scenario.{Scenario}
use Rattle.run_types.specs.declared.item.NumberedItem.{NumberedItem}
use Rattle.run_audit.specs.declared.verdict.Verdict.{Verdict}
use Rattle.run_audit.specs.declared.verdict.Verdict.TheVariants as verdicts
use Rattle.run_audit.specs.declared.record.Record.{Record}
use Rattle.run_audit.specs.Frames.{frames, places, how_many}
use Rattle.run_audit.specs.Tellings.{onto}
use Rattle.run_audit.specs.Rules.{broken, judged, verdict_from, verdict_of, deliveries, deliveries_in, ledgers, is_counted}
use Rattle.run_audit.specs.Kept.{IsRecordOf}
use Rattle.run_audit.proofs.Summing.{how_many-le, places-le, frames-le}

-- The record is that of the items before this place, and none of them breaks a rule.
pub record IsSoFar (s : Scenario) (r : Record) (items : List NumberedItem) (first place : ℕ) : Type 0 where
  pub before : List NumberedItem
  pub kept : IsRecordOf s r before
  pub count : length before ≡ place
  pub verdict : verdict_from s before (first + place) (drop place items) ≡ verdict_of s items first
  pub all : onto before (drop place items) ≡ onto [] items

pub none_judged : (s : Scenario) (r : Record) (items : List NumberedItem) (first : ℕ) → IsRecordOf s r [] → IsSoFar s r items first 0
unfolding verdict_of
none_judged s r items first kept = record {
  before = [];
  kept = kept;
  count = refl;
  verdict = let same : first + 0 ≡ first = omega arith in ap (λ (n : ℕ). verdict_from s [] n items) same;
  all = refl;
}

module _ (s : Scenario) (items : List NumberedItem) (first place : ℕ) (told : NumberedItem) (inside : place < length items) (is : told ≡ get_or items place told) where
  -- The items from this place on begin with this item.
  begins : {Y : Type 0} (F : List NumberedItem → Y) → F (drop place items) ≡ F (told ∷ drop (place + 1) items)
  begins F = at_drop_more F items place told inside ∙ ap (λ (t : NumberedItem). F (t ∷ drop (place + 1) items)) (sym is)

  pub breaks : (r : Record) (so_far : IsSoFar s r items first place) (rule : ℕ) → Some rule ≡ broken s so_far.before told → verdicts.No (first + place) rule ≡ verdict_of s items first
  breaks r so_far rule h =
      ap (λ (o : Option ℕ). judged (first + place) o (verdict_from s (told ∷ so_far.before) (first + place + 1) (drop (place + 1) items))) h
      ∙ sym (begins (verdict_from s so_far.before (first + place)))
      ∙ so_far.verdict

  pub goes_on : (r new : Record) (so_far : IsSoFar s r items first place) → None ≡ broken s so_far.before told → IsRecordOf s new (told ∷ so_far.before) → IsSoFar s new items first (place + 1)
  goes_on r new so_far h kept =
      let line : first + (place + 1) ≡ first + place + 1 = omega arith in
      record {
        before = told ∷ so_far.before;
        kept = kept;
        count = omega (arith, so_far.count);
        verdict =
            ap (λ (n : ℕ). verdict_from s (told ∷ so_far.before) n (drop (place + 1) items)) line
            ∙ ap (λ (o : Option ℕ). judged (first + place) o (verdict_from s (told ∷ so_far.before) (first + place + 1) (drop (place + 1) items))) h
            ∙ sym (begins (verdict_from s so_far.before (first + place)))
            ∙ so_far.verdict;
        all = sym (begins (onto so_far.before)) ∙ so_far.all;
      }

drop_end : (items : List NumberedItem) (k : ℕ) → length items ≤ k → drop k items ≡ []
drop_end [] zero h = refl
drop_end [] (suc k) h = refl
drop_end (y ∷ ys) zero h = absurd (omega arith)
drop_end (y ∷ ys) (suc k) h = drop_end ys k (omega arith)

-- Once all items are judged and none breaks a rule, the verdict is yes.
pub all_judged : (s : Scenario) (r : Record) (items : List NumberedItem) (first place : ℕ) → length items ≤ place → place ≤ length items → first + length items + deliveries_in s items < 2 ^ 32 → IsSoFar s r items first place
    → verdicts.Yes r.places.count r.told.deliveries r.ledgers ≡ verdict_of s items first
all_judged s r items first place ends within room so_far =
    let gone : drop place items ≡ [] = drop_end items place ends in
    let whole : so_far.before ≡ onto [] items = sym (ap (onto so_far.before) gone) ∙ so_far.all in
    let few : places (frames so_far.before) < 2 ^ 32 = omega (arith, places-le (frames so_far.before), frames-le so_far.before, so_far.count) in
    let counted : ledgers so_far.before < 2 ^ 32 = omega (arith, how_many-le (λ (t : NumberedItem). is_counted t.item) so_far.before, so_far.count) in
    let handed : deliveries s so_far.before < 2 ^ 32 = let e : deliveries s so_far.before ≡ deliveries_in s items = ap (deliveries s) whole in omega (arith, e) in
    let p : r.places.count ≡ places (frames so_far.before) = omega (arith, so_far.kept.placed.count) in
    let d : r.told.deliveries ≡ deliveries s so_far.before = omega (arith, so_far.kept.told.deliveries) in
    let l : r.ledgers ≡ ledgers so_far.before = omega (arith, so_far.kept.ledgers) in
    let say_yes : ℕ → ℕ → ℕ → Verdict = λ a b c. verdicts.Yes a b c in
    ap (λ (n : ℕ). say_yes n r.told.deliveries r.ledgers) p ∙ ap (λ (n : ℕ). say_yes (places (frames so_far.before)) n r.ledgers) d ∙ ap (λ (n : ℕ). say_yes (places (frames so_far.before)) (deliveries s so_far.before) n) l
    ∙ sym (ap (verdict_from s so_far.before (first + place)) gone)
    ∙ so_far.verdict
