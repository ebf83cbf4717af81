-- A whole text: the scenario that it means can be run.
use Rattle.std.proofs.Common.{◌≡◌, ◌⊎◌, inl, inr, ℕ, ◌+◌, ◌-◌, ◌≤◌, Bool, true, false, List, [], ◌∷◌, length, take, Option, Some, None, Ok, refl, ap, subst, arith}
use Rattle.std.specs.Prelude.{◌==◌, ◌&&◌, ◌||◌, nat_lt}
use Rattle.std.specs.Result.{result_unwrap_or}
use Rattle.std.specs.Str.Lines.{strip_carriage_return}
use Rattle.std.proofs.lemmas.Bool.{or_parts, ltb-false}
use Rattle.run_types.specs.declared.scenario.Scenario.{Scenario}
use Rattle.scenario_text.specs.declared.reading.Reading.{Reading}
use Rattle.scenario_text.specs.Line.{Step, Goes, Ends, nothing_read, line_at}
use Rattle.scenario_text.specs.Text.{Meaning, scenario_in, text_limit, line_limit, within, last_at, then_lines, parts_from, parts_of, meaning_of}
use Rattle.run_ops.specs.Runnable.{IsRunnable}
use Rattle.law_run.proofs.FitGiven.{excluded}
use Rattle.law_run.proofs.FitLines.{IsRead, nothing_is_read, line_read}

same_ok : (x y : Scenario) → ◌≡◌ {A = Meaning} (Ok x) (Ok y) → x ≡ y
same_ok x y e = ap (λ (m : Meaning). result_unwrap_or m x) e

last_gives : (n : ℕ) (r : Reading) (o : Option Step) (s : Scenario) → last_at n r o ≡ Ok s → scenario_in r ≡ s
unfolding last_at
last_gives n r None s e = absurd cc
last_gives n r (Some Ends) s e = same_ok (scenario_in r) s e
last_gives n r (Some (Goes now)) s e = absurd cc

-- Either this was the last line, or the lines after it determine the scenario.
then_gives : (n : ℕ) (r : Reading) (o : Option Step) (at_end : Bool) (follows : Reading → Meaning) (s : Scenario) → then_lines n r o at_end follows ≡ Ok s →
    (scenario_in r ≡ s) ⊎ ((now : Reading) × (o ≡ Some (Goes now)) × (follows now ≡ Ok s))
unfolding then_lines
then_gives n r None at_end follows s e = absurd cc
then_gives n r (Some Ends) true follows s e = inl (same_ok (scenario_in r) s e)
then_gives n r (Some Ends) false follows s e = absurd cc
then_gives n r (Some (Goes now)) at_end follows s e = inr (now, refl, e)

in_room : {X : Type 0} (left all own : ℕ) (means : Option X) (x : X) → within left all own means ≡ Some x → (all ≤ left) × (means ≡ Some x)
unfolding within
in_room left all own means x e =
    let kept = excluded (nat_lt left all || nat_lt line_limit own) means x e in
    (ltb-false left all (or_parts (nat_lt left all) (nat_lt line_limit own) kept.0).0, kept.1)

runnable : (n : ℕ) (r : Reading) (s : Scenario) → IsRead n r → n ≤ text_limit → scenario_in r ≡ s → IsRunnable s
runnable n r s h few is =
    let arms = h.arms in
    subst IsRunnable is (record { site = h.site; nodes = h.nodes; entries = h.entries; arms = omega (arith, arms, few) })

parts_run : (left n lines : ℕ) (r : Reading) (parts : List (List ℕ)) (s : Scenario) → IsRead lines r → lines + left ≤ text_limit → parts_from left n r parts ≡ Ok s → IsRunnable s
unfolding parts_from
parts_run left n lines r [] s h room e = absurd cc
parts_run left n lines r (part ∷ []) s h room e = runnable lines r s h (omega (arith, room)) (last_gives n r _ s e)
parts_run left n lines r (part ∷ next ∷ parts) s h room e =
    elim (then_gives n r _ (length next == 0 && length parts == 0) _ s e) [
      | inl last ↦ runnable lines r s h (omega (arith, room)) last
      | inr more ↦
          let line = in_room left (length part + 1) (length (strip_carriage_return part)) (line_at r n (strip_carriage_return part)) (Goes more.0) more.1 in
          let taken = line.0 in
          parts_run (left - (length part + 1)) (n + 1) (lines + 1) more.0 (next ∷ parts) s (line_read lines r n (strip_carriage_return part) more.0 h line.1) (omega (arith, room, taken)) more.2
    ]

pub read_is_runnable : (bytes : List ℕ) (s : Scenario) → meaning_of bytes ≡ Ok s → IsRunnable s
read_is_runnable bytes s e = parts_run text_limit 1 0 nothing_read (parts_of (take (text_limit + 1) bytes)) s nothing_is_read (omega arith) e
