use Rattle.std.proofs.Common.{◌≡◌, ◌∙◌, ◌<◌, ◌++◌, ℕ, zero, suc, List, [], ◌∷◌, length, All, IfSome, Option, slice_get, Some, None, sym, ap, subst, arith}
use Rattle.std.specs.List.{AllByRecursion}
use Rattle.shared_objects.specs.declared.call.Call.{Call}
use Rattle.thread_tests.specs.declared.parts.Sum.{Sum}
use Rattle.shared_objects.specs.Asked.{IsTaken}
use Rattle.shared_objects.proofs.Zips.{item_at}
use Rattle.shared_objects.proofs.Opening.{each_at}
use Rattle.thread_tests.proofs.machines.block.Goals as goal

all_of : {X : Type 0} (P : X → Type 0) (xs : List X) → AllByRecursion P xs → All P xs
all_of P [] h k d lt = absurd (omega (arith, lt))
all_of P (x ∷ xs) h zero d lt = h.0
all_of P (x ∷ xs) h (suc k) d lt = all_of P xs h.1 k d (omega (arith, lt))

module _ (sums : List Sum) (two : length sums ≡ 2) where
  -- a call of a machine that is there
  abbrev Taken : Option (Call ℕ) → Type 0
  Taken entry = IfSome entry (IsTaken {M = Sum} {C = Unit {0}} (λ s. tt) (λ none request. Unit {0}) sums)

  taken : (m q : ℕ) → m < 2 → Taken (Some (record { machine = m; request = q }))
  taken m q h = let o = item_at sums m (omega (arith, two, h)) in (o.0, o.1, tt)

  first : All Taken (Some (record { machine = 0; request = 1 }) ∷ None ∷ Some (record { machine = 1; request = 20 }) ∷ [])
  first = all_of Taken (Some (record { machine = 0; request = 1 }) ∷ None ∷ Some (record { machine = 1; request = 20 }) ∷ []) (taken 0 1 (omega arith), (tt, (taken 1 20 (omega arith), tt)))

  second : All Taken (Some (record { machine = 1; request = 300 }) ∷ Some (record { machine = 0; request = 4 }) ∷ [])
  second = all_of Taken (Some (record { machine = 1; request = 300 }) ∷ Some (record { machine = 0; request = 4 }) ∷ []) (taken 1 300 (omega arith), (taken 0 4 (omega arith), tt))

pub returns-clause-taken : goal.returns-clause-taken
returns-clause-taken c w shift e =
    let two = c.in_ok-sums.ensures in
    let is : c.push-2.new.self.items ≡ c.in_ok-first_shift.field-0 ∷ c.in_ok-second_shift.field-0 ∷ [] =
    c.in_ok-push-2.ensures.items ∙ ap (λ (xs : List _). xs ++ c.in_ok-second_shift.field-0 ∷ []) (c.in_ok-push.ensures.items ∙ ap (λ (xs : List _). xs ++ c.in_ok-first_shift.field-0 ∷ []) c.new-shifts.ensures.items) in
    each_at (λ (s : _). All (Taken c.in_ok-sums.sums.items two) s.items) (c.in_ok-first_shift.field-0 ∷ c.in_ok-second_shift.field-0 ∷ []) w shift (
      subst (λ (entries : List _). All (Taken c.in_ok-sums.sums.items two) entries) (sym c.in_ok-first_shift.ensures) (first c.in_ok-sums.sums.items two),
      (subst (λ (entries : List _). All (Taken c.in_ok-sums.sums.items two) entries) (sym c.in_ok-second_shift.ensures) (second c.in_ok-sums.sums.items two), tt),
    )
    (subst (λ (xs : List _). slice_get xs w ≡ Some shift) is e)
