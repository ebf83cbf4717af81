use Rattle.std.proofs.Common.{◌≡◌, ℕ, ◌≤◌, true, sym, ◌∙◌, arith}
use Rattle.std.specs.Prelude.{nat_le}
use Rattle.std.proofs.lemmas.Bool.Decides.{nat_tests}
use Rattle.resend_window.specs.Groups.{offset_group}
use Rattle.resend_window.proofs.due_set.DueSet.next.Goals as goal

le_from : (a b : ℕ) → nat_le a b ≡ true → a ≤ b
le_from a b h = grind (arith, nat_tests)

le_true : (a b : ℕ) → a ≤ b → nat_le a b ≡ true
le_true a b h = grind (arith, nat_tests)

pub returns-in-Some-next-clause-next : goal.returns-in-Some-next-clause-next
returns-in-Some-next-clause-next c =
    let above = c.in-Some.ensures.some in
    let next = c.in-Some-next.ensures.next (offset_group 0 c.args.lane.now 0) c.in-Some.from c.entry.ensures in
    record {
      above = above c.in-Some-next.offset ∙ le_true c.in-Some.from c.in-Some-next.offset next.behind;
      there = next.there;
      first = λ y up lt. next.first y (le_from c.in-Some.from y (sym (above y) ∙ up)) lt;
    }

pub returns-in-None-next-clause-last : goal.returns-in-None-next-clause-last
returns-in-None-next-clause-last c =
    let above = c.in-Some.ensures.some in
    let last = c.in-None-next.ensures.last (offset_group 0 c.args.lane.now 0) c.in-Some.from c.entry.ensures in
    λ y up small. last y (le_from c.in-Some.from y (sym (above y) ∙ up)) small
