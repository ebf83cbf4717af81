use Rattle.std.proofs.Common.{◌≡◌, true, sym, ap, ◌∙◌}
use Rattle.std.specs.Ordering.{is_gt, nat_cmp}
use Rattle.std.specs.Cmp.Lexicographic.{slice_cmp}
use Rattle.ordered_set.proofs.Between.{none_up_to}
use Rattle.ordered_set.proofs.entries.first_in.Goals as goal

pub returns-then-is_gt-clause-none : goal.returns-then-is_gt-clause-none
returns-then-is_gt-clause-none c =
    let past : is_gt (slice_cmp nat_cmp c.in-Some.entry.now c.args.to) ≡ true = sym (ap is_gt c.cmp.ensures) ∙ sym c.is_gt.ensures ∙ c.if-is_gt.true in
    none_up_to c.args.entries.now c.args.from c.args.to c.in-Some.entry.now c.in-Some.ensures.some past
