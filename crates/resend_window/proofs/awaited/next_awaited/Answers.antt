use Rattle.std.proofs.Common.{◌≡◌, ◌<◌, ◌^◌, List, ℕ, length, arith, subst}
use Rattle.ordered_set.specs.Entries.{IsNextIn, IsLastIn}
use Rattle.resend_window.specs.Slots.{passes}
use Rattle.resend_window.specs.Lists.{is_same}
use Rattle.resend_window.specs.Groups.{awaited_groups, awaited_group}
use Rattle.resend_window.proofs.Catalogues.{found, not_found}
use Rattle.resend_window.proofs.Grouped.{awaited_are}
use Rattle.resend_window.proofs.awaited.next_awaited.Goals as goal

pub returns-in-Some-clause-first : goal.returns-in-Some-clause-first
returns-in-Some-clause-first c =
    found awaited_groups (passes (is_same c.args.wanted.now)) (awaited_group c.args.wanted.now) c.args.awaiting.now c.args.index.now.entries c.args.from c.in-Some.place (awaited_are c.args.wanted.now) (c.requires c.if-not-index.false)
    (subst (λ (g : List ℕ). IsNextIn c.args.index.now.entries g c.args.from c.in-Some.place) c.group.ensures c.in-Some.ensures.next)

pub returns-in-None-clause-none : goal.returns-in-None-clause-none
returns-in-None-clause-none c =
    not_found awaited_groups (passes (is_same c.args.wanted.now)) (awaited_group c.args.wanted.now) c.args.awaiting.now c.args.index.now.entries c.args.from (awaited_are c.args.wanted.now) (c.requires c.if-not-index.false) (omega arith)
    (subst (λ (g : List ℕ). IsLastIn c.args.index.now.entries g c.args.from) c.group.ensures c.in-None.ensures.last)
