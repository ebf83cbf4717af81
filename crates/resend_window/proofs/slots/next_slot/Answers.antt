use Rattle.std.proofs.Common.{◌≡◌, ◌<◌, ◌^◌, List, ℕ, length, arith, subst}
use Rattle.ordered_set.specs.Entries.{IsNextIn, IsLastIn}
use Rattle.resend_window.specs.Slots.{passes, is_asked}
use Rattle.resend_window.specs.Groups.{held_groups, query_group}
use Rattle.resend_window.proofs.Catalogues.{found, not_found}
use Rattle.resend_window.proofs.Grouped.{held_are}
use Rattle.resend_window.proofs.slots.next_slot.Goals as goal

pub returns-in-Some-clause-first : goal.returns-in-Some-clause-first
returns-in-Some-clause-first c =
    found held_groups (passes (is_asked c.args.query.now)) (query_group c.args.query.now) c.args.slots.now c.args.index.now.entries c.args.from c.in-Some.place (held_are c.args.query.now) (c.requires c.if-not-index.false)
    (subst (λ (g : List ℕ). IsNextIn c.args.index.now.entries g c.args.from c.in-Some.place) c.group.ensures c.in-Some.ensures.next)

pub returns-in-None-clause-none : goal.returns-in-None-clause-none
returns-in-None-clause-none c =
    not_found held_groups (passes (is_asked c.args.query.now)) (query_group c.args.query.now) c.args.slots.now c.args.index.now.entries c.args.from (held_are c.args.query.now) (c.requires c.if-not-index.false) (omega arith)
    (subst (λ (g : List ℕ). IsLastIn c.args.index.now.entries g c.args.from) c.group.ensures c.in-None.ensures.last)
