use Rattle.std.proofs.Common.{◌≡◌, ◌<◌, ◌^◌, List, ℕ, length, arith, subst}
use Rattle.ordered_set.specs.Entries.{IsNextIn, IsLastIn}
use Rattle.resend_window.specs.Slots.{passes}
use Rattle.resend_window.specs.Lists.{is_from}
use Rattle.resend_window.specs.Groups.{arrival_groups, arrivals_group}
use Rattle.resend_window.proofs.Catalogues.{found, not_found}
use Rattle.resend_window.proofs.Grouped.{arrival_are}
use Rattle.resend_window.proofs.arrival.next_arrival.Goals as goal

pub returns-in-Some-clause-first : goal.returns-in-Some-clause-first
returns-in-Some-clause-first c =
    found arrival_groups (passes (is_from c.args.wanted.now)) (arrivals_group c.args.wanted.now) c.args.pending.now c.args.index.now.entries c.args.from c.in-Some.place (arrival_are c.args.wanted.now) (c.requires c.if-not-index.false)
    (subst (λ (g : List ℕ). IsNextIn c.args.index.now.entries g c.args.from c.in-Some.place) c.group.ensures c.in-Some.ensures.next)

pub returns-in-None-clause-none : goal.returns-in-None-clause-none
returns-in-None-clause-none c =
    not_found arrival_groups (passes (is_from c.args.wanted.now)) (arrivals_group c.args.wanted.now) c.args.pending.now c.args.index.now.entries c.args.from (arrival_are c.args.wanted.now) (c.requires c.if-not-index.false) (omega arith)
    (subst (λ (g : List ℕ). IsLastIn c.args.index.now.entries g c.args.from) c.group.ensures c.in-None.ensures.last)
