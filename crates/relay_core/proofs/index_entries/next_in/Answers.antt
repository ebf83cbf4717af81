use Rattle.std.proofs.Common.{List, ℕ, subst}
use Rattle.ordered_set.specs.Entries.{IsNext, IsLast}
use Rattle.relay_core.proofs.Searched.{found, past, ended, walked_some, walked_nothing}
use Rattle.relay_core.proofs.index_entries.next_in.Goals as goal

pub returns-in-None : goal.returns-in-None
returns-in-None c =
    let last = subst (λ (e : List ℕ). IsLast c.args.index.now e) c.entry.ensures c.in-None.ensures.last in
    let none = ended c.args.me c.args.acked.now c.args.facts.now c.args.index.now c.args.count c.args.group.now c.args.from c.requires c.ranges.count.fits last in
    record {
      first = walked_some c.args.me c.args.acked.now c.args.facts.now c.args.group.now c.args.from c.args.count c.later.result c.walk.result none c.later.ensures c.walk.ensures.first;
      none = walked_nothing c.args.me c.args.acked.now c.args.facts.now c.args.group.now c.args.from c.args.count c.later.result c.walk.result none c.later.ensures c.walk.ensures.none;
    }

pub returns-then-place-count-clause-first : goal.returns-then-place-count-clause-first
returns-then-place-count-clause-first c =
    let next = subst (λ (e : List ℕ). IsNext c.args.index.now e c.in-Some.place) c.entry.ensures c.in-Some.ensures.next in
    found c.args.me c.args.acked.now c.args.facts.now c.args.index.now c.args.count c.args.group.now c.args.from c.in-Some.place c.requires c.if-place-count.true next

pub returns-else-place-count-clause-first : goal.returns-else-place-count-clause-first
returns-else-place-count-clause-first c =
    let next = subst (λ (e : List ℕ). IsNext c.args.index.now e c.in-Some.place) c.entry.ensures c.in-Some.ensures.next in
    let none = past c.args.me c.args.acked.now c.args.facts.now c.args.index.now c.args.count c.args.group.now c.args.from c.in-Some.place c.requires c.if-place-count.false next in
    walked_some c.args.me c.args.acked.now c.args.facts.now c.args.group.now c.args.from c.args.count c.later-else-place-count.result c.walk-else-place-count.result none c.later-else-place-count.ensures c.walk-else-place-count.ensures.first

pub returns-else-place-count-clause-none : goal.returns-else-place-count-clause-none
returns-else-place-count-clause-none c =
    let next = subst (λ (e : List ℕ). IsNext c.args.index.now e c.in-Some.place) c.entry.ensures c.in-Some.ensures.next in
    let none = past c.args.me c.args.acked.now c.args.facts.now c.args.index.now c.args.count c.args.group.now c.args.from c.in-Some.place c.requires c.if-place-count.false next in
    walked_nothing c.args.me c.args.acked.now c.args.facts.now c.args.group.now c.args.from c.args.count c.later-else-place-count.result c.walk-else-place-count.result none c.later-else-place-count.ensures c.walk-else-place-count.ensures.none
