use Rattle.std.proofs.Common.{[], ◌∷◌, ◌++◌, subst, ap, ◌∙◌, arith, sym, true}
use Rattle.qkd_base.specs.Name.{Name}
use Rattle.net_model.specs.Decision.{last_count}
use Rattle.end_store.specs.Pooled.{ends_view}
use Rattle.kme_keys.specs.Candidates.{is_candidate}
use Rattle.kme_keys.proofs.Searched.{HasFirst, found_all, found_enough, found_one, found_other, none_more, next_waits}
use Rattle.kme_keys.proofs.group_ready.first_in.Goals as goal

pub returns-in-None : goal.returns-in-None
returns-in-None c =
    let p = c.args.pool.now in
    let e = c.args.store.now in
    found_all (is_candidate (ends_view e) p.master p.slaves.now p.bits true) e.known.me (last_count e.known.me e.known.facts) c.args.number c.names.after c.names.names.items c.names.invariant
    (none_more (ends_view e) p.master p.slaves.now p.bits true c.args.parts.now c.requires c.names.after c.in-None.ensures.last)

pub candidate_at-requires-clause-within : goal.candidate_at-requires-clause-within
candidate_at-requires-clause-within c =
    let p = c.args.pool.now in
    let next = next_waits (ends_view c.args.store.now) p.master p.slaves.now p.bits true c.args.parts.now c.requires c.names.after c.in-Some.count c.in-Some.ensures.next in
    next.bound

pub names-smaller-in-None-candidate_at : goal.names-smaller-in-None-candidate_at
names-smaller-in-None-candidate_at c =
    let p = c.args.pool.now in
    let next = next_waits (ends_view c.args.store.now) p.master p.slaves.now p.bits true c.args.parts.now c.requires c.names.after c.in-Some.count c.in-Some.ensures.next in
    let b = next.bound in
    let a = next.behind in
    omega arith

pub names-preserved-in-None-candidate_at : goal.names-preserved-in-None-candidate_at
names-preserved-in-None-candidate_at c =
    let p = c.args.pool.now in
    let e = c.args.store.now in
    let next = next_waits (ends_view e) p.master p.slaves.now p.bits true c.args.parts.now c.requires c.names.after c.in-Some.count c.in-Some.ensures.next in
    found_other (is_candidate (ends_view e) p.master p.slaves.now p.bits true) e.known.me (last_count e.known.me e.known.facts) c.args.number c.names.after c.in-Some.count c.names.names.items c.names.invariant
    next c.in-None-candidate_at.ensures.none

pub names-smaller : goal.names-smaller
names-smaller c =
    let p = c.args.pool.now in
    let next = next_waits (ends_view c.args.store.now) p.master p.slaves.now p.bits true c.args.parts.now c.requires c.names.after c.in-Some.count c.in-Some.ensures.next in
    let b = next.bound in
    let a = next.behind in
    omega arith

pub names-preserved : goal.names-preserved
names-preserved c =
    let p = c.args.pool.now in
    let e = c.args.store.now in
    let next = next_waits (ends_view e) p.master p.slaves.now p.bits true c.args.parts.now c.requires c.names.after c.in-Some.count c.in-Some.ensures.next in
    subst (HasFirst (is_candidate (ends_view e) p.master p.slaves.now p.bits true) e.known.me (last_count e.known.me e.known.facts) c.args.number c.in-Some.count)
    (ap (λ (n : Name). c.names.names.items ++ n ∷ []) (sym c.in-Some-candidate_at.ensures.some.0) ∙ sym c.in_ok-push-in-Some-candidate_at.ensures.items)
    (found_one (is_candidate (ends_view e) p.master p.slaves.now p.bits true) e.known.me (last_count e.known.me e.known.facts) c.args.number c.names.after c.in-Some.count c.names.names.items c.names.invariant
    next (omega arith) c.in-Some-candidate_at.ensures.some.1)

pub returns : goal.returns
returns c =
    let p = c.args.pool.now in
    let e = c.args.store.now in
    found_enough (is_candidate (ends_view e) p.master p.slaves.now p.bits true) e.known.me (last_count e.known.me e.known.facts) c.args.number c.names.after c.names.names.items c.names.invariant (omega arith)
