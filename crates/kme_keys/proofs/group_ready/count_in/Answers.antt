use Rattle.std.proofs.Common.{arith}
use Rattle.net_model.specs.Decision.{last_count}
use Rattle.end_store.specs.Pooled.{ends_view}
use Rattle.kme_keys.specs.Candidates.{is_candidate}
use Rattle.kme_keys.proofs.Searched.{counted_none, counted_all, counted_enough, counted_one, counted_other, none_more, next_waits}
use Rattle.kme_keys.proofs.group_ready.count_in.Goals as goal

pub loop-found-init : goal.loop-found-init
loop-found-init c =
    let p = c.args.pool.now in
    let e = c.args.store.now in
    counted_none (is_candidate (ends_view e) p.master p.slaves.now p.bits c.args.ready) e.known.me (last_count e.known.me e.known.facts) c.args.number

pub returns-in-None : goal.returns-in-None
returns-in-None c =
    let p = c.args.pool.now in
    let e = c.args.store.now in
    counted_all (is_candidate (ends_view e) p.master p.slaves.now p.bits c.args.ready) e.known.me (last_count e.known.me e.known.facts) c.args.number c.loop-found.after c.loop-found.found c.loop-found.invariant
    (none_more (ends_view e) p.master p.slaves.now p.bits c.args.ready c.args.parts.now c.requires c.loop-found.after c.in-None.ensures.last)

pub candidate_at-requires-clause-within : goal.candidate_at-requires-clause-within
candidate_at-requires-clause-within c =
    let p = c.args.pool.now in
    let next = next_waits (ends_view c.args.store.now) p.master p.slaves.now p.bits c.args.ready c.args.parts.now c.requires c.loop-found.after c.in-Some.count c.in-Some.ensures.next in
    next.bound

pub loop-found-smaller-in-None-candidate_at : goal.loop-found-smaller-in-None-candidate_at
loop-found-smaller-in-None-candidate_at c =
    let p = c.args.pool.now in
    let next = next_waits (ends_view c.args.store.now) p.master p.slaves.now p.bits c.args.ready c.args.parts.now c.requires c.loop-found.after c.in-Some.count c.in-Some.ensures.next in
    let b = next.bound in
    let a = next.behind in
    omega arith

pub loop-found-preserved-in-None-candidate_at : goal.loop-found-preserved-in-None-candidate_at
loop-found-preserved-in-None-candidate_at c =
    let p = c.args.pool.now in
    let e = c.args.store.now in
    let next = next_waits (ends_view e) p.master p.slaves.now p.bits c.args.ready c.args.parts.now c.requires c.loop-found.after c.in-Some.count c.in-Some.ensures.next in
    counted_other (is_candidate (ends_view e) p.master p.slaves.now p.bits c.args.ready) e.known.me (last_count e.known.me e.known.facts) c.args.number c.loop-found.after c.in-Some.count c.loop-found.found c.loop-found.invariant
    next c.in-None-candidate_at.ensures.none

pub loop-found-smaller : goal.loop-found-smaller
loop-found-smaller c =
    let p = c.args.pool.now in
    let next = next_waits (ends_view c.args.store.now) p.master p.slaves.now p.bits c.args.ready c.args.parts.now c.requires c.loop-found.after c.in-Some.count c.in-Some.ensures.next in
    let b = next.bound in
    let a = next.behind in
    omega arith

pub loop-found-preserved : goal.loop-found-preserved
loop-found-preserved c =
    let p = c.args.pool.now in
    let e = c.args.store.now in
    let next = next_waits (ends_view e) p.master p.slaves.now p.bits c.args.ready c.args.parts.now c.requires c.loop-found.after c.in-Some.count c.in-Some.ensures.next in
    counted_one (is_candidate (ends_view e) p.master p.slaves.now p.bits c.args.ready) e.known.me (last_count e.known.me e.known.facts) c.args.number c.loop-found.after c.in-Some.count c.loop-found.found c.loop-found.invariant
    next c.loop-found-test.true c.in-Some-candidate_at.ensures.some.1

pub returns : goal.returns
returns c =
    let p = c.args.pool.now in
    let e = c.args.store.now in
    counted_enough (is_candidate (ends_view e) p.master p.slaves.now p.bits c.args.ready) e.known.me (last_count e.known.me e.known.facts) c.args.number c.loop-found.after c.loop-found.found c.loop-found.invariant c.loop-found-test.false
