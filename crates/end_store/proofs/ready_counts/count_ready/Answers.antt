use Rattle.std.proofs.Common.{arith}
use Rattle.end_store.proofs.Lines.{keys_bound}
use Rattle.end_store.proofs.Gathered.{counted_none, counted_all, counted_enough, counted_one}
use Rattle.end_store.proofs.ready_counts.count_ready.Goals as goal

pub loop-ready-init : goal.loop-ready-init
loop-ready-init c = counted_none c.args.known.now.me c.args.known.now.facts c.args.handed.now.pairs c.args.pool.now c.args.number

pub returns-in-None : goal.returns-in-None
returns-in-None c = counted_all c.args.known.now.me c.args.known.now.facts c.args.handed.now.pairs c.args.pool.now c.args.number c.loop-ready.after c.loop-ready.ready c.loop-ready.invariant c.in-None.ensures.last

pub loop-ready-smaller : goal.loop-ready-smaller
loop-ready-smaller c =
    let w = keys_bound c.args.known.now.me c.args.known.now.facts c.args.handed.now.pairs c.args.pool.now c.in-Some.count c.in-Some.ensures.next.waits in
    let b = c.in-Some.ensures.next.behind in
    omega arith

pub loop-ready-preserved : goal.loop-ready-preserved
loop-ready-preserved c =
    counted_one c.args.known.now.me c.args.known.now.facts c.args.handed.now.pairs c.args.pool.now c.args.number c.loop-ready.after c.in-Some.count c.loop-ready.ready c.loop-ready.invariant c.in-Some.ensures.next c.loop-ready-test.true

pub returns : goal.returns
returns c = counted_enough c.args.known.now.me c.args.known.now.facts c.args.handed.now.pairs c.args.pool.now c.args.number c.loop-ready.after c.loop-ready.ready c.loop-ready.invariant c.loop-ready-test.false
