use Rattle.std.proofs.Common.{◌≡◌, length, arith}
use Rattle.relay_core.proofs.Firsts.{get_within}
use Rattle.end_store.proofs.Counted.{stock_none, stock_all, stock_enough, stock_one, stock_place}
use Rattle.end_store.proofs.stock_counts.count_stock.Goals as goal

pub loop-count-init : goal.loop-count-init
loop-count-init c = stock_none c.args.known.now.me c.args.known.now.facts c.args.handed.now.pairs c.args.pool.now c.args.number

pub returns-in-None : goal.returns-in-None
returns-in-None c = stock_all c.args.known.now.me c.args.known.now.facts c.args.handed.now.pairs c.args.pool.now c.args.number c.loop-count.from c.loop-count.count c.loop-count.invariant c.in-None.ensures.last

pub overflow_add-from : goal.overflow_add-from
overflow_add-from c =
    let at = stock_place c.args.known.now.me c.args.known.now.facts c.args.handed.now.pairs c.args.pool.now c.args.number c.loop-count.from c.loop-count.count c.in-Some.place c.loop-count.invariant c.in-Some.ensures.next in
    let lt = get_within c.args.known.now.facts c.in-Some.place at.fact at.there in
    let size : c.len-holds.result ≡ length c.args.known.now.facts = c.len-holds.ensures.length in
    omega arith

pub loop-count-preserved : goal.loop-count-preserved
loop-count-preserved c = stock_one c.args.known.now.me c.args.known.now.facts c.args.handed.now.pairs c.args.pool.now c.args.number c.loop-count.from c.loop-count.count c.in-Some.place c.loop-count.invariant c.in-Some.ensures.next c.loop-count-test.true

pub returns : goal.returns
returns c = stock_enough c.args.known.now.me c.args.known.now.facts c.args.handed.now.pairs c.args.pool.now c.args.number c.loop-count.from c.loop-count.count c.loop-count.invariant c.loop-count-test.false
