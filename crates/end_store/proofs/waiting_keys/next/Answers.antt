use Rattle.end_store.proofs.Lines.{waiting_bound}
use Rattle.end_store.proofs.waiting_keys.next.Goals as goal

pub walk-requires : goal.walk-requires
walk-requires c =
    waiting_bound c.args.known.now.me c.args.known.now.facts c.args.handed.now.pairs c.args.line.now c.len.result c.last_count.result c.later-end.result c.len.ensures.length
    c.last_count.ensures.count c.later-end.ensures

pub next_listed-requires-clause-end : goal.next_listed-requires-clause-end
next_listed-requires-clause-end c =
    waiting_bound c.args.known.now.me c.args.known.now.facts c.args.handed.now.pairs c.args.line.now c.len.result c.last_count.result c.later-end.result c.len.ensures.length
    c.last_count.ensures.count c.later-end.ensures
