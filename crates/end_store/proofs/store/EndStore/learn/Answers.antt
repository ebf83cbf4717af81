use Rattle.end_store.proofs.Learning.{waiting_learned, stocks_before, ready_before, readied_before, store_stays}
use Rattle.end_store.proofs.store.EndStore.learn.Goals as goal

pub list_more-self-inside-requires : goal.list_more-self-inside-requires
list_more-self-inside-requires c =
    waiting_learned c.self.inside.known.me c.learn.new.self.me c.self.inside.known.facts c.learn.new.self.facts c.self.inside.handed.pairs c.args.fact c.in_ok-new.ensures.kept.0 c.in_ok-new.ensures.facts
    c.self.inside.waiting c.self.inside.listed c.self.invariant.waiting

pub stock_last-requires-clause-stocks : goal.stock_last-requires-clause-stocks
stock_last-requires-clause-stocks c =
    stocks_before c.self.inside.known.me c.learn.new.self.me c.self.inside.known.facts c.learn.new.self.facts c.self.inside.handed.pairs c.args.fact c.in_ok-new.ensures.kept.0 c.in_ok-new.ensures.facts
    c.in_ok-new.new c.in_ok-new.ensures.new c.if-new.true c.self.inside.stocks c.self.invariant.counted

pub ready_last-requires-clause-readied : goal.ready_last-requires-clause-readied
ready_last-requires-clause-readied c =
    readied_before c.self.inside.known.me c.learn.new.self.me c.self.inside.known.facts c.learn.new.self.facts c.self.inside.handed.pairs c.args.fact c.in_ok-new.ensures.kept.0 c.in_ok-new.ensures.facts
    c.in_ok-new.new c.in_ok-new.ensures.new c.if-new.true c.readied_pool-readied.result c.readied_pool-readied.ensures

pub ready_last-requires-clause-readies : goal.ready_last-requires-clause-readies
ready_last-requires-clause-readies c =
    ready_before c.self.inside.known.me c.learn.new.self.me c.self.inside.known.facts c.learn.new.self.facts c.self.inside.handed.pairs c.args.fact c.in_ok-new.ensures.kept.0 c.in_ok-new.ensures.facts
    c.in_ok-new.new c.in_ok-new.ensures.new c.if-new.true c.self.inside.readies c.self.invariant.ready

pub invariant_of-self-else-new : goal.invariant_of-self-else-new
invariant_of-self-else-new c =
    store_stays c.self.inside.known.me c.learn.new.self.me c.self.inside.known.facts c.learn.new.self.facts c.self.inside.handed.pairs c.args.fact c.in_ok-new.ensures.kept.0 c.in_ok-new.ensures.facts
    c.in_ok-new.new c.in_ok-new.ensures.new c.if-new.false c.list_more-self-inside.new.index c.list_more-self-inside.result c.self.inside.stocks c.self.inside.readies c.list_more-self-inside.ensures c.self.invariant.counted
    c.self.invariant.ready
