use Rattle.end_store.proofs.Stocked.{learned_none, learned_more, learned_all}
use Rattle.end_store.proofs.stock_counts.stock_last.Goals as goal

pub returns-in-None : goal.returns-in-None
returns-in-None c = learned_none c.args.known.now.facts c.args.handed.now.pairs c.requires.some c.args.stocks.now c.requires.stocks c.in-None.ensures

pub returns-in-Some-find : goal.returns-in-Some-find
returns-in-Some-find c = learned_more c.args.known.now.facts c.args.handed.now.pairs c.requires.some c.args.stocks.now c.requires.stocks c.in-Some.pool c.in-Some.ensures c.in-Some-find.number c.put.new.self c.in-Some-find.ensures c.put.ensures

pub returns-in-None-find : goal.returns-in-None-find
returns-in-None-find c =
    learned_all c.args.known.now.facts c.args.handed.now.pairs c.requires.some c.args.stocks.now c.requires.stocks c.in-Some.pool c.in-Some.ensures c.count_stock-number.result c.len-places.result c.put-in-None-find.new.self c.len-places.ensures.length c.count_stock-number.ensures c.put-in-None-find.ensures
