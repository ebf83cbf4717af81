use Rattle.std.proofs.Common.{sym, ◌∙◌, arith}
use Rattle.end_store.proofs.Readied.{readied_none, readied_more, readied_all, readied_fits}
use Rattle.end_store.proofs.ready_counts.ready_last.Goals as goal

pub returns-in-None : goal.returns-in-None
returns-in-None c = readied_none c.args.known.now.me c.args.known.now.facts c.args.handed.now.pairs c.requires.some c.len-holds.ensures.distinct c.args.readies.now c.requires.readies (sym c.in-None.is ∙ c.requires.readied)

pub overflow_add-number : goal.overflow_add-number
overflow_add-number c =
    let fits = readied_fits c.args.known.now.me c.args.known.now.facts c.args.handed.now.pairs c.requires.some c.len-holds.ensures.distinct c.args.readies.now c.requires.readies c.in-Some.pool (sym c.in-Some.is ∙ c.requires.readied)
    c.in-Some-find.number c.in-Some-find.ensures in
    let is = c.last_count-last.ensures.count in
    let bound = c.last_count-last.ensures.bound in
    omega arith

pub returns-in-Some-find : goal.returns-in-Some-find
returns-in-Some-find c =
    readied_more c.args.known.now.me c.args.known.now.facts c.args.handed.now.pairs c.requires.some c.len-holds.ensures.distinct c.args.readies.now c.requires.readies c.in-Some.pool (sym c.in-Some.is ∙ c.requires.readied)
    c.in-Some-find.number c.put.new.self c.in-Some-find.ensures c.put.ensures

pub returns-in-None-find : goal.returns-in-None-find
returns-in-None-find c =
    readied_all c.args.known.now.me c.args.known.now.facts c.args.handed.now.pairs c.requires.some c.len-holds.ensures.distinct c.args.readies.now c.requires.readies c.in-Some.pool (sym c.in-Some.is ∙ c.requires.readied)
    c.count_ready-number.result c.last_count-last.result c.put-in-None-find.new.self c.last_count-last.ensures.count c.count_ready-number.ensures c.put-in-None-find.ensures
