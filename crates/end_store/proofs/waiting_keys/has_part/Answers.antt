use Rattle.std.proofs.Common.{◌∙◌, sym, arith}
use Rattle.relay_core.proofs.Firsts.{get_within}
use Rattle.end_store.proofs.Lines.{no_part, no_more, one_part, other_part}
use Rattle.end_store.proofs.waiting_keys.has_part.Goals as goal

pub returns-in-None : goal.returns-in-None
returns-in-None c = no_part c.args.pool.now c.args.key c.args.known.now.facts c.loop-from.from c.loop-from.invariant c.in-None.ensures.none

pub returns-then-is_part_at : goal.returns-then-is_part_at
returns-then-is_part_at c = one_part c.args.pool.now c.args.key c.args.known.now.facts c.loop-from.from c.in-Some.place c.in-Some.ensures.first (sym c.is_part_at.ensures ∙ c.if-is_part_at.true)

pub overflow_add-from : goal.overflow_add-from
overflow_add-from c = let lt = get_within c.args.known.now.facts c.in-Some.place c.in-Some.ensures.first.item c.in-Some.ensures.first.there in omega arith

pub loop-from-preserved : goal.loop-from-preserved
loop-from-preserved c = other_part c.args.pool.now c.args.key c.args.known.now.facts c.loop-from.from c.in-Some.place c.in-Some.ensures.first (sym c.is_part_at.ensures ∙ c.if-is_part_at.false) c.loop-from.invariant

pub returns : goal.returns
returns c = no_more c.args.pool.now c.args.key c.args.known.now.facts c.loop-from.from (let e = c.len.ensures.length in let t = c.loop-from-test.false in omega arith) c.loop-from.invariant
