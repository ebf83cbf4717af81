use Rattle.std.proofs.Common.{sym, ◌∙◌, arith}
use Rattle.relay_core.proofs.Firsts.{get_within}
use Rattle.kme_keys.proofs.Tested.{none_left, nothing_left, unconfirmed, confirmed}
use Rattle.kme_keys.proofs.candidates.are_confirmed.Goals as goal

pub returns-in-None : goal.returns-in-None
returns-in-None c = sym (none_left c.args.key c.args.known.now.facts c.loop-from.from c.in-None.ensures.none) ∙ c.loop-from.invariant

pub returns-then-not-is_confirmed_at : goal.returns-then-not-is_confirmed_at
returns-then-not-is_confirmed_at c =
    sym (unconfirmed c.args.key c.args.known.now.facts c.loop-from.from c.in-Some.place c.in-Some.ensures.first (sym c.is_confirmed_at.ensures ∙ cc)) ∙ c.loop-from.invariant

pub overflow_add-from : goal.overflow_add-from
overflow_add-from c = let lt = get_within c.args.known.now.facts c.in-Some.place c.in-Some.ensures.first.item c.in-Some.ensures.first.there in let e = c.len.ensures.length in omega arith

pub loop-from-preserved : goal.loop-from-preserved
loop-from-preserved c =
    sym (confirmed c.args.key c.args.known.now.facts c.loop-from.from c.in-Some.place c.in-Some.ensures.first (sym c.is_confirmed_at.ensures ∙ cc)) ∙ c.loop-from.invariant

pub returns : goal.returns
returns c = sym (nothing_left c.args.key c.args.known.now.facts c.loop-from.from (let e = c.len.ensures.length in let t = c.loop-from-test.false in omega arith)) ∙ c.loop-from.invariant
