use Rattle.std.proofs.Common.{◌∙◌, sym, arith}
use Rattle.net_model.specs.Table.{is_part_of}
use Rattle.relay_core.proofs.Firsts.{get_within}
use Rattle.kme_keys.specs.Holding.{is_part_for}
use Rattle.kme_keys.proofs.Passing.{hit, other, no_more, none_of, part_named}
use Rattle.kme_keys.proofs.holder.part_place.Goals as goal

pub returns-then-is_part_at-clause-first : goal.returns-then-is_part_at-clause-first
returns-then-is_part_at-clause-first c =
    hit (is_part_of c.args.name) (is_part_for c.args.of c.args.to c.args.name) (part_named c.args.of c.args.to c.args.name) c.args.known.now.facts c.loop-from.from c.loop-from.invariant
    c.in-Some.place c.in-Some.ensures.first (sym c.is_part_at.ensures ∙ c.if-is_part_at.true)

pub overflow_add-from : goal.overflow_add-from
overflow_add-from c = let lt = get_within c.args.known.now.facts c.in-Some.place c.in-Some.ensures.first.item c.in-Some.ensures.first.there in let e = c.len.ensures.length in omega arith

pub loop-from-preserved : goal.loop-from-preserved
loop-from-preserved c =
    other (is_part_of c.args.name) (is_part_for c.args.of c.args.to c.args.name) (part_named c.args.of c.args.to c.args.name) c.args.known.now.facts c.loop-from.from c.loop-from.invariant
    c.in-Some.place c.in-Some.ensures.first (sym c.is_part_at.ensures ∙ c.if-is_part_at.false)

pub returns-clause-none : goal.returns-clause-none
returns-clause-none c =
    no_more (is_part_of c.args.name) (is_part_for c.args.of c.args.to c.args.name) (part_named c.args.of c.args.to c.args.name) c.args.known.now.facts c.loop-from.from c.loop-from.invariant
    (let e = c.len.ensures.length in let t = c.loop-from-test.false in omega arith)

pub returns-in-None-clause-none : goal.returns-in-None-clause-none
returns-in-None-clause-none c =
    none_of (is_part_of c.args.name) (is_part_for c.args.of c.args.to c.args.name) (part_named c.args.of c.args.to c.args.name) c.args.known.now.facts c.loop-from.from c.loop-from.invariant
    c.in-None.ensures.none
