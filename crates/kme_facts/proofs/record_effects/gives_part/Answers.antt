use Rattle.std.proofs.Common.{true, false, sym, arith}
use Rattle.std.specs.Prelude.{slice_get}
use Rattle.net_model.specs.Table.{is_part_of}
use Rattle.kme_facts.specs.Taken.{may_give}
use Rattle.relay_core.proofs.Firsts.{get_within, none_any, first_any}
use Rattle.kme_facts.proofs.Finding.{missed_none, missed_end, missed_more, hit_first, as_passed}
use Rattle.kme_facts.proofs.record_effects.gives_part.Goals as goal

pub returns-in-None : goal.returns-in-None
returns-in-None c =
    sym (none_any _ c.args.known.now.facts (missed_none (is_part_of c.args.name) (may_give c.args.known.now.me c.args.name c.args.sae) c.args.known.now.facts c.loop-from.from c.loop-from.invariant c.in-None.ensures.none))

pub returns-then-may_give_at : goal.returns-then-may_give_at
returns-then-may_give_at c =
    sym (first_any _ c.args.known.now.facts c.in-Some.place
    (hit_first (is_part_of c.args.name) (may_give c.args.known.now.me c.args.name c.args.sae) c.args.known.now.facts c.loop-from.from c.in-Some.place c.loop-from.invariant c.in-Some.ensures.first
    (as_passed (may_give c.args.known.now.me c.args.name c.args.sae) (slice_get c.args.known.now.facts c.in-Some.place) c.may_give_at.result true c.may_give_at.ensures c.if-may_give_at.true)))

pub overflow_add-from : goal.overflow_add-from
overflow_add-from c = let lt = get_within c.args.known.now.facts c.in-Some.place c.in-Some.ensures.first.item c.in-Some.ensures.first.there in omega arith

pub loop-from-preserved : goal.loop-from-preserved
loop-from-preserved c =
    missed_more (is_part_of c.args.name) (may_give c.args.known.now.me c.args.name c.args.sae) c.args.known.now.facts c.loop-from.from c.in-Some.place c.loop-from.invariant c.in-Some.ensures.first
    (as_passed (may_give c.args.known.now.me c.args.name c.args.sae) (slice_get c.args.known.now.facts c.in-Some.place) c.may_give_at.result false c.may_give_at.ensures c.if-may_give_at.false)

pub returns : goal.returns
returns c =
    sym (none_any _ c.args.known.now.facts (missed_end (is_part_of c.args.name) (may_give c.args.known.now.me c.args.name c.args.sae) c.args.known.now.facts c.loop-from.from c.loop-from.invariant
    (let e = c.len.ensures.length in let t = c.loop-from-test.false in omega arith)))
