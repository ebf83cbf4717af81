use Rattle.std.proofs.Common.{◌+◌, sym, ◌∙◌, ap, arith, drop}
use Rattle.net_model.specs.Table.{is_part_of}
use Rattle.relay_core.proofs.Firsts.{get_within}
use Rattle.kme_keys.specs.Candidates.{are_parts_to}
use Rattle.kme_keys.proofs.Behind.{passing, at_index, past_all}
use Rattle.kme_keys.proofs.Tested.{no_part_left, other_part, right_part, all_parts, more_parts}
use Rattle.kme_keys.proofs.candidates.are_parts_to.Goals as goal

pub returns-in-None : goal.returns-in-None
returns-in-None c =
    let p = c.args.pool.now in
    let facts = c.args.known.now.facts in
    let i = c.loop-slave.slave-index in
    let at = at_index p.slaves.now i c.slave-item.result c.loop-slave-test.true c.slave-item.is in
    sym (no_part_left p.master p.bits c.args.key facts c.loop-slave.from c.slave-item.result (drop (i + 1) p.slaves.now) c.in-None.ensures.none)
    ∙ ap (are_parts_to p.master p.bits (passing (is_part_of c.args.key) facts c.loop-slave.from)) (sym at) ∙ c.loop-slave.invariant

pub returns-then-not-is_part_to_at : goal.returns-then-not-is_part_to_at
returns-then-not-is_part_to_at c =
    let p = c.args.pool.now in
    let facts = c.args.known.now.facts in
    let i = c.loop-slave.slave-index in
    let at = at_index p.slaves.now i c.slave-item.result c.loop-slave-test.true c.slave-item.is in
    sym (other_part p.master p.bits c.args.key facts c.loop-slave.from c.slave-item.result (drop (i + 1) p.slaves.now) c.in-Some.place c.in-Some.ensures.first (sym c.is_part_to_at.ensures ∙ cc))
    ∙ ap (are_parts_to p.master p.bits (passing (is_part_of c.args.key) facts c.loop-slave.from)) (sym at) ∙ c.loop-slave.invariant

pub overflow_add-from : goal.overflow_add-from
overflow_add-from c = let lt = get_within c.args.known.now.facts c.in-Some.place c.in-Some.ensures.first.item c.in-Some.ensures.first.there in let e = c.len-holds.ensures.length in omega arith

pub loop-slave-preserved : goal.loop-slave-preserved
loop-slave-preserved c =
    let p = c.args.pool.now in
    let facts = c.args.known.now.facts in
    let i = c.loop-slave.slave-index in
    let at = at_index p.slaves.now i c.slave-item.result c.loop-slave-test.true c.slave-item.is in
    sym (right_part p.master p.bits c.args.key facts c.loop-slave.from c.slave-item.result (drop (i + 1) p.slaves.now) c.in-Some.place c.in-Some.ensures.first (sym c.is_part_to_at.ensures ∙ cc))
    ∙ ap (are_parts_to p.master p.bits (passing (is_part_of c.args.key) facts c.loop-slave.from)) (sym at) ∙ c.loop-slave.invariant

pub returns-in-None-next_part : goal.returns-in-None-next_part
returns-in-None-next_part c =
    let p = c.args.pool.now in
    let facts = c.args.known.now.facts in
    let at = past_all p.slaves.now c.loop-slave.slave-index c.loop-slave-test.false in
    sym (all_parts p.master p.bits c.args.key facts c.loop-slave.from c.in-None-next_part.ensures.none)
    ∙ ap (are_parts_to p.master p.bits (passing (is_part_of c.args.key) facts c.loop-slave.from)) (sym at) ∙ c.loop-slave.invariant

pub returns-in-Some-next_part : goal.returns-in-Some-next_part
returns-in-Some-next_part c =
    let p = c.args.pool.now in
    let facts = c.args.known.now.facts in
    let at = past_all p.slaves.now c.loop-slave.slave-index c.loop-slave-test.false in
    sym (more_parts p.master p.bits c.args.key facts c.loop-slave.from c.in-Some-next_part.field-0 c.in-Some-next_part.ensures.first)
    ∙ ap (are_parts_to p.master p.bits (passing (is_part_of c.args.key) facts c.loop-slave.from)) (sym at) ∙ c.loop-slave.invariant
