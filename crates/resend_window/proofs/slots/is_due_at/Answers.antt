use Rattle.std.proofs.Common.{sym, ◌∙◌, arith}
use Rattle.relay_core.proofs.Firsts.{got, get_within}
use Rattle.resend_window.proofs.Alike.{due_some, due_turn, due_none}
use Rattle.resend_window.proofs.slots.is_due_at.Goals as goal

pub returns-then-is_ready : goal.returns-then-is_ready
returns-then-is_ready c =
    let first = c.in-Some.ensures.first in
    let there = got c.args.slots.now c.in-Some.place c.index-slots-place.result (get_within c.args.slots.now c.in-Some.place first.item first.there) c.index-slots-place.is in
    sym (due_some c.args.lane.now c.args.offset c.args.slots.now c.loop-place.from c.in-Some.place c.index-slots-place.result first there (sym c.if-is_ready.ensures))

pub overflow_add-from : goal.overflow_add-from
overflow_add-from c =
    let first = c.in-Some.ensures.first in
    let within = get_within c.args.slots.now c.in-Some.place first.item first.there in
    omega arith

pub loop-place-smaller : goal.loop-place-smaller
loop-place-smaller c =
    let first = c.in-Some.ensures.first in
    let within = get_within c.args.slots.now c.in-Some.place first.item first.there in
    let behind = first.behind in
    omega arith

pub loop-place-preserved : goal.loop-place-preserved
loop-place-preserved c =
    let first = c.in-Some.ensures.first in
    let there = got c.args.slots.now c.in-Some.place c.index-slots-place.result (get_within c.args.slots.now c.in-Some.place first.item first.there) c.index-slots-place.is in
    due_turn c.args.lane.now c.args.offset c.args.slots.now c.loop-place.from c.in-Some.place c.index-slots-place.result c.loop-place.invariant first there (sym c.if-is_ready.ensures)

pub returns : goal.returns
returns c = sym (due_none c.args.lane.now c.args.offset c.args.slots.now c.loop-place.from c.loop-place.invariant c.in_default.ensures.none)
