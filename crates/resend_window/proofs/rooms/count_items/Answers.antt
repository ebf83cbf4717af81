use Rattle.std.proofs.Common.{◌∷◌, [], ap, ◌∙◌, take, length, arith}
use Rattle.relay_core.proofs.Firsts.{got}
use Rattle.resend_window.specs.Kept.{somes}
use Rattle.resend_window.proofs.Edits.{take_more}
use Rattle.resend_window.proofs.Frames.{length_take, take_long}
use Rattle.resend_window.proofs.Lists.{length_somes, length_more}
use Rattle.resend_window.proofs.rooms.count_items.Goals as goal

pub overflow_add-count : goal.overflow_add-count
overflow_add-count g c =
    let first = take c.loop-slot.slot-index c.args.list.now in
    let inv = c.loop-slot.invariant in
    let one = c.filled-count.ensures in
    let few = length_somes first in
    let size = length_take c.loop-slot.slot-index c.args.list.now (omega arith) in
    let item = length_somes (c.slot-item.result ∷ []) in
    omega arith

pub loop-slot-preserved : goal.loop-slot-preserved
loop-slot-preserved g c =
    let there = got c.args.list.now c.loop-slot.slot-index c.slot-item.result c.loop-slot-test.true c.slot-item.is in
    let inv = c.loop-slot.invariant in
    let one = c.filled-count.ensures in
    let more = ap (λ xs. length (somes xs)) (take_more c.args.list.now c.loop-slot.slot-index c.slot-item.result there) ∙ length_more (take c.loop-slot.slot-index c.args.list.now) c.slot-item.result in
    omega arith

pub returns : goal.returns
returns g c = c.loop-slot.invariant ∙ ap (λ xs. length (somes xs)) (take_long c.loop-slot.slot-index c.args.list.now c.loop-slot-test.false)
