use Rattle.std.proofs.Common.{◌≡◌, ◌≤◌, length, refl, arith}
use Rattle.std.proofs.lemmas.Option.{slice_get_read}
use Rattle.net_world.proofs.GoingOn.{lane_full, end_low, one_block_more, gone_on}
use Rattle.net_world.proofs.kept_lanes.go_on.Goals as goal

pub take-requires : goal.take-requires
take-requires g c =
    let k = c.args.kept.now in
    let low : c.loop-place.place ≤ length k.blocks.items = omega (arith, c.loop-place-test.true, c.len-place-end.ensures, k.blocks.ok.0) in
    let at = lane_full c.args.side.now.lane c.args.side.now.wire k c.loop-place.place c.loop-place.side c.requires.may low c.loop-place.invariant in
    record { few = omega (arith, at, c.loop-place-test.true, c.len-place-end.ensures, k.blocks.ok.0, c.requires.may.few) }

pub restart-requires-clause-later : goal.restart-requires-clause-later
restart-requires-clause-later g c =
    let k = c.args.kept.now in
    let all : c.loop-place.place ≡ length k.blocks.items = omega (arith, c.loop-place-test.false, c.loop-place.auto.place-end, c.len-place-end.ensures, k.blocks.ok.0) in
    end_low c.args.side.now.lane c.args.side.now.wire k c.loop-place.place c.loop-place.side c.requires.may all c.loop-place.invariant

pub restart-requires-clause-received : goal.restart-requires-clause-received
restart-requires-clause-received g c =
    let k = c.args.kept.now in
    let all : c.loop-place.place ≡ length k.blocks.items = omega (arith, c.loop-place-test.false, c.loop-place.auto.place-end, c.len-place-end.ensures, k.blocks.ok.0) in
    let at = lane_full c.args.side.now.lane c.args.side.now.wire k c.loop-place.place c.loop-place.side c.requires.may (omega (arith, all)) c.loop-place.invariant in
    omega (arith, at, all, c.requires.may.leased)

pub loop-place-preserved : goal.loop-place-preserved
loop-place-preserved g c =
    let k = c.args.kept.now in
    let n = c.loop-place.place in
    let at = slice_get_read k.blocks.items (length k.blocks.items) n c.index.result.now refl (omega (arith, c.loop-place-test.true, c.len-place-end.ensures, k.blocks.ok.0)) c.index.ensures in
    one_block_more c.args.side.now.lane c.args.side.now.wire k.blocks.items n c.index.result.now c.loop-place.side c.take.new.self at c.loop-place.invariant c.in_ok-take.ensures.ok

pub returns-clause-ok : goal.returns-clause-ok
returns-clause-ok g c =
    let k = c.args.kept.now in
    let all : c.loop-place.place ≡ length k.blocks.items = omega (arith, c.loop-place-test.false, c.loop-place.auto.place-end, c.len-place-end.ensures, k.blocks.ok.0) in
    gone_on c.args.side.now.lane c.args.side.now.wire k c.loop-place.place c.loop-place.side c.restart.new.self c.requires.may all c.loop-place.invariant c.restart.ensures
