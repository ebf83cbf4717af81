use Rattle.std.proofs.Common.{refl, length, arith}
use Rattle.std.proofs.lemmas.Option.{slice_get_read}
use Rattle.net_world.proofs.GoingOn.{none_going, all_going, still_empty, one_more_going}
use Rattle.net_world.proofs.kept_lanes.go_on_all.Goals as goal

pub loop-place-init : goal.loop-place-init
loop-place-init g c = none_going c.args.kept.now c.args.lanes.now.items c.requires.empty

pub go_on-requires-clause-empty : goal.go_on-requires-clause-empty
go_on-requires-clause-empty g c =
    let i = c.loop-place.invariant in
    let now = c.loop-place.lanes.items in
    let at = slice_get_read now (length now) c.loop-place.place c.index_mut-side.result.now refl (omega (arith, c.loop-place-test.true, i.sides, c.requires.few)) c.index_mut-side.ensures.value in
    still_empty c.args.kept.now c.args.lanes.now.items c.loop-place.place now i c.index_mut-side.result.now at

pub loop-place-preserved : goal.loop-place-preserved
loop-place-preserved g c =
    let i = c.loop-place.invariant in
    let now = c.loop-place.lanes.items in
    let ks = c.args.kept.now in
    let at = slice_get_read now (length now) c.loop-place.place c.index_mut-side.result.now refl (omega (arith, c.loop-place-test.true, i.sides, c.requires.few)) c.index_mut-side.ensures.value in
    let here = slice_get_read ks (length ks) c.loop-place.place c.index-kept-place.result refl c.loop-place-test.true c.index-kept-place.is in
    one_more_going ks c.args.lanes.now.items c.loop-place.place now i c.index_mut-side.result.now at c.index-kept-place.result c.go_on.new.side _ here c.in_ok-go_on.ensures.ok refl

pub returns-clause-ok : goal.returns-clause-ok
returns-clause-ok g c = all_going c.args.kept.now c.args.lanes.now.items c.loop-place.place c.loop-place.lanes.items c.loop-place.invariant c.loop-place-test.false
