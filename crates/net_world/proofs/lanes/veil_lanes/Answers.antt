use Rattle.std.proofs.Common.{◌≡◌, ◌∙◌, ℕ, length, ap, refl, arith}
use Rattle.std.proofs.lemmas.List.Sums.{sum_by_more}
use Rattle.std.proofs.lemmas.Option.{slice_get_read}
use Rattle.lane_sender.specs.Lane.{LaneForm}
use Rattle.net_world.specs.Veiled.{frames_on, changed_on, all_frames, all_changed}
use Rattle.net_world.proofs.Sums.{side_at, few_sides, sum_whole}
use Rattle.net_world.proofs.lanes.veil_lanes.Goals as goal

pub veil_lane-requires : goal.veil_lane-requires
veil_lane-requires g c =
    let r = c.requires.ready in
    let lt = c.loop-side-test.true in
    let s = side_at g.X.Wire r.0 r.1 c.args.sides.now r.2 c.loop-side.side-index c.side-item.result
    (slice_get_read c.args.sides.now (length c.args.sides.now) c.loop-side.side-index c.side-item.result refl lt c.side-item.is) lt in
    record { ready = (r.0, r.1, r.2.running, s.at, s.stands) }

pub overflow_add-frames : goal.overflow_add-frames
overflow_add-frames g c =
    let r = c.requires.ready in
    let lt = c.loop-side-test.true in
    let s = side_at g.X.Wire r.0 r.1 c.args.sides.now r.2 c.loop-side.side-index c.side-item.result
    (slice_get_read c.args.sides.now (length c.args.sides.now) c.loop-side.side-index c.side-item.result refl lt c.side-item.is) lt in
    omega (arith, c.loop-side.invariant.few_frames, c.in_ok-lane.ensures.few.0, s.size, lt, few_sides g.X.Wire r.0 r.1 c.args.sides.now r.2)

pub overflow_add-bytes : goal.overflow_add-bytes
overflow_add-bytes g c =
    let r = c.requires.ready in
    let lt = c.loop-side-test.true in
    let s = side_at g.X.Wire r.0 r.1 c.args.sides.now r.2 c.loop-side.side-index c.side-item.result
    (slice_get_read c.args.sides.now (length c.args.sides.now) c.loop-side.side-index c.side-item.result refl lt c.side-item.is) lt in
    omega (arith, c.loop-side.invariant.few_bytes, c.in_ok-lane.ensures.few.1, s.size, lt, few_sides g.X.Wire r.0 r.1 c.args.sides.now r.2)

pub loop-side-preserved : goal.loop-side-preserved
loop-side-preserved g c =
    let r = c.requires.ready in
    let lt = c.loop-side-test.true in
    let i : ℕ = c.loop-side.side-index in
    let d : LaneForm g.row.X.Denot = c.side-item.result in
    let there = slice_get_read c.args.sides.now (length c.args.sides.now) i d refl lt c.side-item.is in
    let here = side_at g.X.Wire r.0 r.1 c.args.sides.now r.2 i d there lt in
    record {
      few_frames = omega (arith, c.loop-side.invariant.few_frames, c.in_ok-lane.ensures.few.0, here.size);
      few_bytes = omega (arith, c.loop-side.invariant.few_bytes, c.in_ok-lane.ensures.few.1, here.size);
      sums = λ net w lanes.
          let s = side_at g.X.Wire net w c.args.sides.now lanes i d there lt in
          let said = c.in_ok-lane.ensures.counts net w lanes.running s.at s.stands in
          let before = c.loop-side.invariant.sums net w lanes in (
            omega (arith, before.0, said.0, sum_by_more (λ (s : LaneForm g.row.X.Denot). frames_on w s.lane) c.args.sides.now i d lt, ap (λ (s : LaneForm g.row.X.Denot). frames_on w s.lane) c.side-item.is),
            omega (arith, before.1, said.1, sum_by_more (λ (s : LaneForm g.row.X.Denot). changed_on net w s.lane) c.args.sides.now i d lt, ap (λ (s : LaneForm g.row.X.Denot). changed_on net w s.lane) c.side-item.is),
          );
    }

pub returns : goal.returns
unfolding all_frames all_changed
returns g c net w lanes =
    let whole : c.loop-side.side-index ≡ length c.args.sides.now = omega (arith, c.loop-side-test.false, c.loop-side.auto.side-index-end) in
    let sums = c.loop-side.invariant.sums net w lanes in (
      sums.0 ∙ sum_whole g.X.Wire net w c.args.sides.now lanes (frames_on w) c.loop-side.side-index whole,
      sums.1 ∙ sum_whole g.X.Wire net w c.args.sides.now lanes (changed_on net w) c.loop-side.side-index whole,
    )
