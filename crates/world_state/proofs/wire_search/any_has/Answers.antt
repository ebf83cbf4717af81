use Rattle.std.proofs.Common.{◌≡◌, ℕ, false, length, sym, ap, ◌∙◌, arith, below_more}
use Rattle.std.specs.Prelude.{slice_get}
use Rattle.world_state.specs.Frames.{frame_is}
use Rattle.world_state.proofs.Searches.{put_there, put_nowhere}
use Rattle.world_state.proofs.wire_search.any_has.Goals as goal

pub returns-then-has_octets : goal.returns-then-has_octets
returns-then-has_octets g c net w running stands =
    sym (put_there net w c.args.side.now.lane c.args.octets.now c.loop-number.number (sym (c.has_octets.ensures net w running stands) ∙ c.if-has_octets.true))

pub loop-number-preserved : goal.loop-number-preserved
loop-number-preserved g c net w running stands =
    below_more (λ (k : ℕ). frame_is net w c.args.side.now.lane c.args.octets.now (slice_get (w.wire c.args.side.now.lane) k) ≡ false) c.loop-number.number
    (c.loop-number.invariant net w running stands) (sym (c.has_octets.ensures net w running stands) ∙ c.if-has_octets.false)

pub returns : goal.returns
returns g c net w running stands =
    let count : c.count-number-end.result ≡ length (w.wire c.args.side.now.lane) = c.count-number-end.ensures ∙ ap g.X.Wire.counted c.wire.ensures ∙ stands.wire.count in
    let all = c.loop-number-test.false in
    sym (put_nowhere net w c.args.side.now.lane c.args.octets.now (λ k below. c.loop-number.invariant net w running stands k (omega (arith, below, count, all))))
