use Rattle.std.proofs.Common.{◌≡◌, ◌+◌, ◌-◌, suc, ◌∙◌, arith}
use Rattle.kme_streams.proofs.Series.{chunks_more}
use Rattle.kme_streams.proofs.chunk_feed.new_chunks.Goals as goal

pub loop-more-preserved : goal.loop-more-preserved
loop-more-preserved c v seen =
    let t = c.loop-more-test.true in
    let count : c.args.count - c.loop-more.more ≡ suc (c.args.count - (c.loop-more.more + 1)) = omega arith in
    chunks_more v c.args.series.now.stream c.args.series.now.route c.args.series.now.octets c.args.series.now.next c.loop-more.more c.loop-more.left.now c.octets_behind-left.result.now c.loop-more.batch c.push.new.self
    c.in_ok-entry.entry (c.args.count - (c.loop-more.more + 1)) (c.args.count - c.loop-more.more) c.in_ok-push.ensures.ok (c.in_ok-entry.ensures v seen) c.octets_behind-left.ensures count
    ∙ c.loop-more.invariant v seen
