use Rattle.std.proofs.Common.{◌≡◌, ◌-◌, ◌++◌}
use Rattle.net_model.specs.View.{View}
use Rattle.net_model.specs.Streams.{new_chunks}
use Rattle.stream_core.specs.Kept.{Sees}
use Rattle.kme_streams.proofs.chunk_feed.new_chunks.Given as goal

abbrev pub invariant-loop-more : goal.invariant-loop-more
invariant-loop-more l =
    (v : View) → Sees v l.kept →
    l.batch ++ new_chunks v l.series.stream l.series.route l.series.octets l.series.next l.left l.more (l.count - l.more) ≡ new_chunks v l.series.stream l.series.route l.series.octets l.series.next l.random 0 l.count
