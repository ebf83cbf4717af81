use Rattle.kme_streams.proofs.Overs.{feed_over}
use Rattle.kme_streams.proofs.drawn.law_feed_over_other_octets.Goals as goal

pub returns : goal.returns
returns c site up v stream count zeros random z r = feed_over site up v stream count zeros random z r
