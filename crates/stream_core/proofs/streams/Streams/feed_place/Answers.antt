use Rattle.stream_core.proofs.Held.{given_few, waiting_is}
use Rattle.stream_core.proofs.streams.Streams.feed_place.Goals as goal

pub overflow_sub-result : goal.overflow_sub-result
overflow_sub-result c = given_few c.args.self.now.ends.known.facts c.args.self.now.ends.handed c.args.stream c.tally-tally.result c.tally-tally.ensures.tally

pub returns-clause-waiting : goal.returns-clause-waiting
returns-clause-waiting c = waiting_is c.args.self.now.ends c.args.stream c.args.source c.tally-tally.result c.tally-tally.ensures.source c.tally-tally.ensures.tally
