use Rattle.stream_core.proofs.Held.{learned_new, learned_known}
use Rattle.stream_core.proofs.streams.Streams.learn.Goals as goal

pub tally_last-requires-clause-tallies : goal.tally_last-requires-clause-tallies
tally_last-requires-clause-tallies c =
    learned_new c.self.inside.ends.known.facts c.learn.new.self.known.facts c.self.inside.ends.handed c.learn.new.self.handed c.self.inside.tallies c.args.fact c.in-Ok-true.field-0 c.self.invariant
    c.in-Ok-true.ensures.facts c.in-Ok-true.ensures.kept.3 c.in-Ok-true.ensures.new c.in-Ok-true.field-0-test

pub invariant_of-self-in-Ok-false : goal.invariant_of-self-in-Ok-false
invariant_of-self-in-Ok-false c =
    learned_known c.self.inside.ends.known.facts c.learn.new.self.known.facts c.self.inside.ends.handed c.learn.new.self.handed c.self.inside.tallies c.args.fact c.in-Ok-false.field-0 c.self.invariant
    c.in-Ok-false.ensures.facts c.in-Ok-false.ensures.kept.3 c.in-Ok-false.ensures.new c.in-Ok-false.field-0-test
