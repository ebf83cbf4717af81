use Rattle.stream_core.proofs.Held.{forgotten_tallies}
use Rattle.stream_core.proofs.streams.Streams.forget.Goals as goal

pub invariant_of-self : goal.invariant_of-self
invariant_of-self c =
    forgotten_tallies c.self.inside.ends.known.facts c.forget.new.self.known.facts c.self.inside.ends.handed c.forget.new.self.handed c.self.inside.tallies c.args.place c.self.invariant c.forget.ensures.facts
    c.forget.ensures.kept.4
