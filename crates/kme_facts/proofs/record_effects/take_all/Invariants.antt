use Rattle.std.specs.Vec.Iter.{into_iter_items, into_iter_len}
use Rattle.kme_facts.proofs.Taken.{IsTaking}
use Rattle.kme_facts.proofs.record_effects.take_all.Given as goal

abbrev pub invariant-loop-change : goal.invariant-loop-change
invariant-loop-change l = IsTaking l.initial.streams l.streams (into_iter_items l.initial.change-iterator) (into_iter_items l.change-iterator) (into_iter_len l.change-iterator)
