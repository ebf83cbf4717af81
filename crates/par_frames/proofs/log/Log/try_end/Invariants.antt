use Rattle.std.proofs.Common.{◌≡◌, ◌++◌, [], map}
use Rattle.par_frames.specs.declared.log.Refused.{Refused}
use Rattle.par_frames.proofs.log.Log.try_end.Given as goal

abbrev pub invariant-loop-refused : goal.invariant-loop-refused
invariant-loop-refused l = record {
  whole : l.self.is_whole ≡ l.fn.self.is_whole;
  frames : l.self.frames.items ≡ l.fn.self.frames.items ++ map (λ (r : Refused). r.frame) l.yielded;
  refused' : l.self.refused.items ≡ [];
  placings : l.self.placings.items ≡ l.fn.self.placings.items;
}
