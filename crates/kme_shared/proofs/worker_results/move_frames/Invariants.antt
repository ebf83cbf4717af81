use Rattle.std.proofs.Common.{◌≡◌, ◌++◌}
use Rattle.kme_shared.proofs.worker_results.move_frames.Given as goal

abbrev pub invariant-loop-frame : goal.invariant-loop-frame
invariant-loop-frame l = record {
  next : goal.iterator-loop-frame.can_next l.frame-iterator;
  finite : goal.iterator-loop-frame.is_finite l.frame-iterator;
  items : l.into.items ++ l.frame-iterator.rest.items ≡ l.fn.into.items ++ l.fn.from.items;
}
