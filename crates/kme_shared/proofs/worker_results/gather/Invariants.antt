use Rattle.std.proofs.Common.{◌≡◌, ◌≤◌, ◌+◌, ◌++◌, true, length, vec_capacity}
use Rattle.std.specs.List.{AllByRecursion, flat_map}
use Rattle.kme_shared.proofs.worker_results.gather.Given as goal

abbrev pub invariant-loop-keep : goal.invariant-loop-keep
invariant-loop-keep l = record {
  next : goal.iterator-loop-keep.can_next l.keep-iterator;
  finite : goal.iterator-loop-keep.is_finite l.keep-iterator;
  replied : l.room.replied.items ++ flat_map (λ k. k.replies.items) l.keep-iterator.rest.items ≡ flat_map (λ k. k.replies.items) l.fn.keeps.items;
  room : length l.room.replied.items + length (flat_map (λ k. k.replies.items) l.keep-iterator.rest.items) ≤ vec_capacity l.room.replied;
  turns : l.room.turns ≡ l.fn.room.turns;
  whole : l.is_whole ≡ true → AllByRecursion (λ k. k.log.is_whole ≡ true) l.keep-iterator.rest.items → AllByRecursion (λ k. k.log.is_whole ≡ true) l.fn.keeps.items;
  frames : l.is_whole ≡ true → l.room.frames.items ++ flat_map (λ k. k.log.frames.items) l.keep-iterator.rest.items ≡ flat_map (λ k. k.log.frames.items) l.fn.keeps.items;
}
