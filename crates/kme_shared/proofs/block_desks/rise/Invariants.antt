use Rattle.std.proofs.Common.{◌≡◌, ◌≤◌, ◌+◌, ◌++◌, length, map, vec_len, vec_capacity}
use Rattle.std.specs.Vec.{vec_ptr}
use Rattle.kme_shared.specs.Seats.{lefts, rights}
use Rattle.kme_shared.proofs.block_desks.rise.Given as goal

abbrev pub invariant-loop-machine : goal.invariant-loop-machine
invariant-loop-machine g l = record {
  next : (goal.iterator-loop-machine g).can_next l.machine-iterator;
  finite : (goal.iterator-loop-machine g).is_finite l.machine-iterator;
  posts : l.posts.items ++ map (λ d. d.post) (lefts l.machine-iterator.rest.items) ≡ l.fn.posts.items ++ map (λ d. d.post) (lefts l.fn.machines.items);
  seats : vec_len l.posts + length (lefts l.machine-iterator.rest.items) ≤ vec_capacity l.posts;
  ptr : vec_ptr l.posts ≡ vec_ptr l.fn.posts;
  kept : vec_capacity l.posts ≡ vec_capacity l.fn.posts;
  lanes : l.lanes.items ++ map (λ d. d.side) (rights l.machine-iterator.rest.items) ≡ l.fn.lanes.items ++ map (λ d. d.side) (rights l.fn.machines.items);
  places : vec_len l.lanes + length (rights l.machine-iterator.rest.items) ≤ vec_capacity l.lanes;
  there : vec_ptr l.lanes ≡ vec_ptr l.fn.lanes;
  sized : vec_capacity l.lanes ≡ vec_capacity l.fn.lanes;
}
