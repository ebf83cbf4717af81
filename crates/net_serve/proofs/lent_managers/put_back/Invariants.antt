use Rattle.std.proofs.Common.{◌≡◌, ◌≤◌, ◌+◌, ◌++◌, map, reverse, vec_len, vec_capacity}
use Rattle.std.specs.Vec.{vec_ptr}
use Rattle.net_serve.proofs.lent_managers.put_back.Given as goal

abbrev pub invariant-loop-manager : goal.invariant-loop-manager
invariant-loop-manager g l = record {
  next : (goal.iterator-loop-manager g).can_next l.manager-iterator;
  finite : (goal.iterator-loop-manager g).is_finite l.manager-iterator;
  posts : l.posts.items ++ map (λ m. m.post) l.manager-iterator.rest.items ≡ map (λ m. m.post) (reverse l.fn.managers.items);
  room : vec_len l.posts + l.manager-iterator.rest.len ≤ vec_capacity l.posts;
  ptr : vec_ptr l.posts ≡ vec_ptr l.fn.posts;
  kept : vec_capacity l.posts ≡ vec_capacity l.fn.posts;
}
