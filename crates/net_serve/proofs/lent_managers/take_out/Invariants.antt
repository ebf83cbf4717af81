use Rattle.std.proofs.Common.{◌≡◌, ◌≤◌, ◌+◌, ◌++◌, map, reverse, vec_len, vec_capacity}
use Rattle.std.specs.List.{AllByRecursion}
use Rattle.std.specs.Vec.{vec_ptr}
use Rattle.net_model.specs.Site.{count_up}
use Rattle.net_serve.proofs.lent_managers.take_out.Given as goal

abbrev pub invariant-loop : goal.invariant-loop
invariant-loop g l = record {
  turns : l.counter + vec_len l.posts ≡ l.end;
  before : l.posts.items ++ reverse (map (λ m. m.post) l.managers.items) ≡ l.fn.posts.items;
  nodes : count_up (vec_len l.posts) ++ reverse (map (λ m. m.node) l.managers.items) ≡ count_up (vec_len l.fn.posts);
  few : vec_len l.posts ≤ vec_len l.fn.posts;
  room : vec_len l.managers + vec_len l.posts ≤ vec_capacity l.managers;
  spare : vec_capacity l.managers ≡ vec_capacity l.fn.managers;
  ptr : vec_ptr l.posts ≡ vec_ptr l.fn.posts;
  kept : vec_capacity l.posts ≡ vec_capacity l.fn.posts;
  charters : AllByRecursion (λ m. (m.site.value ≡ l.fn.opening.value.site) × (m.up ≡ l.fn.opening.value.up)) l.managers.items;
}
