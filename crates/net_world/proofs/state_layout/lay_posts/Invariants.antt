use Rattle.std.proofs.Common.{◌≡◌, ◌+◌, take, drop, vec_len, vec_capacity}
use Rattle.net_world.specs.Laid.{unstarted}
use Rattle.net_world.proofs.state_layout.lay_posts.Given as goal

abbrev pub invariant-loop : goal.invariant-loop
invariant-loop g l = record {
  posts : l.posts.items ≡ unstarted (take l.counter l.fn.disks.items) (take l.counter l.fn.entropies.items);
  disks : l.disks.items ≡ drop l.counter l.fn.disks.items;
  entropies : l.entropies.items ≡ drop l.counter l.fn.entropies.items;
  nodes : vec_len l.posts ≡ l.counter;
  disks_left : vec_len l.disks + l.counter ≡ vec_len l.fn.disks;
  entropies_left : vec_len l.entropies + l.counter ≡ vec_len l.fn.entropies;
  post_room : vec_capacity l.posts ≡ vec_capacity l.fn.posts;
  disk_room : vec_capacity l.disks ≡ vec_capacity l.fn.disks;
  entropy_room : vec_capacity l.entropies ≡ vec_capacity l.fn.entropies;
}
