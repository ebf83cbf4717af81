use Rattle.std.proofs.Common.{◌≡◌, ◌≤◌, ◌+◌, ◌++◌, map, Some, vec_len, vec_capacity}
use Rattle.std.specs.List.{All}
use Rattle.world_state.specs.Passed.{disk_of, entropy_of}
use Rattle.net_world.specs.Laid.{IsOnDisk}
use Rattle.net_world.proofs.bench_return.put_posts.Given as goal

abbrev pub invariant-loop : goal.invariant-loop
invariant-loop g l = record {
  turns : l.counter + vec_len l.posts ≡ l.end;
  disks : map disk_of l.posts.items ++ map Some l.disks.items ≡ map disk_of l.fn.posts.items ++ map Some l.fn.disks.items;
  entropies : map entropy_of l.posts.items ++ l.entropies.items ≡ map entropy_of l.fn.posts.items ++ l.fn.entropies.items;
  disk_room : vec_len l.posts + vec_len l.disks ≤ vec_capacity l.disks;
  on_disk : All (IsOnDisk g.K.Disk) l.posts.items → All (IsOnDisk g.K.Disk) l.fn.posts.items;
  entropy_room : vec_len l.posts + vec_len l.entropies ≤ vec_capacity l.entropies;
}
