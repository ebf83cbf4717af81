use Rattle.std.proofs.Common.{◌++◌, map, Some, sym, ap, subst, ◌∙◌, arith}
use Rattle.std.specs.List.{All}
use Rattle.std.proofs.lemmas.List.Elements.{All-push}
use Rattle.world_state.specs.Passed.{disk_of, entropy_of}
use Rattle.net_world.specs.Laid.{IsOnDisk}
use Rattle.net_world.proofs.Lists.{put_last}
use Rattle.net_world.proofs.bench_return.put_posts.Goals as goal

pub loop-preserved : goal.loop-preserved
loop-preserved g c =
    let posts = c.loop.posts.items in
    let rest = c.take_last-post.new.self.items in
    let post = c.take_last-post.result in
    let disk = c.parts_of-disk.result.0 in
    let entropy = c.parts_of-disk.result.1 in
    let is = c.take_last-post.ensures.items in
    record {
      turns = omega (arith, c.take_last-post.ensures.len, c.loop.invariant.turns);
      disks = ap (λ xs. map disk_of rest ++ map Some xs) c.put_first.ensures.items
          ∙ put_last disk_of posts rest post (Some disk) (map Some c.loop.disks.items) is (sym c.parts_of-disk.ensures.disk) ∙ c.loop.invariant.disks;
      entropies = ap (λ xs. map entropy_of rest ++ xs) c.put_first-in-loop.ensures.items
          ∙ put_last entropy_of posts rest post entropy c.loop.entropies.items is c.parts_of-disk.ensures.entropy ∙ c.loop.invariant.entropies;
      disk_room = omega (arith, c.put_first.ensures.len, c.put_first.ensures.room, c.take_last-post.ensures.len, c.loop.invariant.disk_room);
      on_disk = λ all. c.loop.invariant.on_disk (subst (All (IsOnDisk g.K.Disk)) (sym is)
          (All-push (IsOnDisk g.K.Disk) rest post all c.parts_of-disk.ensures.on_disk));
      entropy_room = omega (arith, c.put_first-in-loop.ensures.len, c.put_first-in-loop.ensures.room, c.take_last-post.ensures.len, c.loop.invariant.entropy_room);
    }
