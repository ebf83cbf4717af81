use Rattle.std.proofs.Common.{[], ◌∷◌, ◌++◌, sym, ap, ◌∙◌, arith}
use Rattle.world_state.specs.Passed.{Off}
use Rattle.net_world.proofs.Lists.{drop_next}
use Rattle.net_world.proofs.Steps.{one_node_more}
use Rattle.net_world.proofs.state_layout.lay_posts.Goals as goal

pub loop-preserved : goal.loop-preserved
loop-preserved g c =
    let disk = c.take_first-disk.result in
    let entropy = c.take_first-entropy.result in
    let n = c.loop.counter in
    let disks = c.args.disks.now.items in
    let entropies = c.args.entropies.now.items in
    let next_disk = sym c.loop.invariant.disks ∙ c.take_first-disk.ensures.items in
    let next_entropy = sym c.loop.invariant.entropies ∙ c.take_first-entropy.ensures.items in
    record {
      posts = c.push_reserved.ensures.items ∙ ap (λ ps. ps ++ Off disk entropy ∷ []) c.loop.invariant.posts
          ∙ sym (one_node_more n disks entropies disk entropy c.take_first-disk.new.from.items c.take_first-entropy.new.from.items next_disk next_entropy);
      disks = sym (drop_next n disks disk c.take_first-disk.new.from.items next_disk);
      entropies = sym (drop_next n entropies entropy c.take_first-entropy.new.from.items next_entropy);
      nodes = omega (arith, c.push_reserved.ensures.len, c.loop.invariant.nodes);
      disks_left = omega (arith, c.take_first-disk.ensures.len, c.loop.invariant.disks_left);
      entropies_left = omega (arith, c.take_first-entropy.ensures.len, c.loop.invariant.entropies_left);
      post_room = c.push_reserved.ensures.capacity ∙ c.loop.invariant.post_room;
      disk_room = c.take_first-disk.ensures.room ∙ c.loop.invariant.disk_room;
      entropy_room = c.take_first-entropy.ensures.room ∙ c.loop.invariant.entropy_room;
    }
