use Rattle.std.proofs.Common.{◌≡◌, refl, ap, ◌∙◌, arith}
use Rattle.std.specs.Prelude.{slice_set}
use Rattle.run_ops.specs.Reported.{taken}
use Rattle.world_state.proofs.Armed.{most_same, times_same}
use Rattle.world_state.proofs.OneSide.{read_at}
use Rattle.world_state.proofs.Takes.{post_below, device_below, may_take, tells, block_taken}
use Rattle.world_state.proofs.blocks.hand.Goals as goal
use Rattle.world_state.specs.Outside.{outside}

pub take_block-requires : goal.take_block-requires
take_block-requires g c =
    let a = c.requires.ready in
    let place : c.from.result ≡ c.args.node = c.from.ensures ∙ c.get.ensures.number in
    let slot : c.from-2.result ≡ c.args.link = c.from-2.ensures ∙ c.get-2.ensures.number in
    let there = read_at c.args.state.now.posts.items c.from.result c.args.node c.index_mut-post.result.now place
    (post_below (outside g.K.Disk g.Q.Device g.E.Entropy g.X.Wire) c.args.state.now a.0 a.1 c.args.node c.args.link a.2 c.requires.fit)
    c.index_mut-post.ensures.value in
    let at = read_at c.args.state.now.devices.items c.from-2.result c.args.link c.index_mut-device.result.now slot
    (device_below (outside g.K.Disk g.Q.Device g.E.Entropy g.X.Wire) c.args.state.now a.0 a.1 c.args.node c.args.link a.2 c.requires.fit)
    c.index_mut-device.ensures.value in
    record {
      asked = (
        a.0,
        a.1,
        c.args.node,
        tells (outside g.K.Disk g.Q.Device g.E.Entropy g.X.Wire) c.args.state.now a.0 a.1 c.args.node c.args.link a.2 c.requires.fit
            c.index_mut-post.result.now there c.index_mut-device.result.now at,
        may_take (outside g.K.Disk g.Q.Device g.E.Entropy g.X.Wire) c.args.state.now a.0 a.1 c.args.node c.args.link a.2 c.requires.fit
            c.index_mut-post.result.now there c.index_mut-device.result.now at,
      );
    }

pub returns-clause-armed : goal.returns-clause-armed
returns-clause-armed g c =
    let a = c.requires.ready in
    let place : c.from.result ≡ c.args.node = c.from.ensures ∙ c.get.ensures.number in
    let slot : c.from-2.result ≡ c.args.link = c.from-2.ensures ∙ c.get-2.ensures.number in
    let below = post_below (outside g.K.Disk g.Q.Device g.E.Entropy g.X.Wire) c.args.state.now a.0 a.1 c.args.node c.args.link a.2 c.requires.fit in
    let here = read_at c.args.state.now.posts.items c.from.result c.from.result c.index_mut-post.result.now refl (omega (arith, place, below)) c.index_mut-post.ensures.value in
    let there = read_at c.args.state.now.posts.items c.from.result c.args.node c.index_mut-post.result.now place below c.index_mut-post.ensures.value in
    let at = read_at c.args.state.now.devices.items c.from-2.result c.args.link c.index_mut-device.result.now slot
    (device_below (outside g.K.Disk g.Q.Device g.E.Entropy g.X.Wire) c.args.state.now a.0 a.1 c.args.node c.args.link a.2 c.requires.fit)
    c.index_mut-device.ensures.value in
    let h = c.take_block.ensures.taken a.0 a.1 c.args.node
    (tells (outside g.K.Disk g.Q.Device g.E.Entropy g.X.Wire) c.args.state.now a.0 a.1 c.args.node c.args.link a.2 c.requires.fit
    c.index_mut-post.result.now there c.index_mut-device.result.now at)
    (may_take (outside g.K.Disk g.Q.Device g.E.Entropy g.X.Wire) c.args.state.now a.0 a.1 c.args.node c.args.link a.2 c.requires.fit
    c.index_mut-post.result.now there c.index_mut-device.result.now at) in
    most_same g.K.Disk c.args.state.now.posts.items c.from.result c.index_mut-post.result.now c.take_block.new.post here
    (times_same g.K.Disk g.E.Entropy _ _ c.index_mut-post.result.now c.take_block.new.post h.counts)

pub returns-clause-taken : goal.returns-clause-taken
returns-clause-taken g c net w ready =
    let place : c.from.result ≡ c.args.node = c.from.ensures ∙ c.get.ensures.number in
    let slot : c.from-2.result ≡ c.args.link = c.from-2.ensures ∙ c.get-2.ensures.number in
    let there = read_at c.args.state.now.posts.items c.from.result c.args.node c.index_mut-post.result.now place
    (post_below (outside g.K.Disk g.Q.Device g.E.Entropy g.X.Wire) c.args.state.now net w c.args.node c.args.link ready c.requires.fit)
    c.index_mut-post.ensures.value in
    let at = read_at c.args.state.now.devices.items c.from-2.result c.args.link c.index_mut-device.result.now slot
    (device_below (outside g.K.Disk g.Q.Device g.E.Entropy g.X.Wire) c.args.state.now net w c.args.node c.args.link ready c.requires.fit)
    c.index_mut-device.ensures.value in
    let told = tells (outside g.K.Disk g.Q.Device g.E.Entropy g.X.Wire) c.args.state.now net w c.args.node c.args.link ready c.requires.fit
    c.index_mut-post.result.now there c.index_mut-device.result.now at in
    let may = may_take (outside g.K.Disk g.Q.Device g.E.Entropy g.X.Wire) c.args.state.now net w c.args.node c.args.link ready c.requires.fit
    c.index_mut-post.result.now there c.index_mut-device.result.now at in
    block_taken (outside g.K.Disk g.Q.Device g.E.Entropy g.X.Wire) c.args.state.now net w c.args.node c.args.link ready c.requires.fit
    c.index_mut-post.result.now there c.index_mut-device.result.now at
    _ c.take_block.new.post c.take_block.new.device refl (ap (λ n. slice_set c.args.state.now.posts.items n c.take_block.new.post) place)
    (ap (λ n. slice_set c.args.state.now.devices.items n c.take_block.new.device) slot) refl refl (taken c.take_block.result)
    (c.take_block.ensures.taken net w c.args.node told may) c.take_block.ensures.cause c.take_block.ensures.told c.take_block.ensures.later c.take_block.ensures.calm
    c.take_block.new.into (λ number is. c.take_block.ensures.block net w c.args.node number told may is)
