use Rattle.std.proofs.Common.{◌≡◌, refl, sym, ap, ◌∙◌, arith, Some}
use Rattle.std.specs.Prelude.{slice_get}
use Rattle.std.proofs.lemmas.Option.{slice_get-get_or}
use Rattle.run_ops.specs.Acting.{fault_of}
use Rattle.world_state.proofs.Changes.{with_post}
use Rattle.world_state.proofs.OneLife.{few_before, may_arm, arm_done, most_after}
use Rattle.world_state.proofs.lives.arm.Goals as goal
use Rattle.world_state.specs.Outside.{outside}

pub arm-requires : goal.arm-requires
arm-requires g c =
    let place : c.from.result ≡ c.args.node = c.from.ensures ∙ c.get.ensures.number in
    let below = c.in-Some.ensures.variant.0 refl in
    let as_long = c.args.state.now.posts.ok.0 in
    let there = ap (slice_get c.args.state.now.posts.items) (sym place) ∙ slice_get-get_or c.args.state.now.posts.items c.from.result c.in-Some.post.now (omega (arith, below, as_long)) ∙ ap Some (sym c.in-Some.ensures.value) in
    let net = c.requires.ready.0 in
    let w = c.requires.ready.1 in
    record {
      count = few_before (outside g.K.Disk g.Q.Device g.E.Entropy g.X.Wire) c.args.state.now net w c.args.node c.requires.ready.2 c.in-Some.post.now there _ c.requires.few;
    }

pub returns-in-Some-clause-armed : goal.returns-in-Some-clause-armed
returns-in-Some-clause-armed g c =
    let below = c.in-Some.ensures.variant.0 refl in
    let as_long = c.args.state.now.posts.ok.0 in
    let at = slice_get-get_or c.args.state.now.posts.items c.from.result c.in-Some.post.now (omega (arith, below, as_long)) ∙ ap Some (sym c.in-Some.ensures.value) in
    most_after g.K.Disk g.E.Entropy c.args.arm c.in-Some.post.now c.arm.new.post c.arm.ensures.armed c.args.state.now.posts.items c.from.result at

pub returns-in-Some-clause-done : goal.returns-in-Some-clause-done
returns-in-Some-clause-done g c net w ready =
    let place : c.from.result ≡ c.args.node = c.from.ensures ∙ c.get.ensures.number in
    let below = c.in-Some.ensures.variant.0 refl in
    let as_long = c.args.state.now.posts.ok.0 in
    let there = ap (slice_get c.args.state.now.posts.items) (sym place) ∙ slice_get-get_or c.args.state.now.posts.items c.from.result c.in-Some.post.now (omega (arith, below, as_long)) ∙ ap Some (sym c.in-Some.ensures.value) in
    let may = may_arm (outside g.K.Disk g.Q.Device g.E.Entropy g.X.Wire) c.args.state.now net w c.args.node ready c.in-Some.post.now there (fault_of c.args.arm) c.requires.fit in
    arm_done (outside g.K.Disk g.Q.Device g.E.Entropy g.X.Wire) c.args.state.now net w c.args.node ready c.in-Some.post.now there
    _ c.arm.new.post (with_post c.args.state.now c.args.node c.from.result c.in-Some.post.now c.arm.new.post place there) c.args.arm c.arm.ensures.armed
    (c.arm.ensures.action net w c.args.node (fault_of c.args.arm) may)
