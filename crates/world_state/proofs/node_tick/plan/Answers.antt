use Rattle.std.proofs.Common.{◌≡◌, refl, sym, ap, ◌∙◌, arith, Some}
use Rattle.std.specs.Prelude.{slice_get}
use Rattle.std.proofs.lemmas.Option.{slice_get-get_or}
use Rattle.net_model.specs.declared.event.Event.TheVariants.{Plan}
use Rattle.net_model.specs.Action.{Ask}
use Rattle.world_state.proofs.Armed.{most_same, times_same}
use Rattle.world_state.proofs.AsksOne.{asks_post}
use Rattle.world_state.proofs.Changes.{with_post}
use Rattle.world_state.proofs.Disks.{has_disks}
use Rattle.world_state.proofs.OnePost.{stands_after}
use Rattle.world_state.proofs.PlanAndNote.{may_plan}
use Rattle.world_state.proofs.PostTallies.{asked_tallied}
use Rattle.world_state.proofs.node_tick.plan.Goals as goal
use Rattle.world_state.specs.Outside.{outside}

pub ask-requires : goal.ask-requires
ask-requires g c =
    let place : c.from.result ≡ c.args.node = c.from.ensures ∙ c.get.ensures.number in
    let below = c.in-Some.ensures.variant.0 refl in
    let as_long = c.args.state.now.posts.ok.0 in
    let there = ap (slice_get c.args.state.now.posts.items) (sym place) ∙ slice_get-get_or c.args.state.now.posts.items c.from.result c.in-Some.post.now (omega (arith, below, as_long)) ∙ ap Some (sym c.in-Some.ensures.value) in
    let a = c.requires.ready in
    record { asked = (a.0, a.1, c.args.node, may_plan (outside g.K.Disk g.Q.Device g.E.Entropy g.X.Wire) c.args.state.now a.0 a.1 c.args.node c.in-Some.post.now there a.2.stands) }

pub returns-in-Some-clause-armed : goal.returns-in-Some-clause-armed
returns-in-Some-clause-armed g c =
    let place : c.from.result ≡ c.args.node = c.from.ensures ∙ c.get.ensures.number in
    let below = c.in-Some.ensures.variant.0 refl in
    let as_long = c.args.state.now.posts.ok.0 in
    let at = slice_get-get_or c.args.state.now.posts.items c.from.result c.in-Some.post.now (omega (arith, below, as_long)) ∙ ap Some (sym c.in-Some.ensures.value) in
    let there = ap (slice_get c.args.state.now.posts.items) (sym place) ∙ at in
    let a = c.requires.ready in
    let may = may_plan (outside g.K.Disk g.Q.Device g.E.Entropy g.X.Wire) c.args.state.now a.0 a.1 c.args.node c.in-Some.post.now there a.2.stands in
    most_same g.K.Disk c.args.state.now.posts.items c.from.result c.in-Some.post.now c.ask.new.post at
    (times_same g.K.Disk g.E.Entropy _ _ c.in-Some.post.now c.ask.new.post (c.ask.ensures a.0 a.1 c.args.node may).counts)

pub returns-in-Some-clause-planned : goal.returns-in-Some-clause-planned
returns-in-Some-clause-planned g c net w ready =
    let place : c.from.result ≡ c.args.node = c.from.ensures ∙ c.get.ensures.number in
    let below = c.in-Some.ensures.variant.0 refl in
    let as_long = c.args.state.now.posts.ok.0 in
    let there = ap (slice_get c.args.state.now.posts.items) (sym place) ∙ slice_get-get_or c.args.state.now.posts.items c.from.result c.in-Some.post.now (omega (arith, below, as_long)) ∙ ap Some (sym c.in-Some.ensures.value) in
    let may = may_plan (outside g.K.Disk g.Q.Device g.E.Entropy g.X.Wire) c.args.state.now net w c.args.node c.in-Some.post.now there ready.stands in
    let asked = c.ask.ensures net w c.args.node may in
    let change = with_post c.args.state.now c.args.node c.from.result c.in-Some.post.now c.ask.new.post place there in
    record {
      environment = asked.environment;
      may = asked.may;
      said = asked.said;
      stands = stands_after (outside g.K.Disk g.Q.Device g.E.Entropy g.X.Wire) c.args.state.now _ net w c.args.node c.in-Some.post.now c.ask.new.post change ready.stands
          (Ask c.args.node Plan asked.environment) asked.may (asks_post net.site c.args.node Plan asked.environment) asked.stands;
      tallied = asked_tallied (outside g.K.Disk g.Q.Device g.E.Entropy g.X.Wire) net.site c.args.state.now _ c.args.node c.in-Some.post.now c.ask.new.post change
          (has_disks (outside g.K.Disk g.Q.Device g.E.Entropy g.X.Wire) c.args.state.now net w ready.stands) Plan asked.environment asked.counts;
    }
