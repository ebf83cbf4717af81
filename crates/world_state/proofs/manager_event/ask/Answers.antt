use Rattle.std.proofs.Common.{◌≡◌, refl, sym, ap, ◌∙◌, arith, Some}
use Rattle.std.specs.Prelude.{slice_get}
use Rattle.std.proofs.lemmas.Option.{slice_get-get_or}
use Rattle.world_state.proofs.Armed.{most_same, times_same}
use Rattle.world_state.proofs.AsksOne.{may_ask, asked_done}
use Rattle.world_state.proofs.Changes.{with_post}
use Rattle.world_state.proofs.manager_event.ask.Goals as goal
use Rattle.world_state.specs.Outside.{outside}

pub ask-requires : goal.ask-requires
ask-requires g c =
    let place : c.from.result ≡ c.args.node = c.from.ensures ∙ c.get.ensures.number in
    let below = c.in-Some.ensures.variant.0 refl in
    let as_long = c.args.state.now.posts.ok.0 in
    let there = ap (slice_get c.args.state.now.posts.items) (sym place) ∙ slice_get-get_or c.args.state.now.posts.items c.from.result c.in-Some.post.now (omega (arith, below, as_long)) ∙ ap Some (sym c.in-Some.ensures.value) in
    let net = c.requires.ready.0 in
    let w = c.requires.ready.1 in
    record {
      asked = (net, w, c.args.node, may_ask (outside g.K.Disk g.Q.Device g.E.Entropy g.X.Wire) c.args.state.now net w c.args.node c.args.event.now c.requires.ready.2 c.requires.fit c.in-Some.post.now there);
    }

pub returns-in-Some-clause-armed : goal.returns-in-Some-clause-armed
returns-in-Some-clause-armed g c =
    let place : c.from.result ≡ c.args.node = c.from.ensures ∙ c.get.ensures.number in
    let below = c.in-Some.ensures.variant.0 refl in
    let as_long = c.args.state.now.posts.ok.0 in
    let at = slice_get-get_or c.args.state.now.posts.items c.from.result c.in-Some.post.now (omega (arith, below, as_long)) ∙ ap Some (sym c.in-Some.ensures.value) in
    let there = ap (slice_get c.args.state.now.posts.items) (sym place) ∙ at in
    let net = c.requires.ready.0 in
    let w = c.requires.ready.1 in
    let may = may_ask (outside g.K.Disk g.Q.Device g.E.Entropy g.X.Wire) c.args.state.now net w c.args.node c.args.event.now c.requires.ready.2 c.requires.fit c.in-Some.post.now there in
    let h = c.ask.ensures net w c.args.node may in
    most_same g.K.Disk c.args.state.now.posts.items c.from.result c.in-Some.post.now c.ask.new.post at
    (times_same g.K.Disk g.E.Entropy _ _ c.in-Some.post.now c.ask.new.post h.counts)

pub returns-in-Some-clause-done : goal.returns-in-Some-clause-done
returns-in-Some-clause-done g c net w ready =
    let place : c.from.result ≡ c.args.node = c.from.ensures ∙ c.get.ensures.number in
    let below = c.in-Some.ensures.variant.0 refl in
    let as_long = c.args.state.now.posts.ok.0 in
    let there = ap (slice_get c.args.state.now.posts.items) (sym place) ∙ slice_get-get_or c.args.state.now.posts.items c.from.result c.in-Some.post.now (omega (arith, below, as_long)) ∙ ap Some (sym c.in-Some.ensures.value) in
    let may = may_ask (outside g.K.Disk g.Q.Device g.E.Entropy g.X.Wire) c.args.state.now net w c.args.node c.args.event.now ready c.requires.fit c.in-Some.post.now there in
    asked_done (outside g.K.Disk g.Q.Device g.E.Entropy g.X.Wire) c.args.state.now net w c.args.node c.args.event.now ready c.requires.fit c.in-Some.post.now there
    _ c.ask.new.post c.ask.result (with_post c.args.state.now c.args.node c.from.result c.in-Some.post.now c.ask.new.post place there) (c.ask.ensures net w c.args.node may)
