use Rattle.std.proofs.Common.{◌≡◌, refl, sym, ap, ◌∙◌, arith, Some}
use Rattle.std.specs.Prelude.{slice_get}
use Rattle.std.proofs.lemmas.Option.{slice_get-get_or}
use Rattle.net_model.specs.Site.{receiver}
use Rattle.world_state.proofs.Armed.{most_same, times_same}
use Rattle.world_state.proofs.Changes.{with_post}
use Rattle.world_state.proofs.Passing.{may_hear, hear_done}
use Rattle.world_state.proofs.Receivers.{same_receiver}
use Rattle.world_state.proofs.frames.come.Goals as goal
use Rattle.world_state.specs.Outside.{outside}

pub hear-requires : goal.hear-requires
hear-requires g c =
    let a = c.requires.ready in
    let place : c.from.result ≡ receiver a.0.site c.args.lane.now =
    c.from.ensures ∙ c.get.ensures.number ∙ c.receiver-node.ensures
    ∙ same_receiver (outside g.K.Disk g.Q.Device g.E.Entropy g.X.Wire) c.args.state.now a.0 a.1 c.args.lane.now a.4 c.requires.lane in
    let below = c.in-Some.ensures.variant.0 refl in
    let as_long = c.args.state.now.posts.ok.0 in
    let there = ap (slice_get c.args.state.now.posts.items) (sym place) ∙ slice_get-get_or c.args.state.now.posts.items c.from.result c.in-Some.post.now (omega (arith, below, as_long)) ∙ ap Some (sym c.in-Some.ensures.value) in
    record {
      asked = (
        a.0,
        a.1,
        a.2,
        may_hear (outside g.K.Disk g.Q.Device g.E.Entropy g.X.Wire) c.args.state.now a.0 a.1 c.args.lane.now a.2 a.4 c.requires.lane
            c.args.octets a.3 c.in-Some.post.now there,
      );
    }

pub returns-in-Some-clause-armed : goal.returns-in-Some-clause-armed
returns-in-Some-clause-armed g c =
    let a = c.requires.ready in
    let place : c.from.result ≡ receiver a.0.site c.args.lane.now =
    c.from.ensures ∙ c.get.ensures.number ∙ c.receiver-node.ensures
    ∙ same_receiver (outside g.K.Disk g.Q.Device g.E.Entropy g.X.Wire) c.args.state.now a.0 a.1 c.args.lane.now a.4 c.requires.lane in
    let below = c.in-Some.ensures.variant.0 refl in
    let as_long = c.args.state.now.posts.ok.0 in
    let at = slice_get-get_or c.args.state.now.posts.items c.from.result c.in-Some.post.now (omega (arith, below, as_long)) ∙ ap Some (sym c.in-Some.ensures.value) in
    let there = ap (slice_get c.args.state.now.posts.items) (sym place) ∙ at in
    let may = may_hear (outside g.K.Disk g.Q.Device g.E.Entropy g.X.Wire) c.args.state.now a.0 a.1 c.args.lane.now a.2 a.4 c.requires.lane
    c.args.octets a.3 c.in-Some.post.now there in
    let h = c.hear.ensures a.0 a.1 a.2 may in
    most_same g.K.Disk c.args.state.now.posts.items c.from.result c.in-Some.post.now c.hear.new.post at
    (times_same g.K.Disk g.E.Entropy _ _ c.in-Some.post.now c.hear.new.post h.counts)

pub returns-in-Some-clause-done : goal.returns-in-Some-clause-done
returns-in-Some-clause-done g c net w number seen ready =
    let place : c.from.result ≡ receiver net.site c.args.lane.now =
    c.from.ensures ∙ c.get.ensures.number ∙ c.receiver-node.ensures
    ∙ same_receiver (outside g.K.Disk g.Q.Device g.E.Entropy g.X.Wire) c.args.state.now net w c.args.lane.now ready c.requires.lane in
    let below = c.in-Some.ensures.variant.0 refl in
    let as_long = c.args.state.now.posts.ok.0 in
    let there = ap (slice_get c.args.state.now.posts.items) (sym place) ∙ slice_get-get_or c.args.state.now.posts.items c.from.result c.in-Some.post.now (omega (arith, below, as_long)) ∙ ap Some (sym c.in-Some.ensures.value) in
    let may = may_hear (outside g.K.Disk g.Q.Device g.E.Entropy g.X.Wire) c.args.state.now net w c.args.lane.now number ready c.requires.lane
    c.args.octets seen c.in-Some.post.now there in
    hear_done (outside g.K.Disk g.Q.Device g.E.Entropy g.X.Wire) c.args.state.now net w c.args.lane.now number ready c.requires.lane
    c.args.octets seen c.in-Some.post.now there _ c.hear.new.post
    (with_post c.args.state.now (receiver net.site c.args.lane.now) c.from.result c.in-Some.post.now c.hear.new.post place there) c.hear.result (c.hear.ensures net w number may)
