use Rattle.std.proofs.Common.{◌≡◌, refl, sym, ap, ◌∙◌, arith, Some}
use Rattle.std.specs.Prelude.{slice_get, slice_set, is_ok}
use Rattle.std.proofs.lemmas.Option.{slice_get-get_or}
use Rattle.world_state.specs.Armed.{most_armed}
use Rattle.world_state.proofs.Armed.{most_same, times_same}
use Rattle.world_state.proofs.BeginsAgain.{may_start, begun}
use Rattle.world_state.proofs.OneLife.{put_in, node_below}
use Rattle.world_state.proofs.node_start.begin.Goals as goal
use Rattle.world_state.specs.Outside.{outside}

pub returns-clause-armed : goal.returns-clause-armed
returns-clause-armed g c =
    let place : c.from-place.result ≡ c.args.node = c.from-place.ensures ∙ c.get.ensures.number in
    let net = c.requires.ready.0 in
    let w = c.requires.ready.1 in
    let below = node_below (outside g.K.Disk g.Q.Device g.E.Entropy g.X.Wire) c.args.state.now net w c.args.node c.requires.ready.2 c.requires.fit in
    let at = slice_get-get_or c.args.state.now.posts.items c.from-place.result c.remove-post.result (omega (arith, below, place)) ∙ ap Some (sym c.remove-post.ensures.value) in
    let there = ap (slice_get c.args.state.now.posts.items) (sym place) ∙ at in
    let may = may_start (outside g.K.Disk g.Q.Device g.E.Entropy g.X.Wire) c.args.state.now net w c.args.node c.requires.ready.2 c.requires.fit c.remove-post.result there in
    let h = c.start-post.ensures net w may in
    let room = c.args.state.now.posts.ok.1 in
    let shorter = c.remove-post.ensures.len in
    let same = c.remove-post.ensures.capacity in
    let is = c.insert.ensures.succeeds (omega (arith, room, shorter, same)) in
    let set = put_in c.args.state.now.posts.items c.remove-post.new.self.items c.insert.new.self.items c.from-place.result c.remove-post.result c.start-post.result.0 (is_ok c.insert.result) at c.remove-post.ensures.items c.insert.ensures.items is in
    ap (most_armed g.K.Disk) set
    ∙ most_same g.K.Disk c.args.state.now.posts.items c.from-place.result c.remove-post.result c.start-post.result.0 at
    (times_same g.K.Disk g.E.Entropy _ _ c.remove-post.result c.start-post.result.0 h.counts)

pub returns-clause-begun : goal.returns-clause-begun
returns-clause-begun g c net w ready =
    let place : c.from-place.result ≡ c.args.node = c.from-place.ensures ∙ c.get.ensures.number in
    let below = node_below (outside g.K.Disk g.Q.Device g.E.Entropy g.X.Wire) c.args.state.now net w c.args.node ready c.requires.fit in
    let at = slice_get-get_or c.args.state.now.posts.items c.from-place.result c.remove-post.result (omega (arith, below, place)) ∙ ap Some (sym c.remove-post.ensures.value) in
    let there = ap (slice_get c.args.state.now.posts.items) (sym place) ∙ at in
    let may = may_start (outside g.K.Disk g.Q.Device g.E.Entropy g.X.Wire) c.args.state.now net w c.args.node ready c.requires.fit c.remove-post.result there in
    let room = c.args.state.now.posts.ok.1 in
    let shorter = c.remove-post.ensures.len in
    let same = c.remove-post.ensures.capacity in
    let is = c.insert.ensures.succeeds (omega (arith, room, shorter, same)) in
    let set = put_in c.args.state.now.posts.items c.remove-post.new.self.items c.insert.new.self.items c.from-place.result c.remove-post.result c.start-post.result.0 (is_ok c.insert.result) at c.remove-post.ensures.items c.insert.ensures.items is in
    begun (outside g.K.Disk g.Q.Device g.E.Entropy g.X.Wire) c.args.state.now net w c.args.node ready
    c.remove-post.result _ c.start-post.result.0
    (record { site = refl; there = there; posts = set ∙ ap (λ n. slice_set c.args.state.now.posts.items n c.start-post.result.0) place; lanes = refl; devices = refl; up = refl }) c.start-post.result.1 (c.start-post.ensures net w may)
