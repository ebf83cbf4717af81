use Rattle.std.proofs.Common.{◌≡◌, ℕ, List, refl, sym, ap, ◌∙◌, arith, Some}
use Rattle.std.specs.Prelude.{slice_get}
use Rattle.std.proofs.lemmas.Option.{slice_get-get_or}
use Rattle.net_model.specs.Site.{receiver}
use Rattle.net_model.specs.Action.{Flip, Ok as Fine}
use Rattle.run_ops.specs.Acting.{tampered}
use Rattle.world_nodes.specs.Tampering.{is_forged}
use Rattle.world_state.proofs.Armed.{most_same, times_same}
use Rattle.world_state.proofs.Changes.{with_post}
use Rattle.world_state.proofs.Receivers.{same_receiver}
use Rattle.world_state.proofs.Resting.{same_parts, rests_still}
use Rattle.world_state.proofs.Tampers.{may_flip, flip_done}
use Rattle.world_state.proofs.tampered_octets.bring_changed.Goals as goal
use Rattle.world_state.specs.Outside.{outside}

pub returns-in-Err-clause-left : goal.returns-in-Err-clause-left
returns-in-Err-clause-left g c net w number bit ready =
    rests_still (outside g.K.Disk g.Q.Device g.E.Entropy g.X.Wire) net w
    c.args.state.now c.args.state.now (same_parts c.args.state.now) ready.stands (Flip c.args.lane.now number bit Fine)

pub returns-in-Some-clause-armed : goal.returns-in-Some-clause-armed
returns-in-Some-clause-armed g c =
    let a = c.requires.ready in
    let place : c.from.result ≡ receiver a.0.site c.args.lane.now =
    c.from.ensures ∙ c.get.ensures.number ∙ c.receiver-node.ensures
    ∙ same_receiver (outside g.K.Disk g.Q.Device g.E.Entropy g.X.Wire) c.args.state.now a.0 a.1 c.args.lane.now a.5 c.requires.lane in
    let below = c.in-Some.ensures.variant.0 refl in
    let as_long = c.args.state.now.posts.ok.0 in
    let at = slice_get-get_or c.args.state.now.posts.items c.from.result c.in-Some.post.now (omega (arith, below, as_long)) ∙ ap Some (sym c.in-Some.ensures.value) in
    let there = ap (slice_get c.args.state.now.posts.items) (sym place) ∙ at in
    let forged : c.in-Ok.forged ≡ is_forged a.0 a.1 c.args.lane.now c.args.octets =
    c.in-Ok.ensures a.0 a.1 a.5 ∙ ap (λ (bytes : List ℕ). is_forged a.0 a.1 c.args.lane.now bytes) c.as_slice.ensures in
    let may = may_flip (outside g.K.Disk g.Q.Device g.E.Entropy g.X.Wire) c.args.state.now a.0 a.1 c.args.lane.now a.5 c.requires.lane
    c.args.octets c.in-Ok.forged forged c.in-Some.post.now there a.2 a.3 a.4 in
    let h = c.flip.ensures a.0 a.1 a.2 a.3 may in
    most_same g.K.Disk c.args.state.now.posts.items c.from.result c.in-Some.post.now c.flip.new.post at
    (times_same g.K.Disk g.E.Entropy _ _ c.in-Some.post.now c.flip.new.post h.counts)

pub returns-in-Some-clause-done : goal.returns-in-Some-clause-done
returns-in-Some-clause-done g c net w number bit changed ready =
    let place : c.from.result ≡ receiver net.site c.args.lane.now =
    c.from.ensures ∙ c.get.ensures.number ∙ c.receiver-node.ensures
    ∙ same_receiver (outside g.K.Disk g.Q.Device g.E.Entropy g.X.Wire) c.args.state.now net w c.args.lane.now ready c.requires.lane in
    let below = c.in-Some.ensures.variant.0 refl in
    let as_long = c.args.state.now.posts.ok.0 in
    let at = slice_get-get_or c.args.state.now.posts.items c.from.result c.in-Some.post.now (omega (arith, below, as_long)) ∙ ap Some (sym c.in-Some.ensures.value) in
    let there = ap (slice_get c.args.state.now.posts.items) (sym place) ∙ at in
    let forged : c.in-Ok.forged ≡ is_forged net w c.args.lane.now c.args.octets =
    c.in-Ok.ensures net w ready ∙ ap (λ (bytes : List ℕ). is_forged net w c.args.lane.now bytes) c.as_slice.ensures in
    let may = may_flip (outside g.K.Disk g.Q.Device g.E.Entropy g.X.Wire) c.args.state.now net w c.args.lane.now ready c.requires.lane
    c.args.octets c.in-Ok.forged forged c.in-Some.post.now there number bit changed in
    let h = c.flip.ensures net w number bit may in
    flip_done (outside g.K.Disk g.Q.Device g.E.Entropy g.X.Wire) c.args.state.now net w c.args.lane.now ready c.requires.lane
    c.in-Some.post.now c.flip.new.post _
    (with_post c.args.state.now (receiver net.site c.args.lane.now) c.from.result c.in-Some.post.now c.flip.new.post place there)
    c.flip.result (tampered c.came.result) c.came.ensures number bit h
