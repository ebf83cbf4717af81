use Rattle.std.proofs.Common.{◌≡◌, ℕ, List, refl, sym, ap, ◌∙◌, arith, Some}
use Rattle.std.specs.Prelude.{slice_get}
use Rattle.std.proofs.lemmas.Option.{slice_get-get_or}
use Rattle.net_model.specs.Site.{receiver}
use Rattle.net_model.specs.Action.{Forge, Ok as Fine}
use Rattle.declared_site.specs.SiteOf.{site_of}
use Rattle.run_ops.specs.Acting.{tampered}
use Rattle.world_nodes.specs.Tampering.{is_forged}
use Rattle.world_state.proofs.Armed.{most_same, times_same}
use Rattle.world_state.proofs.Changes.{with_post}
use Rattle.world_state.proofs.Receivers.{same_receiver}
use Rattle.world_state.proofs.Resting.{same_parts, rests_still}
use Rattle.world_state.proofs.Tampers.{forges_on, may_forge, forge_done}
use Rattle.world_state.proofs.tampered_octets.bring_made.Goals as goal
use Rattle.world_state.specs.Outside.{outside}

pub forge-requires : goal.forge-requires
forge-requires g c =
    let a = c.requires.ready in
    let place : c.from.result ≡ receiver a.0.site c.args.lane.now =
    c.from.ensures ∙ c.get.ensures.number ∙ c.receiver-node.ensures
    ∙ same_receiver (outside g.K.Disk g.Q.Device g.E.Entropy g.X.Wire) c.args.state.now a.0 a.1 c.args.lane.now a.2 (forges_on (site_of c.args.state.now.site) c.args.lane.now c.args.octets c.requires.fit) in
    let below = c.in-Some.ensures.variant.0 refl in
    let as_long = c.args.state.now.posts.ok.0 in
    let at = slice_get-get_or c.args.state.now.posts.items c.from.result c.in-Some.post.now (omega (arith, below, as_long)) ∙ ap Some (sym c.in-Some.ensures.value) in
    let there = ap (slice_get c.args.state.now.posts.items) (sym place) ∙ at in
    let forged : c.in-Ok.forged ≡ is_forged a.0 a.1 c.args.lane.now c.args.octets =
    c.in-Ok.ensures a.0 a.1 a.2 ∙ ap (λ (bytes : List ℕ). is_forged a.0 a.1 c.args.lane.now bytes) c.as_slice.ensures in
    record {
      asked = (
        a.0,
        a.1,
        may_forge (outside g.K.Disk g.Q.Device g.E.Entropy g.X.Wire) c.args.state.now a.0 a.1 c.args.lane.now a.2 (forges_on (site_of c.args.state.now.site) c.args.lane.now c.args.octets c.requires.fit)
            c.args.octets c.in-Ok.forged forged c.in-Some.post.now there c.requires.fit,
      );
    }

pub returns-in-Err-clause-left : goal.returns-in-Err-clause-left
returns-in-Err-clause-left g c net w ready =
    rests_still (outside g.K.Disk g.Q.Device g.E.Entropy g.X.Wire) net w
    c.args.state.now c.args.state.now (same_parts c.args.state.now) ready.stands (Forge c.args.lane.now c.args.octets Fine)

pub returns-in-Some-clause-armed : goal.returns-in-Some-clause-armed
returns-in-Some-clause-armed g c =
    let a = c.requires.ready in
    let place : c.from.result ≡ receiver a.0.site c.args.lane.now =
    c.from.ensures ∙ c.get.ensures.number ∙ c.receiver-node.ensures
    ∙ same_receiver (outside g.K.Disk g.Q.Device g.E.Entropy g.X.Wire) c.args.state.now a.0 a.1 c.args.lane.now a.2 (forges_on (site_of c.args.state.now.site) c.args.lane.now c.args.octets c.requires.fit) in
    let below = c.in-Some.ensures.variant.0 refl in
    let as_long = c.args.state.now.posts.ok.0 in
    let at = slice_get-get_or c.args.state.now.posts.items c.from.result c.in-Some.post.now (omega (arith, below, as_long)) ∙ ap Some (sym c.in-Some.ensures.value) in
    let there = ap (slice_get c.args.state.now.posts.items) (sym place) ∙ at in
    let forged : c.in-Ok.forged ≡ is_forged a.0 a.1 c.args.lane.now c.args.octets =
    c.in-Ok.ensures a.0 a.1 a.2 ∙ ap (λ (bytes : List ℕ). is_forged a.0 a.1 c.args.lane.now bytes) c.as_slice.ensures in
    let may = may_forge (outside g.K.Disk g.Q.Device g.E.Entropy g.X.Wire) c.args.state.now a.0 a.1 c.args.lane.now a.2 (forges_on (site_of c.args.state.now.site) c.args.lane.now c.args.octets c.requires.fit)
    c.args.octets c.in-Ok.forged forged c.in-Some.post.now there c.requires.fit in
    let h = c.forge.ensures a.0 a.1 may in
    most_same g.K.Disk c.args.state.now.posts.items c.from.result c.in-Some.post.now c.forge.new.post at
    (times_same g.K.Disk g.E.Entropy _ _ c.in-Some.post.now c.forge.new.post h.counts)

pub returns-in-Some-clause-done : goal.returns-in-Some-clause-done
returns-in-Some-clause-done g c net w ready =
    let place : c.from.result ≡ receiver net.site c.args.lane.now =
    c.from.ensures ∙ c.get.ensures.number ∙ c.receiver-node.ensures
    ∙ same_receiver (outside g.K.Disk g.Q.Device g.E.Entropy g.X.Wire) c.args.state.now net w c.args.lane.now ready (forges_on (site_of c.args.state.now.site) c.args.lane.now c.args.octets c.requires.fit) in
    let below = c.in-Some.ensures.variant.0 refl in
    let as_long = c.args.state.now.posts.ok.0 in
    let at = slice_get-get_or c.args.state.now.posts.items c.from.result c.in-Some.post.now (omega (arith, below, as_long)) ∙ ap Some (sym c.in-Some.ensures.value) in
    let there = ap (slice_get c.args.state.now.posts.items) (sym place) ∙ at in
    let forged : c.in-Ok.forged ≡ is_forged net w c.args.lane.now c.args.octets =
    c.in-Ok.ensures net w ready ∙ ap (λ (bytes : List ℕ). is_forged net w c.args.lane.now bytes) c.as_slice.ensures in
    let may = may_forge (outside g.K.Disk g.Q.Device g.E.Entropy g.X.Wire) c.args.state.now net w c.args.lane.now ready (forges_on (site_of c.args.state.now.site) c.args.lane.now c.args.octets c.requires.fit)
    c.args.octets c.in-Ok.forged forged c.in-Some.post.now there c.requires.fit in
    let h = c.forge.ensures net w may in
    forge_done (outside g.K.Disk g.Q.Device g.E.Entropy g.X.Wire) c.args.state.now net w c.args.lane.now ready (forges_on (site_of c.args.state.now.site) c.args.lane.now c.args.octets c.requires.fit)
    c.in-Some.post.now c.forge.new.post _
    (with_post c.args.state.now (receiver net.site c.args.lane.now) c.from.result c.in-Some.post.now c.forge.new.post place there)
    c.forge.result (tampered c.came.result) c.came.ensures c.args.octets h
