use Rattle.std.proofs.Common.{◌≡◌, ◌<◌, ◌+◌, [], ◌∷◌, ◌++◌, length, take, sym, ap, subst, ◌∙◌, arith}
use Rattle.std.specs.Prelude.{get_or}
use Rattle.net_model.specs.Site.{sender}
use Rattle.declared_site.specs.SiteOf.{site_of}
use Rattle.world_state.proofs.OneSide.{read_at}
use Rattle.par_managers.specs.Opening.{issued_in, AreOpened, AllOpened}
use Rattle.par_managers.proofs.Openings.{opened_next, sender_there, used_few, used_issued, issued_received, issued_is}
use Rattle.par_managers.proofs.opening_shares.open_each.Goals as goal
use Rattle.world_state.specs.Outside.{outside}

pub index-requires : goal.index-requires
index-requires g c =
    let a = c.requires.ready in
    let s = c.args.state.now in
    let side = c.side-item.result in
    let i = c.loop-side.side-index in
    let there = sender_there (outside g.K.Disk g.Q.Device g.E.Entropy g.X.Wire) s a.0 a.1 a.2 i side
    (subst (λ xs. i < length xs) c.requires.all c.loop-side-test.true) (subst (λ xs. side ≡ get_or xs i side) c.requires.all c.side-item.is) in
    let place : c.from.result ≡ sender (site_of s.site) side.lane = c.from.ensures ∙ c.get.ensures.number ∙ c.sender-node.ensures ∙ ap (sender (site_of s.site)) c.lane.ensures in
    let size = s.posts.ok.0 in
    omega (arith, there, place, size)

pub issued-issued-requires : goal.issued-issued-requires
issued-issued-requires g c =
    let a = c.requires.ready in
    let side = c.side-item.result in
    let i = c.loop-side.side-index in
    used_few (outside g.K.Disk g.Q.Device g.E.Entropy g.X.Wire) c.args.state.now a.0 a.1 a.2 i side
    (subst (λ xs. i < length xs) c.requires.all c.loop-side-test.true) (subst (λ xs. side ≡ get_or xs i side) c.requires.all c.side-item.is)

pub open-requires-clause-used : goal.open-requires-clause-used
open-requires-clause-used g c =
    let a = c.requires.ready in
    let s = c.args.state.now in
    let side = c.side-item.result in
    let i = c.loop-side.side-index in
    let below = subst (λ xs. i < length xs) c.requires.all c.loop-side-test.true in
    let is = subst (λ xs. side ≡ get_or xs i side) c.requires.all c.side-item.is in
    let there = sender_there (outside g.K.Disk g.Q.Device g.E.Entropy g.X.Wire) s a.0 a.1 a.2 i side below is in
    let place : c.from.result ≡ sender (site_of s.site) side.lane = c.from.ensures ∙ c.get.ensures.number ∙ c.sender-node.ensures ∙ ap (sender (site_of s.site)) c.lane.ensures in
    let at = read_at s.posts.items c.from.result (sender (site_of s.site) side.lane) c.index.result.now place there c.index.ensures in
    let used = used_issued (outside g.K.Disk g.Q.Device g.E.Entropy g.X.Wire) s a.0 a.1 a.2 i side below is c.index.result.now at in
    let same = c.issued-issued.ensures in
    omega (arith, used, same)

pub open-requires-clause-issued : goal.open-requires-clause-issued
open-requires-clause-issued g c =
    let a = c.requires.ready in
    let s = c.args.state.now in
    let side = c.side-item.result in
    let i = c.loop-side.side-index in
    let below = subst (λ xs. i < length xs) c.requires.all c.loop-side-test.true in
    let is = subst (λ xs. side ≡ get_or xs i side) c.requires.all c.side-item.is in
    let there = sender_there (outside g.K.Disk g.Q.Device g.E.Entropy g.X.Wire) s a.0 a.1 a.2 i side below is in
    let place : c.from.result ≡ sender (site_of s.site) side.lane = c.from.ensures ∙ c.get.ensures.number ∙ c.sender-node.ensures ∙ ap (sender (site_of s.site)) c.lane.ensures in
    let at = read_at s.posts.items c.from.result (sender (site_of s.site) side.lane) c.index.result.now place there c.index.ensures in
    let issued = issued_received (outside g.K.Disk g.Q.Device g.E.Entropy g.X.Wire) s a.0 a.1 a.2 i side below is c.index.result.now at in
    let same = c.issued-issued.ensures in
    omega (arith, issued, same)

pub loop-side-preserved : goal.loop-side-preserved
loop-side-preserved g c =
    let a = c.requires.ready in
    let s = c.args.state.now in
    let sides = c.args.sides.now in
    let side = c.side-item.result in
    let i = c.loop-side.side-index in
    let lane = c.in_ok-lane.lane in
    let below = subst (λ xs. i < length xs) c.requires.all c.loop-side-test.true in
    let is = subst (λ xs. side ≡ get_or xs i side) c.requires.all c.side-item.is in
    let there = sender_there (outside g.K.Disk g.Q.Device g.E.Entropy g.X.Wire) s a.0 a.1 a.2 i side below is in
    let place : c.from.result ≡ sender (site_of s.site) side.lane = c.from.ensures ∙ c.get.ensures.number ∙ c.sender-node.ensures ∙ ap (sender (site_of s.site)) c.lane.ensures in
    let at = read_at s.posts.items c.from.result (sender (site_of s.site) side.lane) c.index.result.now place there c.index.ensures in
    let same = c.issued-issued.ensures
    ∙ issued_is (outside g.K.Disk g.Q.Device g.E.Entropy g.X.Wire) s a.0 a.1 a.2 i side below is c.index.result.now at in
    let one : AreOpened (issued_in s side) side lane.shares lane.issuer lane.used = subst (λ n. AreOpened n side lane.shares lane.issuer lane.used) same c.in_ok-lane.ensures in
    let ds = c.loop-side.shares.items in
    let rs = c.loop-side.issuers.items in
    let us = c.loop-side.used.items in
    let more = opened_next s sides i side c.loop-side-test.true c.side-item.is ds rs us lane.shares lane.issuer lane.used c.loop-side.invariant one in
    subst (λ xs. AllOpened s (take (i + 1) sides) xs c.push-in-loop-side.new.self.items c.push-in-loop-side-2.new.self.items) (sym c.in_ok-push.ensures.items)
    (subst (λ xs. AllOpened s (take (i + 1) sides) (ds ++ lane.shares ∷ []) xs c.push-in-loop-side-2.new.self.items) (sym c.in_ok-push-2.ensures.items)
    (subst (λ xs. AllOpened s (take (i + 1) sides) (ds ++ lane.shares ∷ []) (rs ++ lane.issuer ∷ []) xs) (sym c.in_ok-push-3.ensures.items) more))
