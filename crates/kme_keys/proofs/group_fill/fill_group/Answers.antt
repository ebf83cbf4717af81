use Rattle.std.proofs.Common.{◌≡◌, ℕ, Err, None, true, false, refl, sym, ◌∙◌, ap}
use Rattle.std.specs.Prelude.{is_some}
use Rattle.net_model.specs.Groups.{routes_to}
use Rattle.net_model.specs.declared.reply.Reply.TheVariants.{NoRoute}
use Rattle.declared_site.specs.SiteOf.{site_of}
use Rattle.kme_keys.proofs.Deciding.{me_seen}
use Rattle.kme_keys.proofs.GroupsMade.{fill_refuses, fill_routed, not_there}
use Rattle.kme_keys.proofs.group_fill.fill_group.Goals as goal

pub returns-then-not-is_entitled_group : goal.returns-then-not-is_entitled_group
returns-then-not-is_entitled_group c v is_up up seen =
    let p = c.args.pool.now in
    let me = me_seen v c.args.store.now seen c.known.result.now c.me-me.result c.known.ensures c.me-me.ensures in
    fill_refuses (site_of c.args.site.now) is_up v p.master p.slaves.now p.bits c.args.count c.args.random.now c.is_entitled_group.result (c.is_entitled_group.ensures v me) (cc)

pub returns-then-not-has_routes : goal.returns-then-not-has_routes
returns-then-not-has_routes c v is_up up seen =
    let p = c.args.pool.now in
    let s = site_of c.args.site.now in
    let me = me_seen v c.args.store.now seen c.known.result.now c.me-me.result c.known.ensures c.me-me.ensures in
    let blocked : c.has_routes.result ≡ is_some (routes_to s is_up v.me p.slaves.now) = c.has_routes.ensures is_up up ∙ ap (λ (n : ℕ). is_some (routes_to s is_up n p.slaves.now)) (sym me) in
    let no_route : c.has_routes.result ≡ false = cc in
    fill_routed s is_up v p.master p.slaves.now p.bits c.args.count c.args.random.now c.is_entitled_group.result (c.is_entitled_group.ensures v me) (cc) None
    (not_there (routes_to s is_up v.me p.slaves.now) (sym no_route ∙ blocked)) (Err NoRoute) refl

pub returns : goal.returns
returns c v is_up up seen =
    let p = c.args.pool.now in
    let s = site_of c.args.site.now in
    let me = me_seen v c.args.store.now seen c.known.result.now c.me-me.result c.known.ensures c.me-me.ensures in
    let open_routes : c.has_routes.result ≡ is_some (routes_to s is_up v.me p.slaves.now) = c.has_routes.ensures is_up up ∙ ap (λ (n : ℕ). is_some (routes_to s is_up n p.slaves.now)) (sym me) in
    let all : c.has_routes.result ≡ true = cc in
    fill_routed s is_up v p.master p.slaves.now p.bits c.args.count c.args.random.now c.is_entitled_group.result (c.is_entitled_group.ensures v me) (cc) (routes_to s is_up v.me p.slaves.now)
    refl c.filled_group.result (c.filled_group.ensures v is_up up seen (sym open_routes ∙ all))
