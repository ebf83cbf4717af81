use Rattle.std.proofs.Common.{Err, refl, Some, None, sym, ◌∙◌}
use Rattle.net_model.specs.Routes.{route}
use Rattle.net_model.specs.declared.reply.Reply.TheVariants.{NoRoute}
use Rattle.declared_site.specs.SiteOf.{site_of}
use Rattle.kme_keys.proofs.Deciding.{me_seen}
use Rattle.kme_keys.proofs.Made.{fill_refuses, fill_decides}
use Rattle.kme_keys.proofs.fresh_keys.fill.Goals as goal

pub returns-then-not-is_entitled : goal.returns-then-not-is_entitled
returns-then-not-is_entitled c v is_up up seen =
    let p = c.args.pool.now in
    let me = me_seen v c.args.store.now seen c.known.result.now c.me-me.result c.known.ensures c.me-me.ensures in
    fill_refuses (site_of c.args.site.now) is_up v p.master p.slave p.bits c.args.count c.args.random.now c.is_entitled.result (c.is_entitled.ensures v me) (cc)

pub returns-in-None : goal.returns-in-None
returns-in-None c v is_up up seen =
    let p = c.args.pool.now in
    let me = me_seen v c.args.store.now seen c.known.result.now c.me-me.result c.known.ensures c.me-me.ensures in
    let routed = c.in-None.ensures is_up up ∙ (λ i. route (site_of c.args.site.now) is_up (sym me i) (c.home.ensures i)) in
    fill_decides (site_of c.args.site.now) is_up v p.master p.slave p.bits c.args.count c.args.random.now c.is_entitled.result (c.is_entitled.ensures v me) (cc) None routed (Err NoRoute) refl

pub returns-in-Some : goal.returns-in-Some
returns-in-Some c v is_up up seen =
    let p = c.args.pool.now in
    let me = me_seen v c.args.store.now seen c.known.result.now c.me-me.result c.known.ensures c.me-me.ensures in
    let routed = c.in-Some.ensures is_up up ∙ (λ i. route (site_of c.args.site.now) is_up (sym me i) (c.home.ensures i)) in
    fill_decides (site_of c.args.site.now) is_up v p.master p.slave p.bits c.args.count c.args.random.now c.is_entitled.result (c.is_entitled.ensures v me) (cc) (Some c.in-Some.route) routed c.filled.result (c.filled.ensures v seen)
