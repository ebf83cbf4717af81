use Rattle.std.proofs.Common.{ℕ, List, ◌+◌, sym, ◌∙◌, ap, drop}
use Rattle.std.specs.Prelude.{is_some}
use Rattle.net_model.specs.Routes.{route}
use Rattle.net_model.specs.Groups.{routes_to}
use Rattle.declared_site.specs.SiteOf.{site_of}
use Rattle.kme_keys.proofs.Behind.{at_index}
use Rattle.kme_keys.proofs.Routed.{blocked, open_route}
use Rattle.kme_keys.proofs.routes.has_routes.Goals as goal

pub returns-in-None : goal.returns-in-None
returns-in-None c is_up up =
    let s = site_of c.args.site.now in
    let i = c.loop-slave.slave-index in
    let at = at_index c.args.slaves.now i c.slave-item.result c.loop-slave-test.true c.slave-item.is in
    sym (blocked s is_up c.args.me c.slave-item.result (drop (i + 1) c.args.slaves.now) (c.in-None.ensures is_up up ∙ ap (route s is_up c.args.me) c.home.ensures))
    ∙ ap (λ (ss : List ℕ). is_some (routes_to s is_up c.args.me ss)) (sym at) ∙ c.loop-slave.invariant is_up up

pub loop-slave-preserved : goal.loop-slave-preserved
loop-slave-preserved c is_up up =
    let s = site_of c.args.site.now in
    let i = c.loop-slave.slave-index in
    let at = at_index c.args.slaves.now i c.slave-item.result c.loop-slave-test.true c.slave-item.is in
    sym (open_route s is_up c.args.me c.slave-item.result (drop (i + 1) c.args.slaves.now) c.in-Some.field-0 (c.in-Some.ensures is_up up ∙ ap (route s is_up c.args.me) c.home.ensures))
    ∙ ap (λ (ss : List ℕ). is_some (routes_to s is_up c.args.me ss)) (sym at) ∙ c.loop-slave.invariant is_up up
