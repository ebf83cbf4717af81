use Rattle.std.proofs.Common.{ℕ, List, ◌+◌, sym, ◌∙◌, ap, drop}
use Rattle.net_model.specs.Routes.{route}
use Rattle.net_model.specs.Groups.{routes_to}
use Rattle.declared_site.specs.SiteOf.{site_of}
use Rattle.kme_keys.proofs.Behind.{at_index, past_all}
use Rattle.kme_keys.proofs.Routed.{with_front, one_route, whole_front}
use Rattle.kme_keys.proofs.routes.routes.Goals as goal

pub loop-slave-preserved : goal.loop-slave-preserved
loop-slave-preserved c is_up up =
    let s = site_of c.args.site.now in
    let i = c.loop-slave.slave-index in
    let rest = drop (i + 1) c.args.slaves.now in
    let at = at_index c.args.slaves.now i c.slave-item.result c.loop-slave-test.true c.slave-item.is in
    c.loop-slave.invariant is_up up
    ∙ ap (λ (ss : List ℕ). with_front c.loop-slave.routes.items (routes_to s is_up c.args.me ss)) at
    ∙ one_route s is_up c.args.me c.slave-item.result rest c.in-Some.route c.loop-slave.routes.items (c.in-Some.ensures is_up up ∙ ap (route s is_up c.args.me) c.home.ensures)
    ∙ ap (λ (front : List (ℕ × List ℕ)). with_front front (routes_to s is_up c.args.me rest)) (sym c.in_ok-push-in-Some.ensures.items)

pub returns : goal.returns
returns c is_up up =
    let s = site_of c.args.site.now in
    let at = past_all c.args.slaves.now c.loop-slave.slave-index c.loop-slave-test.false in
    c.loop-slave.invariant is_up up
    ∙ ap (λ (ss : List ℕ). with_front c.loop-slave.routes.items (routes_to s is_up c.args.me ss)) at
    ∙ whole_front c.loop-slave.routes.items
