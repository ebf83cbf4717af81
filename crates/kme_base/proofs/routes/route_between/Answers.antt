use Rattle.std.proofs.Common.{◌≡◌, ◌≢◌, ap, refl, sym, None, Err}
use Rattle.net_model.specs.Routes.{route}
use Rattle.declared_site.specs.SiteOf.{site_of}
use Rattle.route_table.specs.declared.route_refusal.RouteRefusal.TheVariants.{SameNode, NoRoute}
use Rattle.kme_base.proofs.Joined.{are_alike}
use Rattle.kme_base.proofs.Walks.{same_node, no_route, least_walk}
use Rattle.kme_base.proofs.routes.route_between.Goals as goal

pub returns-in-Ok : goal.returns-in-Ok
returns-in-Ok c = λ is_up same.
    let h = c.in-Ok.ensures in
    let differ : c.args.from ≢ c.args.to = λ e. let refused = h.same_node.1 e in cc in
    sym (least_walk (site_of c.args.site.now) is_up c.args.site.now.routes c.args.up (are_alike c.args.site.now c.requires c.args.up is_up same) c.args.from c.args.to c.in-Ok.route differ h.least h.short)

pub returns-in-Err : goal.returns-in-Err
returns-in-Err c = λ is_up same.
    let d = c.args.site.now in
    let alike = are_alike d c.requires c.args.up is_up same in
    let h = c.in-Err.ensures in
    sym (elim c.in-Err.field-0 as (λ f. c.in-Err.field-0 ≡ f → route (site_of d) is_up c.args.from c.args.to ≡ None) [
      | SameNode ↦ λ is. same_node (site_of d) is_up d.routes c.args.up alike c.args.from c.args.to (h.same_node.0 (ap Err is))
      | NoRoute ↦ λ is. no_route (site_of d) is_up d.routes c.args.up alike c.args.from c.args.to (h.no_route.0 (ap Err is))
    ] refl)
