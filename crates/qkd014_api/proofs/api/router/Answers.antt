use Rattle.std.proofs.Common.{ap, ◌∙◌, codes}
use Rattle.matchit.specs.Route.{parse_route}
use Rattle.qkd014_api.specs.Resources.{routes, routed}
use Rattle.qkd014_api.specs.declared.resource.Resource.TheVariants.{Status, EncKeys, DecKeys}
use Rattle.qkd014_api.proofs.Routing.{inserted}
use Rattle.qkd014_api.proofs.api.router.Goals as goal

pub returns-in-Ok-insert-2 : goal.returns-in-Ok-insert-2
unfolding routes
returns-in-Ok-insert-2 c =
    inserted (parse_route (codes "/api/v1/keys/{sae}/dec_keys")) DecKeys _ _ c.in-Ok-insert-2.ensures
    ∙ ap (routed (parse_route (codes "/api/v1/keys/{sae}/dec_keys")) DecKeys)
    (inserted (parse_route (codes "/api/v1/keys/{sae}/enc_keys")) EncKeys _ _ c.in-Ok-insert.ensures
    ∙ ap (routed (parse_route (codes "/api/v1/keys/{sae}/enc_keys")) EncKeys)
    (inserted (parse_route (codes "/api/v1/keys/{sae}/status")) Status _ _ c.in-Ok.ensures
    ∙ ap (routed (parse_route (codes "/api/v1/keys/{sae}/status")) Status) c.new-router.ensures))
