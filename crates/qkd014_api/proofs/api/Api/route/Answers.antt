use Rattle.std.proofs.Common.{ap, ◌∙◌, List, ℕ}
use Rattle.std.specs.Option.{option_map}
use Rattle.matchit.specs.Router.{RouteOf}
use Rattle.matchit.specs.Seek.{first}
use Rattle.qkd014_api.specs.Resources.{routes}
use Rattle.qkd014_api.specs.declared.resource.Resource.{Resource}
use Rattle.qkd014_api.proofs.Objects.{text-only, no-text}
use Rattle.qkd014_api.proofs.api.Api.route.Goals as goal

pub returns-in-Ok : goal.returns-in-Ok
returns-in-Ok c =
    c.route_of_text.ensures ∙ ap (λ (p : List ℕ). option_map (λ (r : RouteOf Resource). r.value) (first routes p)) c.in-Ok.ensures.cases.0
    ∙ text-only c.args.path.now (option_map (λ (r : RouteOf Resource). r.value) (first routes c.args.path.now)) c.in-Ok.ensures.cases.1

pub returns-in-Err : goal.returns-in-Err
returns-in-Err c = no-text c.args.path.now (option_map (λ (r : RouteOf Resource). r.value) (first routes c.args.path.now)) c.in-Err.ensures.cases.0
