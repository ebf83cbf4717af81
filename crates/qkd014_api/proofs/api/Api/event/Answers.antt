use Rattle.std.proofs.Common.{Bool, sym, subst}
use Rattle.qkd014_api.specs.Resources.{query_in}
use Rattle.qkd014_api.specs.Calls.{event_for, HasParameters}
use Rattle.qkd014_api.specs.declared.resource.Resource.{Resource}
use Rattle.qkd014_api.specs.declared.resource.Resource.TheVariants.{DecKeys}
use Rattle.qkd014_api.proofs.Asking.{dec_query-reads}
use Rattle.qkd014_api.proofs.api.Api.event.Goals as goal

pub returns-in-DecKeys-false-clause-memory : goal.returns-in-DecKeys-false-clause-memory
returns-in-DecKeys-false-clause-memory c = λ is.
    let g = c.args.self.now.entitlements in
    let q = c.args.request.now in
    subst (λ (r : Resource). HasParameters (event_for g r c.args.posts q c.args.master c.args.slave)) (sym c.in-DecKeys-false.is-0)
    (subst (λ (posts : Bool). HasParameters (event_for g DecKeys posts q c.args.master c.args.slave)) (sym c.in-DecKeys-false.is-1)
    (dec_query-reads (query_in q.target) c.args.master c.args.slave))
