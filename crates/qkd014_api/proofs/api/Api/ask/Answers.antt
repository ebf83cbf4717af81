use Rattle.std.proofs.Common.{sym, ap, ◌∙◌}
use Rattle.std.specs.Option.{option_copied}
use Rattle.qkd014_api.specs.Resources.{path_in}
use Rattle.qkd014_api.proofs.Asking.{asked-given, asked-reads}
use Rattle.qkd014_api.proofs.api.Api.ask.Goals as goal

pub returns-clause-asked : goal.returns-clause-asked
returns-clause-asked c =
    asked-given c.args.self.now.entitlements c.args.node c.args.request.now c.path-path.result.now c.as_slice-method.result.now c.as_slice-2.result.now
    c.in_ok-resource.resource c.in_ok-caller.caller.now c.sae_part-other.result.now (c.in_ok-pair.pair).0 (c.in_ok-pair.pair).1 c.is_post-posts.result
    (c.path-path.ensures ∙ ap path_in c.as_slice.ensures) c.as_slice-method.ensures c.as_slice-2.ensures c.sae_part-other.ensures
    (sym c.in_ok-resource.ensures.ok_part ∙ c.resource.ensures) (sym (ap option_copied c.in_ok-caller.ensures.ok_part) ∙ c.only_value.ensures) (sym c.in_ok-pair.ensures.ok_part ∙ c.pair.ensures) c.is_post-posts.ensures
    c.event.result c.event.ensures.event

pub returns-clause-memory : goal.returns-clause-memory
returns-clause-memory c = λ is.
    asked-reads c.args.self.now.entitlements c.args.node c.args.request.now c.path-path.result.now c.as_slice-method.result.now c.as_slice-2.result.now
    c.in_ok-resource.resource c.in_ok-caller.caller.now c.sae_part-other.result.now (c.in_ok-pair.pair).0 (c.in_ok-pair.pair).1 c.is_post-posts.result
    (c.path-path.ensures ∙ ap path_in c.as_slice.ensures) c.as_slice-method.ensures c.as_slice-2.ensures c.sae_part-other.ensures
    (sym c.in_ok-resource.ensures.ok_part ∙ c.resource.ensures) (sym (ap option_copied c.in_ok-caller.ensures.ok_part) ∙ c.only_value.ensures) (sym c.in_ok-pair.ensures.ok_part ∙ c.pair.ensures) c.is_post-posts.ensures
    (c.event.ensures.memory is)
