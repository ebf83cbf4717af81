use Rattle.std.proofs.Common.{ap, ◌∙◌}
use Rattle.sae_entitlements.specs.Grants.{find_sae}
use Rattle.qkd014_api.proofs.Objects.{text-only, no-text}
use Rattle.qkd014_api.proofs.api.Api.sae.Goals as goal

pub returns-in-Ok : goal.returns-in-Ok
returns-in-Ok c =
    c.find.ensures.first ∙ ap (find_sae (c.args.self.now.entitlements).saes) c.in-Ok.ensures.cases.0
    ∙ text-only c.args.id.now (find_sae (c.args.self.now.entitlements).saes c.args.id.now) c.in-Ok.ensures.cases.1

pub returns-in-Err : goal.returns-in-Err
returns-in-Err c = no-text c.args.id.now (find_sae (c.args.self.now.entitlements).saes c.args.id.now) c.in-Err.ensures.cases.0
