use Rattle.std.proofs.Common.{◌∙◌, ◌<◌, ℕ, length, ap, sym, arith}
use Rattle.sae_entitlements.specs.Grants.{is_allowed}
use Rattle.sae_entitlements.proofs.Pairs.{allowed_at, count_of}
use Rattle.sae_entitlements.proofs.entitlements.Entitlements.allows.Goals as goal

pub returns : goal.returns
returns c =
    let all = c.self.inside.applications.items in
    let count = count_of all c.args.self.now c.self.view_is in
    let known : c.get.result < length all = omega (arith, count, c.requires, c.get.ensures.number) in
    sym (allowed_at all c.args.self.now c.get.result c.get-2.result c.index.result.now c.self.view_is known c.index.ensures)
    ∙ ap (λ (m : ℕ). is_allowed c.args.self.now m c.get-2.result) c.get.ensures.number
    ∙ ap (λ (s : ℕ). is_allowed c.args.self.now c.args.master s) c.get-2.ensures.number
