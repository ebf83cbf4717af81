use Rattle.std.proofs.Common.{◌∙◌, ◌<◌, length, ℕ, ap, arith, rules}
use Rattle.sae_entitlements.specs.Grants.{Grants, with_pair, is_allowed}
use Rattle.sae_entitlements.proofs.Pairs.{grants_after, allowed_after, applications_after, count_of}
use Rattle.sae_entitlements.proofs.entitlements.Entitlements.allow.Goals as goal

pub returns-clause-after : goal.returns-clause-after
returns-clause-after c =
    let all = c.self.inside.applications.items in
    let count = count_of all c.args.self.now c.self.view_is in
    let known : c.get.result < length all = omega (arith, count, c.requires.master, c.get.ensures.number) in
    grants_after all c.get.result c.get-2.result c.index_mut-application.result.now known c.index_mut-application.ensures.value (search rules)
    ∙ ap (λ (g : Grants). with_pair g c.get.result c.get-2.result) c.self.view_is
    ∙ ap (λ (m : ℕ). with_pair c.args.self.now m c.get-2.result) c.get.ensures.number
    ∙ ap (λ (s : ℕ). with_pair c.args.self.now c.args.master s) c.get-2.ensures.number

pub invariant_of-self : goal.invariant_of-self
invariant_of-self c =
    let all = c.self.inside.applications.items in
    let count = count_of all c.args.self.now c.self.view_is in
    let known : c.get.result < length all = omega (arith, count, c.requires.master, c.get.ensures.number) in
    applications_after all c.get.result c.get-2.result c.index_mut-application.result.now known c.index_mut-application.ensures.value c.self.invariant

pub returns-clause-pairs : goal.returns-clause-pairs
returns-clause-pairs c m s =
    ap (λ (g : Grants). is_allowed g m s) (returns-clause-after c)
    ∙ allowed_after c.args.self.now c.args.master c.args.slave m s
