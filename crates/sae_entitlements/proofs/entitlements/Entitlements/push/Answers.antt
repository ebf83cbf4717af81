use Rattle.std.proofs.Common.{◌∙◌, List, ℕ, false, replicate, ap, sym, subst}
use Rattle.sae_entitlements.specs.Grants.{Grants, with_sae, find_sae}
use Rattle.sae_entitlements.specs.Rows.{grants_of, AreApplications}
use Rattle.sae_entitlements.proofs.Pairs.{grants_push, applications_push, nobody}
use Rattle.sae_entitlements.proofs.entitlements.Entitlements.push.Goals as goal

pub returns-clause-ok : goal.returns-clause-ok
returns-clause-ok c =
    ap grants_of c.in_ok-push.ensures.items
    ∙ grants_push c.self.inside.applications.items (record { id = c.from_string.result; home = c.args.home; slaves = replicate 256 false }) (nobody 256)
    ∙ ap (λ (g : Grants). with_sae g c.from_string.result c.args.home) c.self.view_is
    ∙ ap (λ (id : List ℕ). with_sae c.args.self.now id c.args.home) (c.from_string.ensures ∙ c.in_ok-text.ensures.ok)

pub invariant_of-self-2 : goal.invariant_of-self-2
invariant_of-self-2 c =
    subst AreApplications (sym c.in_ok-push.ensures.items)
    (applications_push c.self.inside.applications.items (record { id = c.from_string.result; home = c.args.home; slaves = replicate 256 false }) c.args.self.now c.self.view_is c.self.invariant c.requires.room
    (ap (find_sae c.args.self.now.saes) (c.from_string.ensures ∙ c.in_ok-text.ensures.ok) ∙ c.requires.unknown))
