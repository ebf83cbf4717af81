use Rattle.std.proofs.Common.{arith}
use Rattle.std.proofs.lemmas.Grind.{common_steps}
use Rattle.sae_entitlements.proofs.Pairs.{find_at}
use Rattle.sae_entitlements.proofs.entitlements.Entitlements.find.Goals as goal

pub returns-in_err-place : goal.returns-in_err-place
returns-in_err-place c =
    let is = find_at c.self.inside.applications.items c.deref.result.now c.args.self.now c.args.id.now c.deref.ensures.value c.self.view_is in
    grind (arith, common_steps, is, c.in_err-place.ensures.place, c.from_residual.ensures)

pub returns : goal.returns
returns c =
    let is = find_at c.self.inside.applications.items c.deref.result.now c.args.self.now c.args.id.now c.deref.ensures.value c.self.view_is in
    grind (arith, common_steps, is, c.in_ok-place.ensures.place)
