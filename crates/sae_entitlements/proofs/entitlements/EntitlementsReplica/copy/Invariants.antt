use Rattle.std.proofs.Common.{◌≡◌, take}
use Rattle.sae_entitlements.proofs.entitlements.EntitlementsReplica.copy.Given as goal

abbrev pub invariant-loop-application : goal.invariant-loop-application
invariant-loop-application l = l.applications.items ≡ take l.application-index l.application-items
