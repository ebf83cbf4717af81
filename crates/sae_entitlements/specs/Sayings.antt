-- What a refusal says.
use Rattle.std.specs.Prelude.{ℕ, List, codes}
use Rattle.sae_entitlements.specs.declared.refusal.AddRefusal.{AddRefusal}
use Rattle.sae_entitlements.specs.declared.refusal.AddRefusal.TheVariants.{Known, Full, Memory}
use Rattle.sae_entitlements.specs.declared.refusal.EntitlementRefusal.{EntitlementRefusal}
use Rattle.sae_entitlements.specs.declared.refusal.EntitlementRefusal.TheVariants.{UnknownSae, NotAllowed}

abbrev pub adding_said : AddRefusal → List ℕ
adding_said Known = codes "the application is known"
adding_said Full = codes "256 applications are known"
adding_said Memory = codes "out of memory"

abbrev pub pair_said : EntitlementRefusal → List ℕ
pair_said UnknownSae = codes "unknown application"
pair_said NotAllowed = codes "the pair isn't allowed"
