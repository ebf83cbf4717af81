use Rattle.std.proofs.Common.{List, ap, ◌∙◌}
use Rattle.sae_entitlements.specs.declared.application.Application.{Application}
use Rattle.sae_entitlements.specs.Grants.{is_allowed}
use Rattle.sae_entitlements.specs.Rows.{grants_of}
use Rattle.sae_entitlements.proofs.Pairs.{nobody_allowed}
use Rattle.sae_entitlements.proofs.entitlements.Entitlements.new.Goals as goal

pub returns-clause-pairs : goal.returns-clause-pairs
returns-clause-pairs c m s = ap (λ (all : List Application). is_allowed (grants_of all) m s) c.new.ensures.items ∙ nobody_allowed m s
