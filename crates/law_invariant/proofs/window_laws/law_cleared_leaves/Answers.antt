use Rattle.std.proofs.Common.{refl}
use Rattle.law_invariant.proofs.Clearing.{leaves, stays}
use Rattle.law_invariant.proofs.window_laws.law_cleared_leaves.Goals as goal

pub returns-clause-leaves : goal.returns-clause-leaves
returns-clause-leaves c = λ l n prefix rest e lane item. leaves l n prefix rest e lane item

pub returns-clause-stays : goal.returns-clause-stays
returns-clause-stays c = λ l n prefix rest e other. stays l n prefix rest e other

pub returns-clause-nothing : goal.returns-clause-nothing
returns-clause-nothing c = λ l n. refl
