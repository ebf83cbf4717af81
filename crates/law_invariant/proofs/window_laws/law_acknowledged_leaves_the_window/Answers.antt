use Rattle.law_invariant.proofs.Clearing.{none_left}
use Rattle.law_invariant.proofs.window_laws.law_acknowledged_leaves_the_window.Goals as goal

pub returns : goal.returns
returns c = λ net w l n k e network conserved here owes at item. none_left net w network conserved l here n owes k e at item
