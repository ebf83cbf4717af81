use Rattle.std.proofs.Common.{subst, sym, ℕ, ◌<◌, ◌^◌}
use Rattle.gf64.proofs.Reduction.{code_same, code_folds, folded_small}
use Rattle.gf64.proofs.remainder.fold.Goals as goal

pub returns-clause-same : goal.returns-clause-same
returns-clause-same c = code_same c.args.p c.requires

pub returns-clause-done : goal.returns-clause-done
returns-clause-done c = λ small. subst (λ (n : ℕ). n < 2 ^ 64) (sym (code_folds c.args.p c.requires)) (folded_small c.args.p small)
