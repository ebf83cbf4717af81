use Rattle.std.proofs.Common.{◌∙◌}
use Rattle.gf64.proofs.Reduction.{left_over}
use Rattle.gf64.proofs.remainder.reduce.Goals as goal

pub returns : goal.returns
returns c = left_over c.fold-2.result c.args.p (c.fold-2.ensures.done c.fold.ensures.degree) (c.fold-2.ensures.same ∙ c.fold.ensures.same)
