use Rattle.std.proofs.Common.{sym, arith}
use Rattle.std.proofs.lemmas.List.{length-take-le}
use Rattle.scenario_check.proofs.text.shown.Goals as goal

pub slice_bounds-marked-end : goal.slice_bounds-marked-end
slice_bounds-marked-end c = sym (length-take-le 60 c.args.octets.now (omega arith))
