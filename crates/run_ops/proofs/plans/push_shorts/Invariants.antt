use Rattle.std.proofs.Common.{◌≡◌, ◌++◌, map, take}
use Rattle.run_model.specs.Outcomes.{short_item}
use Rattle.run_ops.proofs.plans.push_shorts.Given as goal

abbrev pub invariant-loop-short : goal.invariant-loop-short
invariant-loop-short l = l.items ≡ l.fn.items ++ map short_item (take l.short-index l.shorts)
