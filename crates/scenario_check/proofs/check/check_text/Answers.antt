use Rattle.std.proofs.Common.{sym, arith}
use Rattle.std.proofs.lemmas.List.{length-take-le, length-take}
use Rattle.scenario_check.proofs.Parts.{cut_gives}
use Rattle.scenario_check.proofs.check.check_text.Goals as goal

pub slice_bounds-check_parts-end : goal.slice_bounds-check_parts-end
slice_bounds-check_parts-end c = sym (length-take-le 4194305 c.args.octets.now (omega arith))

pub check_parts-requires : goal.check_parts-requires
check_parts-requires c = omega (arith, length-take 4194305 c.args.octets.now)

pub returns-then-octets : goal.returns-then-octets
returns-then-octets c = cut_gives c.check_parts.result c.args.octets.now c.check_parts.ensures
