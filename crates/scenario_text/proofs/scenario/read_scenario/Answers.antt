use Rattle.std.proofs.Common.{sym, arith}
use Rattle.std.proofs.lemmas.List.{length-take-le, length-take}
use Rattle.scenario_text.proofs.Lines.{cut_gives}
use Rattle.scenario_text.proofs.scenario.read_scenario.Goals as goal

pub slice_bounds-read_parts-end : goal.slice_bounds-read_parts-end
slice_bounds-read_parts-end c = sym (length-take-le 4194305 c.args.bytes.now (omega arith))

pub read_parts-requires : goal.read_parts-requires
read_parts-requires c = omega (arith, length-take 4194305 c.args.bytes.now)

pub returns-then-bytes : goal.returns-then-bytes
returns-then-bytes c = cut_gives c.read_parts.result c.args.bytes.now c.read_parts.ensures
