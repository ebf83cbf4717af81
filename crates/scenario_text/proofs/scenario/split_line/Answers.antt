use Rattle.std.proofs.Common.{◌+◌, arith}
use Rattle.std.proofs.lemmas.List.{take_rest, length-drop, length-take}
use Rattle.scenario_text.proofs.Parts.{parts_at, parts_last}
use Rattle.scenario_text.proofs.scenario.split_line.Goals as goal

pub returns-then-len-rest : goal.returns-then-len-rest
returns-then-len-rest c =
    rw take_rest (
      parts_at c.args.rest.now c.len_to-len.result c.len_to-len.ensures.count c.if-len-rest.true,
      omega (arith, length-drop (c.len_to-len.result + 1) c.args.rest.now, length-take c.len_to-len.result c.args.rest.now),
    )

pub returns-else-len-rest : goal.returns-else-len-rest
returns-else-len-rest c = parts_last c.args.rest.now (omega (arith, c.len_to-len.ensures.count))
