use Rattle.std.proofs.Common.{◌+◌, sym, arith}
use Rattle.std.proofs.lemmas.Grind.{common_steps}
use Rattle.std.proofs.lemmas.List.{take_rest}
use Rattle.tag_bound.proofs.FirstLines.{first_there, last_there}
use Rattle.tag_bound.proofs.lines.first_line.Goals as goal

pub returns-in-Some : goal.returns-in-Some
returns-in-Some c = first_there c.args.text.now _ _ c.in-Some.size (sym c.in-Some.ensures) (grind (arith, common_steps)) (take_rest c.args.text.now (c.in-Some.size + 1))

pub returns-else-is_empty : goal.returns-else-is_empty
returns-else-is_empty c = last_there c.args.text.now _ (sym c.in-None.ensures) (grind (arith, common_steps)) (grind (arith, common_steps))
