use Rattle.std.proofs.Common.{sym, arith}
use Rattle.std.proofs.lemmas.List.{length-take-le, length-take}
use Rattle.audit_text.proofs.Inputs.{all_looked_at}
use Rattle.audit_text.proofs.input.read_input.Goals as goal

pub slice_bounds-read_whole-end : goal.slice_bounds-read_whole-end
slice_bounds-read_whole-end c = sym (length-take-le 4194305 c.args.text.now (omega arith))

pub read_whole-requires : goal.read_whole-requires
read_whole-requires c = omega (arith, length-take 4194305 c.args.text.now)

pub returns-else-text-clause-input : goal.returns-else-text-clause-input
returns-else-text-clause-input c = all_looked_at c.args.text.now c.read_whole-else-text.result (omega arith) c.read_whole-else-text.ensures.input
