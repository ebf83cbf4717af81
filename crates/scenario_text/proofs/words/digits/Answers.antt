use Rattle.std.proofs.Common.{arith}
use Rattle.std.specs.List.{list_all}
use Rattle.scenario_text.specs.Words.{is_digit}
use Rattle.scenario_text.proofs.Numbers.{too_large}
use Rattle.scenario_text.proofs.words.digits.Goals as goal

pub returns-then-value-ge4294967296 : goal.returns-then-value-ge4294967296
returns-then-value-ge4294967296 c = too_large (list_all is_digit c.args.word.now) c.loop-b.value _ _ c.args.word.now c.loop-b.b-index (omega arith) c.loop-b.invariant.rest (omega arith)
