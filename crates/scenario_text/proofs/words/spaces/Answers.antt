use Rattle.std.proofs.Common.{sym, arith, rules}
use Rattle.std.proofs.lemmas.List.Sums.{prefix_len_is}
use Rattle.scenario_text.specs.Words.{is_space}
use Rattle.scenario_text.proofs.words.spaces.Goals as goal

pub returns-then-b-ne32-clause-count : goal.returns-then-b-ne32-clause-count
returns-then-b-ne32-clause-count c = sym (prefix_len_is is_space c.args.line.now c.loop-i.i 0 (omega arith) c.loop-i.invariant (λ h. search rules))

pub returns-clause-count : goal.returns-clause-count
returns-clause-count c = sym (prefix_len_is is_space c.args.line.now _ 0 (omega arith) (λ k h. c.loop-i.invariant k (omega arith)) (λ h. absurd (omega arith)))
