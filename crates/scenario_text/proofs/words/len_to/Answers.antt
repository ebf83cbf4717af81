use Rattle.std.proofs.Common.{sym, arith, not, eqb, rules}
use Rattle.std.proofs.lemmas.List.Sums.{prefix_len_is}
use Rattle.scenario_text.proofs.words.len_to.Goals as goal

pub returns-then-b-stop-clause-count : goal.returns-then-b-stop-clause-count
returns-then-b-stop-clause-count c = sym (prefix_len_is (λ b. not (eqb b c.args.stop)) c.args.bytes.now c.loop-i.i 0 (omega arith) c.loop-i.invariant (λ h. search rules))

pub returns-clause-count : goal.returns-clause-count
returns-clause-count c = sym (prefix_len_is (λ b. not (eqb b c.args.stop)) c.args.bytes.now _ 0 (omega arith) (λ k h. c.loop-i.invariant k (omega arith)) (λ h. absurd (omega arith)))
