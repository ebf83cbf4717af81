use Rattle.std.proofs.Common.{sym, arith, not, eqb, rules}
use Rattle.std.proofs.lemmas.List.Sums.{prefix_len_is}
use Rattle.qkd014_api.proofs.resource.mark.Goals as goal

pub returns-then-b-eq63-clause-place : goal.returns-then-b-eq63-clause-place
returns-then-b-eq63-clause-place c = sym (prefix_len_is (λ b. not (eqb b 63)) c.args.target.now c.loop-place.place 0 (omega arith) c.loop-place.invariant (λ h. search rules))

pub returns-clause-place : goal.returns-clause-place
returns-clause-place c = sym (prefix_len_is (λ b. not (eqb b 63)) c.args.target.now _ 0 (omega arith) (λ k h. c.loop-place.invariant k (omega arith)) (λ h. absurd (omega arith)))
