use Rattle.std.proofs.Common.{eqb}
use Rattle.report_parser.proofs.Walks.{all_passed}
use Rattle.report_parser.proofs.runs.common.Goals as goal

pub returns-then-other-place-clause-common : goal.returns-then-other-place-clause-common
returns-then-other-place-clause-common c = all_passed (λ a b. eqb a b) c.args.text.now c.args.other.now c.loop-place.place c.if-other-place.true c.loop-place.invariant.same
