use Rattle.report_parser.specs.Runs.{may_stand}
use Rattle.report_parser.proofs.Walks.{all_passed}
use Rattle.report_parser.proofs.runs.pattern_fit.Goals as goal

pub returns-then-word-place-clause-fit : goal.returns-then-word-place-clause-fit
returns-then-word-place-clause-fit c = all_passed may_stand c.args.pattern.now c.args.word.now c.loop-place.place c.if-word-place.true c.loop-place.invariant.same
