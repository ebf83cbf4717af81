use Rattle.std.proofs.Common.{length, ap, ◌∙◌, length-drop, arith}
use Rattle.std.proofs.lemmas.List.{take_rest}
use Rattle.report_parser.specs.Rows.{keys_reach}
use Rattle.report_parser.proofs.Walks.{key_stops, key_goes, not_one}
use Rattle.report_parser.proofs.rows.keys_reach.Goals as goal

pub returns-then-not-reach-clause-reach : goal.returns-then-not-reach-clause-reach
unfolding keys_reach
returns-then-not-reach-clause-reach c =
    key_stops c.args.nodes.now (length c.args.text.now) c.loop.counter c.loop.at c.args.text.now c.parts-reach.result (omega arith) (not_one _ (λ e. c.if-end_reach-eq1.false (c.end_reach.ensures.reach ∙ e))) c.parts-reach.ensures.reach c.loop.invariant.reach
    c.if-not-reach.true

pub loop-preserved : goal.loop-preserved
loop-preserved c = record {
  reach =
      key_goes c.args.nodes.now (length c.args.text.now) c.loop.counter c.loop.at c.args.text.now c.parts-reach.result (omega arith) (not_one _ (λ e. c.if-end_reach-eq1.false (c.end_reach.ensures.reach ∙ e))) c.parts-reach.ensures.reach c.loop.invariant.reach
      c.if-not-reach.false;
  within = omega (arith, c.parts-reach.ensures.within, ap length (take_rest c.args.text.now c.loop.at), length-drop c.loop.at c.args.text.now);
}
