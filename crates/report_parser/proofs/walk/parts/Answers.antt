use Rattle.report_parser.specs.declared.part.Part.TheVariants.{Link}
use Rattle.std.proofs.Common.{length, ap, length-drop, arith}
use Rattle.std.proofs.lemmas.List.{take_rest}
use Rattle.report_parser.proofs.Walks.{part_stops, part_goes}
use Rattle.report_parser.proofs.walk.parts.Goals as goal

pub returns-then-not-reach-clause-reach : goal.returns-then-not-reach-clause-reach
returns-then-not-reach-clause-reach c =
    part_stops c.args.nodes.now c.args.parts.now c.loop-part.part-index c.loop-part.at Link c.args.text.now c.spaced_part-reach.result (omega arith) c.spaced_part-reach.ensures.reach c.loop-part.invariant.reach c.if-not-reach.true

pub loop-part-preserved : goal.loop-part-preserved
loop-part-preserved c = record {
  reach = part_goes c.args.nodes.now c.args.parts.now c.loop-part.part-index c.loop-part.at Link c.args.text.now c.spaced_part-reach.result (omega arith) c.spaced_part-reach.ensures.reach c.loop-part.invariant.reach c.if-not-reach.false;
  within = omega (arith, c.spaced_part-reach.ensures.within, ap length (take_rest c.args.text.now c.loop-part.at), length-drop c.loop-part.at c.args.text.now);
}
