use Rattle.scenario_gen.specs.LoadText.{bits_of}
use Rattle.scenario_gen.proofs.Growing.{one_line_more}
use Rattle.scenario_gen.proofs.load.all_bits.Goals as goal

pub loop-link-preserved : goal.loop-link-preserved
loop-link-preserved c = one_line_more c.args.text.now c.loop-link.text (bits_of c.args.rounds) c.loop-link.link c.loop-link.invariant c.bits_line.new.text (c.in_ok-bits_line.ensures {u = tt})
