use Rattle.run_model.specs.Load.{round_lines}
use Rattle.scenario_gen.proofs.Growing.{some_lines_more}
use Rattle.scenario_gen.proofs.load.all_rounds.Goals as goal

pub loop-round-preserved : goal.loop-round-preserved
loop-round-preserved c = some_lines_more c.args.text.now c.loop-round.text round_lines c.loop-round.round c.loop-round.invariant c.round_lines.new.text (c.in_ok-round_lines.ensures {u = tt})
