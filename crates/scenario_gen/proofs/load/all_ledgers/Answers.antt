use Rattle.scenario_gen.specs.LoadText.{ledgers_of}
use Rattle.scenario_gen.proofs.Growing.{some_lines_more}
use Rattle.scenario_gen.proofs.load.all_ledgers.Goals as goal

pub loop-link-preserved : goal.loop-link-preserved
loop-link-preserved c = some_lines_more c.args.text.now c.loop-link.text ledgers_of c.loop-link.link c.loop-link.invariant c.ledger_lines.new.text (c.in_ok-ledger_lines.ensures {u = tt})
