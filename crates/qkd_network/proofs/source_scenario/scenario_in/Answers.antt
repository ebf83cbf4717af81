use Rattle.std.proofs.Common.{◌≡◌, ◌∙◌, Err, sym, ap}
use Rattle.scenario_text.specs.Text.{meaning_of}
use Rattle.qkd_network.proofs.Outcomes.{scenario_read, line_refused}
use Rattle.qkd_network.proofs.source_scenario.scenario_in.Goals as goal

pub returns-clause-read : goal.returns-clause-read
returns-clause-read g c =
    scenario_read (g.S.Source.left c.args.source.now) (g.S.Source.left c.read_all.new.source) c.in-Ok.bytes c.in-Ok-read_scenario.scenario c.in-Ok.ensures.whole
    (ap meaning_of (sym c.as_slice.ensures) ∙ c.in-Ok-read_scenario.ensures)

pub returns-clause-runnable : goal.returns-clause-runnable
returns-clause-runnable g c = c.law_read_commands_fit.ensures c.as_slice.result.now c.in-Ok-read_scenario.scenario c.in-Ok-read_scenario.ensures

pub returns-in-Err-BadLine-clause-read : goal.returns-in-Err-BadLine-clause-read
returns-in-Err-BadLine-clause-read g c =
    let said = c.in-Err-BadLine.ensures in
    let means : meaning_of c.as_slice.result.now ≡ Err c.in-Err-BadLine.line = rw c.in-Err-BadLine.field-0-is at said in
    line_refused (g.S.Source.left c.args.source.now) (g.S.Source.left c.read_all.new.source) c.in-Ok.bytes c.in-Err-BadLine.line c.in-Ok.ensures.whole
    (ap meaning_of (sym c.as_slice.ensures) ∙ means)
