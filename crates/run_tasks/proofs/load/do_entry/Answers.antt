use Rattle.std.proofs.Common.{◌≡◌, ◌∙◌, sym}
use Rattle.run_types.specs.declared.entry.Entry.TheVariants as entries
use Rattle.run_tasks.proofs.load.do_entry.Goals as goal

pub returns-in-Line-clause-runs : goal.returns-in-Line-clause-runs
returns-in-Line-clause-runs g c = λ http line is.
    let both : entries.Line line ≡ entries.Line c.in-Line.line = sym is ∙ c.in-Line.is in
    let same : line ≡ c.in-Line.line = cc in
    rw same (c.load_line.ensures.runs http)
