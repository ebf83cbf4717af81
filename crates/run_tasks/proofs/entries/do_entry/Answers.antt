use Rattle.run_lines.proofs.Going.{Ways}
use Rattle.run_tasks.proofs.Tasking.{line_is, ran_line}
use Rattle.run_tasks.proofs.entries.do_entry.Goals as goal

pub returns-in-Line-clause-ran : goal.returns-in-Line-clause-ran
returns-in-Line-clause-ran g c = λ http n w speaks ready.
    let ways : Ways g.S.Acts.stands g.S.Acts.rests g.S.Acts.tallied = record { rest = g.met.S.Acts.comes_to_rest; none = g.met.S.Acts.none_tallied; more = g.met.S.Acts.more_tallied } in
    let sited = g.met.S.Acts.is_sited c.args.net.now n w ready.stands in
    let runs = c.command.ensures.runs http speaks n w ready in
    rw c.in-Line.is (ran_line _ _ _ ways _ http n _ _ _ _ _ w _ _ _ _ (line_is http n _ w c.in-Line.line) (rw (← sited) at runs))
