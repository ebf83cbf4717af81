use Rattle.std.proofs.Common.{map}
use Rattle.run_model.specs.Report.{Does}
use Rattle.run_lines.specs.Commands.{any_texts}
use Rattle.run_lines.proofs.Going.{Ways}
use Rattle.run_tasks.proofs.Tasking.{ran_after, ran_short}
use Rattle.run_lines.specs.Reporting.{IsItemLine}
use Rattle.run_lines.proofs.Lines.{in_lines_on}
use Rattle.run_tasks.proofs.entries.run_entries.Goals as goal

pub do_all-requires-clause-ready : goal.do_all-requires-clause-ready
do_all-requires-clause-ready g c =
    let q = c.requires.ready in
    let p = c.in-Ok.ensures.ran any_texts q.0 c.args.workers q.1 q.2 in
    (q.0, _, p.left)

pub do_all-requires-clause-fit : goal.do_all-requires-clause-fit
do_all-requires-clause-fit g c = rw c.in-Ok.ensures.site c.requires.fit

pub returns-in-Ok-clause-ran : goal.returns-in-Ok-clause-ran
returns-in-Ok-clause-ran g c = λ http n w speaks ready.
    let ways : Ways g.S.Acts.stands g.S.Acts.rests g.S.Acts.tallied = record { rest = g.met.S.Acts.comes_to_rest; none = g.met.S.Acts.none_tallied; more = g.met.S.Acts.more_tallied } in
    let p = c.in-Ok.ensures.ran http n c.args.workers w ready in
    let ran = c.do_all.ensures.ran in
    let ran_here = rw c.in-Ok.ensures.site at ran in
    ran_after _ _ _ ways _ http n _ _ _ _ _ _ _ _ w _ (map Does c.args.list) c.do_all.result p (ran_here http n _ speaks p.left)

pub returns-in-Err-clause-ran : goal.returns-in-Err-clause-ran
returns-in-Err-clause-ran g c = λ http n w speaks ready.
    let ways : Ways g.S.Acts.stands g.S.Acts.rests g.S.Acts.tallied = record { rest = g.met.S.Acts.comes_to_rest; none = g.met.S.Acts.none_tallied; more = g.met.S.Acts.more_tallied } in
    ran_short _ _ _ ways _ http n _ _ _ _ _ _ w _ (map Does c.args.list) _ (c.in-Err.ensures.ran http n c.args.workers w ready)

pub returns-in-Ok-clause-lined : goal.returns-in-Ok-clause-lined
returns-in-Ok-clause-lined g c =
    let line = c.do_all.ensures.lined in
    in_lines_on g.W.Sink.taken g.W.Sink.pieces (IsItemLine (g.S.Acts.site c.args.net.now).nodes) _ _ _ c.do_all.result c.in-Ok.ensures.lined (rw c.in-Ok.ensures.site at line)
