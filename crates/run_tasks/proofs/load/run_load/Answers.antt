use Rattle.std.proofs.Common.{[], map, Err}
use Rattle.std.proofs.lemmas.Result.{err_from_is_err_and}
use Rattle.run_model.specs.Report.{Does}
use Rattle.run_model.specs.Headline.{given_to, unknown}
use Rattle.run_lines.specs.Commands.{any_texts}
use Rattle.run_lines.proofs.Going.{Ways}
use Rattle.run_tasks.specs.Counting.{no_keys}
use Rattle.run_tasks.proofs.LoadEntries.{all_lines, no_block}
use Rattle.run_tasks.proofs.Keys.{none_more}
use Rattle.run_tasks.proofs.Tasks.{went_on, went_stop, load_stopped, load_done}
use Rattle.run_lines.specs.Reporting.{IsItemLine}
use Rattle.run_lines.proofs.Lines.{in_lines_on}
use Rattle.run_tasks.specs.Pieces.{IsHandedLine, IsLoadLine}
use Rattle.run_tasks.proofs.Pieces.{took_also, in_lines_also, unwritten, item_too, handed_too}
use Rattle.run_tasks.proofs.load.run_load.Goals as goal

pub do_all-requires-clause-fit : goal.do_all-requires-clause-fit
do_all-requires-clause-fit g c = rw c.in_ok-begin_all.ensures.site (all_lines (g.S.Acts.site c.args.net.now) c.args.list c.requires.fit (no_block c.args.list c.requires.load))

pub do_all-requires-clause-ready : goal.do_all-requires-clause-ready
do_all-requires-clause-ready g c =
    let q = c.requires.ready in
    let p = c.in_ok-begin_all.ensures.ran any_texts q.0 q.1 [] unknown q.2 in
    (q.0, p.0, p.1.ready)

pub returns-in_err-begin_all-clause-ran : goal.returns-in_err-begin_all-clause-ran
returns-in_err-begin_all-clause-ran g c = λ http n w ready.
    let ways : Ways g.S.Acts.stands g.S.Acts.rests g.S.Acts.tallied = record { rest = g.met.S.Acts.comes_to_rest; none = g.met.S.Acts.none_tallied; more = g.met.S.Acts.more_tallied } in
    let err = err_from_is_err_and c.from_residual.result c.from_residual.ensures.1 in
    rw (err.1, err.2)
    (load_stopped _ _ _ ways _ http n _ _ _ _ w _ _ (c.in_err-begin_all.ensures.ran http n w (map Does c.args.list) (given_to g.W.Sink.taken g.W.Sink.pieces c.args.sink.now) ready))

pub returns-in-Ok-clause-ran : goal.returns-in-Ok-clause-ran
returns-in-Ok-clause-ran g c = λ http n w ready.
    let ways : Ways g.S.Acts.stands g.S.Acts.rests g.S.Acts.tallied = record { rest = g.met.S.Acts.comes_to_rest; none = g.met.S.Acts.none_tallied; more = g.met.S.Acts.more_tallied } in
    let p = c.in_ok-begin_all.ensures.ran http n w (map Does c.args.list) (given_to g.W.Sink.taken g.W.Sink.pieces c.args.sink.now) ready in
    let ran = c.in-Ok.ensures.ran in
    let ran_here = rw c.in_ok-begin_all.ensures.site at ran in
    let q = ran_here http n p.0 p.1.ready in
    load_done _ _ _ ways _ http n _ _ _ _ _ w q.0 _ c.in-Ok.handed c.write_handed.result
    (went_on _ _ _ ways _ http n _ _ _ _ _ _ w p.0 q.0 _ _ _ no_keys c.in-Ok.handed c.in-Ok.handed (none_more _) (none_more _) p.1 q.1) c.write_handed.ensures.wrote

pub returns-in-Err-clause-ran : goal.returns-in-Err-clause-ran
returns-in-Err-clause-ran g c = λ http n w ready.
    let ways : Ways g.S.Acts.stands g.S.Acts.rests g.S.Acts.tallied = record { rest = g.met.S.Acts.comes_to_rest; none = g.met.S.Acts.none_tallied; more = g.met.S.Acts.more_tallied } in
    let p = c.in_ok-begin_all.ensures.ran http n w (map Does c.args.list) (given_to g.W.Sink.taken g.W.Sink.pieces c.args.sink.now) ready in
    let ran = c.in-Err.ensures.ran in
    let ran_here = rw c.in_ok-begin_all.ensures.site at ran in
    load_stopped _ _ _ ways _ http n _ _ _ _ w _ _
    (went_stop _ _ _ ways _ http n _ _ _ _ _ _ w p.0 _ _ _ no_keys p.1 (ran_here http n p.0 p.1.ready))

pub returns-in_err-begin_all-clause-lined : goal.returns-in_err-begin_all-clause-lined
returns-in_err-begin_all-clause-lined g c =
    let err = err_from_is_err_and c.from_residual.result c.from_residual.ensures.1 in
    rw err.1
    (in_lines_also g.W.Sink.taken g.W.Sink.pieces (IsItemLine (g.S.Acts.site c.args.net.now).nodes) (IsLoadLine (g.S.Acts.site c.args.net.now).nodes) (item_too (g.S.Acts.site c.args.net.now).nodes) {T = Unit {0}} _ _ (Err c.in_err-begin_all.field-0.0)
    (unwritten g.W.Sink.taken g.W.Sink.pieces (g.S.Acts.site c.args.net.now).nodes {T = Unit {0}} c.args.sink.now (Err c.in_err-begin_all.field-0.0)))

pub returns-in-Ok-clause-lined : goal.returns-in-Ok-clause-lined
returns-in-Ok-clause-lined g c =
    let line = c.in-Ok.ensures.lined in
    in_lines_on g.W.Sink.taken g.W.Sink.pieces (IsLoadLine (g.S.Acts.site c.args.net.now).nodes) _ _ _ c.write_handed.result
    (took_also g.W.Sink.taken g.W.Sink.pieces (IsItemLine (g.S.Acts.site c.args.net.now).nodes) (IsLoadLine (g.S.Acts.site c.args.net.now).nodes) (item_too (g.S.Acts.site c.args.net.now).nodes) _ _ [] (rw c.in_ok-begin_all.ensures.site at line))
    (in_lines_also g.W.Sink.taken g.W.Sink.pieces IsHandedLine (IsLoadLine (g.S.Acts.site c.args.net.now).nodes) (handed_too (g.S.Acts.site c.args.net.now).nodes) _ _ c.write_handed.result c.write_handed.ensures.lined)

pub returns-in-Err-clause-lined : goal.returns-in-Err-clause-lined
returns-in-Err-clause-lined g c =
    let line = c.in-Err.ensures.lined in
    in_lines_also g.W.Sink.taken g.W.Sink.pieces (IsItemLine (g.S.Acts.site c.args.net.now).nodes) (IsLoadLine (g.S.Acts.site c.args.net.now).nodes) (item_too (g.S.Acts.site c.args.net.now).nodes) {T = Unit {0}} _ _ (Err c.in-Err.stop) (rw c.in_ok-begin_all.ensures.site at line)
