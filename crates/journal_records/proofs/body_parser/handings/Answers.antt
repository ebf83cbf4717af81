use Rattle.std.proofs.Common.{◌+◌, ◌-◌, sym, ◌∙◌, ap, arith}
use Rattle.std.proofs.lemmas.Result.{err_from_is_err_and}
use Rattle.journal_records.specs.Layout.{handings}
use Rattle.journal_records.proofs.Loops.{stops_on, handings_next, handings_stop, handings_end}
use Rattle.journal_records.proofs.body_parser.handings.Goals as goal

pub returns-in_err-name : goal.returns-in_err-name
returns-in_err-name c =
    let err = err_from_is_err_and c.from_residual.result c.from_residual.ensures.1 in
    rw (err.1, err.2)
    (stops_on c.in_err-name.field-0.0 _ _ (λ k e. c.loop-i.invariant ∙ handings_stop c.args.sae c.args.count c.loop-i.i c.loop-i.records c.loop-i.cursor c.loop-i-test.true k e) c.in_err-name.ensures)

pub loop-i-preserved : goal.loop-i-preserved
loop-i-preserved c =
    c.loop-i.invariant ∙ handings_next c.args.sae c.args.count c.loop-i.i c.loop-i.records c.loop-i.cursor c.loop-i-test.true c.in_ok-name.name c.short_name.new.self c.in_ok-name.ensures
    ∙ ap (λ l. handings c.args.sae (c.args.count - (c.loop-i.i + 1)) l c.short_name.new.self) (sym c.in-Ok.ensures.ok)

pub returns : goal.returns
returns c = c.loop-i.invariant ∙ handings_end c.args.sae (c.args.count - c.loop-i.i) c.loop-i.records c.loop-i.cursor (omega (arith, c.loop-i-test.false))
