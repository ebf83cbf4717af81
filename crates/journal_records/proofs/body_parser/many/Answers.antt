use Rattle.std.proofs.Common.{◌-◌, sym, ◌∙◌, ap, arith}
use Rattle.std.proofs.lemmas.Result.{err_from_is_err_and}
use Rattle.journal_records.specs.Layout.{many}
use Rattle.journal_records.proofs.Loops.{stops_on, many_next, many_stop, many_end}
use Rattle.journal_records.proofs.body_parser.many.Goals as goal

pub returns-in_err-shut : goal.returns-in_err-shut
returns-in_err-shut c =
    let err = err_from_is_err_and c.from_residual.result c.from_residual.ensures.1 in
    rw (err.1, err.2)
    (stops_on c.in_err-shut.field-0.0 _ _ (λ k e. c.loop-i.invariant ∙ many_stop c.args.version c.args.count c.loop-i.i c.loop-i.shut c.loop-i.records c.loop-i.cursor c.loop-i-test.true k e) c.in_err-shut.ensures)

pub loop-i-preserved : goal.loop-i-preserved
loop-i-preserved c =
    c.loop-i.invariant ∙ many_next c.args.version c.args.count c.loop-i.i c.loop-i.shut c.loop-i.records c.loop-i.cursor c.loop-i-test.true c.in_ok-shut.shut c.item.new.records c.item.new.cursor c.in_ok-shut.ensures

pub returns : goal.returns
returns c = c.loop-i.invariant ∙ many_end c.args.version (c.args.count - c.loop-i.i) c.loop-i.shut c.loop-i.records c.loop-i.cursor (omega (arith, c.loop-i-test.false))
