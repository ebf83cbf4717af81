use Rattle.std.proofs.Common.{[], arith, Err}
use Rattle.std.proofs.lemmas.Result.{err_from_is_err_and}
use Rattle.run_model.specs.Headline.{given_to}
use Rattle.run_lines.proofs.Writing.{none_took, more_took, stopped_at}
use Rattle.run_lines.specs.Reporting.{IsItemLine}
use Rattle.run_lines.proofs.Lines.{none_lined, lined_on, in_lines_on}
use Rattle.run_lines.proofs.report.write_items.Goals as goal

pub loop-item-init : goal.loop-item-init
loop-item-init g c = record {
  took = none_took c.args.site.now.nodes c.args.number (given_to g.W.Sink.taken g.W.Sink.pieces c.args.sink.now);
  lined = none_lined g.W.Sink.taken g.W.Sink.pieces (IsItemLine c.args.site.now.nodes) c.args.sink.now;
  later = omega arith;
}

pub returns-in_err-write_item-clause-wrote : goal.returns-in_err-write_item-clause-wrote
returns-in_err-write_item-clause-wrote g c =
    let err = err_from_is_err_and c.from_residual.result c.from_residual.ensures.1 in
    rw (err.1, err.2)
    (stopped_at c.args.site.now.nodes c.args.number c.loop-item.item-index c.args.items.now c.item-item.result _ _ _ _ c.in_err-write_item.field-0.0 c.loop-item-test.true c.item-item.is
    c.loop-item.invariant.took c.in_err-write_item.ensures.wrote)

pub returns-in_err-write_item-clause-lined : goal.returns-in_err-write_item-clause-lined
returns-in_err-write_item-clause-lined g c =
    let err = err_from_is_err_and c.from_residual.result c.from_residual.ensures.1 in
    rw err.1
    (in_lines_on g.W.Sink.taken g.W.Sink.pieces (IsItemLine c.args.site.now.nodes) {T = Unit {0}} _ _ _ (Err c.in_err-write_item.field-0.0) c.loop-item.invariant.lined c.in_err-write_item.ensures.lined)

pub loop-item-preserved : goal.loop-item-preserved
loop-item-preserved g c =
    let nodes = c.args.site.now.nodes in
    let i = c.loop-item.item-index in
    let items = c.args.items.now in
    record {
      took = more_took nodes c.args.number i items c.item-item.result _ _ _ _ c.loop-item-test.true c.item-item.is c.loop-item.invariant.took c.in_ok-write_item.ensures.wrote;
      lined = lined_on g.W.Sink.taken g.W.Sink.pieces (IsItemLine nodes) _ _ _ [] c.loop-item.invariant.lined c.in_ok-write_item.ensures.lined;
      later = omega (arith, c.loop-item.invariant.later, c.in_ok-write_item.ensures.blame.later);
    }
