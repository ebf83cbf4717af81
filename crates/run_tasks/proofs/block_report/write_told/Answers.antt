use Rattle.std.proofs.Common.{drop, map, arith, ◌+◌, [], Err}
use Rattle.std.proofs.lemmas.Result.{err_from_is_err_and}
use Rattle.run_model.specs.Headline.{given_to}
use Rattle.run_tasks.specs.Prepared.{told_item}
use Rattle.run_tasks.proofs.Writes.{told_none, told_on, told_all, told_stop, one_mapped, none_mapped}
use Rattle.run_lines.specs.Reporting.{IsItemLine}
use Rattle.run_lines.proofs.Lines.{none_lined, lined_on, in_lines_on}
use Rattle.run_tasks.proofs.block_report.write_told.Goals as goal

pub loop-each-init : goal.loop-each-init
loop-each-init g c = record {
  told = told_none c.args.site.now.nodes (given_to g.W.Sink.taken g.W.Sink.pieces c.args.sink.now) (map told_item c.args.told.now);
  lined = none_lined g.W.Sink.taken g.W.Sink.pieces (IsItemLine c.args.site.now.nodes) c.args.sink.now;
  later = omega arith;
}

pub loop-each-preserved : goal.loop-each-preserved
loop-each-preserved g c = record {
  told =
      told_on c.args.site.now.nodes _ _ _ _ _ _ (map told_item (drop (c.loop-each.each-index + 1) c.args.told.now))
      (one_mapped told_item c.args.told.now c.loop-each.each-index c.each-item.result _ c.loop-each-test.true c.each-item.is) c.loop-each.invariant.told c.in_ok-write_item.ensures.wrote;
  lined = lined_on g.W.Sink.taken g.W.Sink.pieces (IsItemLine c.args.site.now.nodes) _ _ _ [] c.loop-each.invariant.lined c.in_ok-write_item.ensures.lined;
  later = omega (arith, c.loop-each.invariant.later, c.in_ok-write_item.ensures.blame.later);
}

pub returns-in_err-write_item-clause-wrote : goal.returns-in_err-write_item-clause-wrote
returns-in_err-write_item-clause-wrote g c =
    let err = err_from_is_err_and c.from_residual.result c.from_residual.ensures.1 in
    rw (err.1, err.2)
    (told_stop c.args.site.now.nodes _ _ _ _ _ _ (map told_item (drop (c.loop-each.each-index + 1) c.args.told.now)) c.in_err-write_item.field-0.0
    (one_mapped told_item c.args.told.now c.loop-each.each-index c.each-item.result _ c.loop-each-test.true c.each-item.is) c.loop-each.invariant.told c.in_err-write_item.ensures.wrote)

pub returns-clause-wrote : goal.returns-clause-wrote
returns-clause-wrote g c =
    told_all c.args.site.now.nodes _ _ _ _ (none_mapped told_item c.args.told.now c.loop-each.each-index c.loop-each-test.false) c.loop-each.invariant.told

pub returns-in_err-write_item-clause-lined : goal.returns-in_err-write_item-clause-lined
returns-in_err-write_item-clause-lined g c =
    let err = err_from_is_err_and c.from_residual.result c.from_residual.ensures.1 in
    rw err.1
    (in_lines_on g.W.Sink.taken g.W.Sink.pieces (IsItemLine c.args.site.now.nodes) {T = Unit {0}} _ _ _ (Err c.in_err-write_item.field-0.0) c.loop-each.invariant.lined c.in_err-write_item.ensures.lined)
