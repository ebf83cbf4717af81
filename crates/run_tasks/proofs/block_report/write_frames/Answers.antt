use Rattle.std.proofs.Common.{List, [], ◌∷◌, drop, arith, ◌+◌, Err}
use Rattle.std.proofs.lemmas.Result.{err_from_is_err_and}
use Rattle.run_types.specs.declared.item.NumberedItem.{NumberedItem}
use Rattle.run_model.specs.Play.{numbered}
use Rattle.run_model.specs.Headline.{given_to}
use Rattle.run_ops.specs.declared.done_block.PutFrame.{PutFrame}
use Rattle.run_tasks.specs.declared.prepared.Place.{Place}
use Rattle.run_tasks.specs.Reported.{number_in, frames_told}
use Rattle.run_tasks.proofs.Writes.{told_none, told_on, told_all, told_stop, one_left, none_left}
use Rattle.run_lines.specs.Reporting.{IsItemLine}
use Rattle.run_lines.proofs.Lines.{none_lined, lined_on, in_lines_on}
use Rattle.run_tasks.proofs.block_report.write_frames.Goals as goal

abbrev said : List Place → PutFrame → List NumberedItem
said places f = numbered (number_in places f.place) (f.item ∷ [])

pub loop-frame-init : goal.loop-frame-init
loop-frame-init g c = record {
  told = told_none c.args.site.now.nodes (given_to g.W.Sink.taken g.W.Sink.pieces c.args.sink.now) (frames_told c.args.places.now c.args.frames.now);
  lined = none_lined g.W.Sink.taken g.W.Sink.pieces (IsItemLine c.args.site.now.nodes) c.args.sink.now;
  later = omega arith;
}

pub loop-frame-preserved : goal.loop-frame-preserved
loop-frame-preserved g c =
    let wrote = c.in_ok-write_item.ensures.wrote in
    record {
      told =
          told_on c.args.site.now.nodes _ _ _ _ _ _ (frames_told c.args.places.now (drop (c.loop-frame.frame-index + 1) c.args.frames.now))
          (one_left (said c.args.places.now) c.args.frames.now c.loop-frame.frame-index c.frame-item.result _ c.loop-frame-test.true c.frame-item.is) c.loop-frame.invariant.told
          (rw c.number_at-number.ensures at wrote);
      lined = lined_on g.W.Sink.taken g.W.Sink.pieces (IsItemLine c.args.site.now.nodes) _ _ _ [] c.loop-frame.invariant.lined c.in_ok-write_item.ensures.lined;
      later = omega (arith, c.loop-frame.invariant.later, c.in_ok-write_item.ensures.blame.later);
    }

pub returns-in_err-write_item-clause-wrote : goal.returns-in_err-write_item-clause-wrote
returns-in_err-write_item-clause-wrote g c =
    let wrote = c.in_err-write_item.ensures.wrote in
    let err = err_from_is_err_and c.from_residual.result c.from_residual.ensures.1 in
    rw (err.1, err.2)
    (told_stop c.args.site.now.nodes _ _ _ _ _ _ (frames_told c.args.places.now (drop (c.loop-frame.frame-index + 1) c.args.frames.now)) c.in_err-write_item.field-0.0
    (one_left (said c.args.places.now) c.args.frames.now c.loop-frame.frame-index c.frame-item.result _ c.loop-frame-test.true c.frame-item.is) c.loop-frame.invariant.told
    (rw c.number_at-number.ensures at wrote))

pub returns-clause-wrote : goal.returns-clause-wrote
returns-clause-wrote g c =
    told_all c.args.site.now.nodes _ _ _ _ (none_left (said c.args.places.now) c.args.frames.now c.loop-frame.frame-index c.loop-frame-test.false) c.loop-frame.invariant.told

pub returns-in_err-write_item-clause-lined : goal.returns-in_err-write_item-clause-lined
returns-in_err-write_item-clause-lined g c =
    let err = err_from_is_err_and c.from_residual.result c.from_residual.ensures.1 in
    rw err.1
    (in_lines_on g.W.Sink.taken g.W.Sink.pieces (IsItemLine c.args.site.now.nodes) {T = Unit {0}} _ _ _ (Err c.in_err-write_item.field-0.0) c.loop-frame.invariant.lined c.in_err-write_item.ensures.lined)
