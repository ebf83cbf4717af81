use Rattle.std.proofs.Common.{◌∙◌, List, length, sym, ap, arith, rules, [], Err}
use Rattle.std.specs.Vec.Iter.{into_iter_items}
use Rattle.std.proofs.lemmas.Result.{err_from_is_err_and}
use Rattle.run_model.specs.Headline.{given_to}
use Rattle.run_ops.specs.declared.done_block.Turned.{Turned}
use Rattle.run_tasks.specs.Reported.{turn_told, turns_told}
use Rattle.run_tasks.proofs.Tasking.{is_none}
use Rattle.run_tasks.proofs.Writes.{told_none, told_on, told_all, told_stop}
use Rattle.run_lines.specs.Reporting.{IsItemLine}
use Rattle.run_lines.proofs.Lines.{none_lined, lined_on, in_lines_on}
use Rattle.run_tasks.proofs.block_report.write_turns.Goals as goal

pub loop-turned-init : goal.loop-turned-init
loop-turned-init g c = record {
  long = search rules;
  told = λ http speaks. told_none c.args.site.now.nodes (given_to g.W.Sink.taken g.W.Sink.pieces c.args.sink.now) (turns_told http c.args.jobs.now c.args.places.now (into_iter_items c.into_iter-turned-iterator.result));
  lined = none_lined g.W.Sink.taken g.W.Sink.pieces (IsItemLine c.args.site.now.nodes) c.args.sink.now;
  later = omega arith;
}

pub loop-turned-preserved : goal.loop-turned-preserved
loop-turned-preserved g c = record {
  long = (let gone = ap (λ (ts : List Turned). length ts) c.in-Some.ensures.steps.0 in omega (arith, gone, c.in-Some.ensures.steps.1, c.loop-turned.invariant.long));
  told = λ http speaks.
      let jobs = c.args.jobs.now in
      let places = c.args.places.now in
      told_on c.args.site.now.nodes _ _ _ _ _ (turn_told http jobs places c.in-Some.turned) (turns_told http jobs places (into_iter_items c.next.new.self))
      (ap (λ (ts : List Turned). turns_told http jobs places ts) c.in-Some.ensures.steps.0) (c.loop-turned.invariant.told http speaks) (c.in_ok-write_turn.ensures.wrote http speaks);
  lined = lined_on g.W.Sink.taken g.W.Sink.pieces (IsItemLine c.args.site.now.nodes) _ _ _ [] c.loop-turned.invariant.lined c.in_ok-write_turn.ensures.lined;
  later = omega (arith, c.loop-turned.invariant.later, c.in_ok-write_turn.ensures.blame.later);
}

pub returns-in_err-write_turn-clause-wrote : goal.returns-in_err-write_turn-clause-wrote
returns-in_err-write_turn-clause-wrote g c = λ http speaks.
    let jobs = c.args.jobs.now in
    let places = c.args.places.now in
    let err = err_from_is_err_and c.from_residual.result c.from_residual.ensures.1 in
    rw (err.1, err.2)
    (rw (← c.into_iter-turned-iterator.ensures.into_iter_gives.0)
    (told_stop c.args.site.now.nodes _ _ _ _ _ (turn_told http jobs places c.in-Some.turned) (turns_told http jobs places (into_iter_items c.next.new.self)) c.in_err-write_turn.field-0.0
    (ap (λ (ts : List Turned). turns_told http jobs places ts) c.in-Some.ensures.steps.0) (c.loop-turned.invariant.told http speaks) (c.in_err-write_turn.ensures.wrote http speaks)))

pub returns-clause-wrote : goal.returns-clause-wrote
returns-clause-wrote g c = λ http speaks.
    let none = is_none _ (sym c.loop-turned.invariant.long ∙ c.in-None.ensures.steps.0) in
    rw (← c.into_iter-turned-iterator.ensures.into_iter_gives.0)
    (told_all c.args.site.now.nodes _ _ _ _ (ap (λ (ts : List Turned). turns_told http c.args.jobs.now c.args.places.now ts) none) (c.loop-turned.invariant.told http speaks))

pub returns-in_err-write_turn-clause-lined : goal.returns-in_err-write_turn-clause-lined
returns-in_err-write_turn-clause-lined g c =
    let err = err_from_is_err_and c.from_residual.result c.from_residual.ensures.1 in
    rw err.1
    (in_lines_on g.W.Sink.taken g.W.Sink.pieces (IsItemLine c.args.site.now.nodes) {T = Unit {0}} _ _ _ (Err c.in_err-write_turn.field-0.0) c.loop-turned.invariant.lined c.in_err-write_turn.ensures.lined)
