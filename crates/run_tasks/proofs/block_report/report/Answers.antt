use Rattle.std.proofs.Common.{◌++◌, map, refl, append_assoc, [], Err}
use Rattle.std.proofs.lemmas.Result.{err_from_is_err_and}
use Rattle.run_model.specs.Headline.{given_to}
use Rattle.run_tasks.specs.Prepared.{told_item}
use Rattle.run_tasks.specs.Reported.{turns_told, frames_told}
use Rattle.run_tasks.proofs.Writes.{told_none, told_on, told_ends, told_stop}
use Rattle.run_lines.specs.Reporting.{IsItemLine}
use Rattle.run_lines.proofs.Lines.{lined_on, in_lines_on}
use Rattle.run_tasks.proofs.block_report.report.Goals as goal

pub returns-in_err-write_told-clause-wrote : goal.returns-in_err-write_told-clause-wrote
returns-in_err-write_told-clause-wrote g c = λ http speaks.
    let told = map told_item c.args.told.now in
    let turns = turns_told http c.args.jobs.now c.args.places.now c.args.done.turns.items in
    let frames = frames_told c.args.places.now c.args.done.frames.items in
    let nodes = c.args.site.now.nodes in
    let start = told_none nodes (given_to g.W.Sink.taken g.W.Sink.pieces c.args.sink.now) (told ++ turns ++ frames) in
    let err = err_from_is_err_and c.from_residual.result c.from_residual.ensures.1 in
    rw (err.1, err.2)
    (told_stop nodes _ _ _ _ _ told (turns ++ frames) c.in_err-write_told.field-0.0 (append_assoc told turns frames) start c.in_err-write_told.ensures.wrote)

pub returns-in_err-write_turns-clause-wrote : goal.returns-in_err-write_turns-clause-wrote
returns-in_err-write_turns-clause-wrote g c = λ http speaks.
    let told = map told_item c.args.told.now in
    let turns = turns_told http c.args.jobs.now c.args.places.now c.args.done.turns.items in
    let frames = frames_told c.args.places.now c.args.done.frames.items in
    let nodes = c.args.site.now.nodes in
    let start = told_none nodes (given_to g.W.Sink.taken g.W.Sink.pieces c.args.sink.now) (told ++ turns ++ frames) in
    let here = told_on nodes _ _ _ _ _ told (turns ++ frames) (append_assoc told turns frames) start c.in_ok-write_told.ensures.wrote in
    let err = err_from_is_err_and c.from_residual-in_err-write_turns.result c.from_residual-in_err-write_turns.ensures.1 in
    rw (err.1, err.2)
    (told_stop nodes _ _ _ _ _ turns frames c.in_err-write_turns.field-0.0 refl here (c.in_err-write_turns.ensures.wrote http speaks))

pub returns-clause-wrote : goal.returns-clause-wrote
returns-clause-wrote g c = λ http speaks.
    let told = map told_item c.args.told.now in
    let turns = turns_told http c.args.jobs.now c.args.places.now c.args.done.turns.items in
    let frames = frames_told c.args.places.now c.args.done.frames.items in
    let nodes = c.args.site.now.nodes in
    let start = told_none nodes (given_to g.W.Sink.taken g.W.Sink.pieces c.args.sink.now) (told ++ turns ++ frames) in
    let here = told_on nodes _ _ _ _ _ told (turns ++ frames) (append_assoc told turns frames) start c.in_ok-write_told.ensures.wrote in
    let there = told_on nodes _ _ _ _ _ turns frames refl here (c.in_ok-write_turns.ensures.wrote http speaks) in
    let wrote = c.write_frames.ensures.wrote in
    told_ends nodes _ _ _ _ frames c.write_frames.result there (rw c.deref.ensures.value at wrote)

pub returns-in_err-write_turns-clause-lined : goal.returns-in_err-write_turns-clause-lined
returns-in_err-write_turns-clause-lined g c =
    let err = err_from_is_err_and c.from_residual-in_err-write_turns.result c.from_residual-in_err-write_turns.ensures.1 in
    rw err.1
    (in_lines_on g.W.Sink.taken g.W.Sink.pieces (IsItemLine c.args.site.now.nodes) {T = Unit {0}} _ _ _ (Err c.in_err-write_turns.field-0.0) c.in_ok-write_told.ensures.lined c.in_err-write_turns.ensures.lined)

pub returns-clause-lined : goal.returns-clause-lined
returns-clause-lined g c =
    in_lines_on g.W.Sink.taken g.W.Sink.pieces (IsItemLine c.args.site.now.nodes) _ _ _ c.write_frames.result
    (lined_on g.W.Sink.taken g.W.Sink.pieces (IsItemLine c.args.site.now.nodes) _ _ _ [] c.in_ok-write_told.ensures.lined c.in_ok-write_turns.ensures.lined) c.write_frames.ensures.lined
