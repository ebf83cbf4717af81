use Rattle.std.proofs.Common.{◌∙◌, refl, subst, arith, [], Err}
use Rattle.std.proofs.lemmas.Result.{err_from_is_err_and}
use Rattle.run_lines.proofs.Going.{Ways}
use Rattle.run_lines.proofs.Looping.{Went, went_none, went_short, went_runs, went_runs_short, went_ends}
use Rattle.run_lines.proofs.Turns.{one_pass, no_pass}
use Rattle.run_lines.specs.Reporting.{IsItemLine}
use Rattle.run_lines.proofs.Lines.{none_lined, lined_on, in_lines_on, stopped_lined}
use Rattle.run_lines.proofs.rounds.pass_from.Goals as goal

pub loop-place-init : goal.loop-place-init
loop-place-init g c =
    let ways : Ways g.S.Acts.stands g.S.Acts.rests g.S.Acts.tallied = record { rest = g.met.S.Acts.comes_to_rest; none = g.met.S.Acts.none_tallied; more = g.met.S.Acts.more_tallied } in
    record { site = refl; armed = refl; lined = none_lined g.W.Sink.taken g.W.Sink.pieces (IsItemLine (g.S.Acts.site c.args.net.now).nodes) c.args.sink.now; later = omega arith; went = went_none _ _ _ ways _ c.args.number _ _ _ }

pub returns-in-Err-clause-runs : goal.returns-in-Err-clause-runs
returns-in-Err-clause-runs g c =
    let ways : Ways g.S.Acts.stands g.S.Acts.rests g.S.Acts.tallied = record { rest = g.met.S.Acts.comes_to_rest; none = g.met.S.Acts.none_tallied; more = g.met.S.Acts.more_tallied } in
    went_short _ _ _ ways _ c.args.number _ _ _ _ _ _ c.loop-place.invariant.went

pub returns-in_err-pass-clause-runs : goal.returns-in_err-pass-clause-runs
returns-in_err-pass-clause-runs g c =
    let ways : Ways g.S.Acts.stands g.S.Acts.rests g.S.Acts.tallied = record { rest = g.met.S.Acts.comes_to_rest; none = g.met.S.Acts.none_tallied; more = g.met.S.Acts.more_tallied } in
    let here = subst (Went _ _ _ _ _ _ _ c.args.number _) (one_pass c.args.lane.now c.loop-place.place c.args.to c.loop-place-test.true) c.loop-place.invariant.went in
    let runs = c.in_err-pass.ensures.runs in
    let err = err_from_is_err_and c.from_residual.result c.from_residual.ensures.1 in
    rw (err.1, err.2)
    (went_runs_short _ _ _ ways _ c.args.number (Unit {0}) _ _ _ _ _ _ _ _ _ _ here (rw (c.loop-place.invariant.site, c.in-Ok.ensures.number) at runs))

pub loop-place-preserved : goal.loop-place-preserved
loop-place-preserved g c =
    let ways : Ways g.S.Acts.stands g.S.Acts.rests g.S.Acts.tallied = record { rest = g.met.S.Acts.comes_to_rest; none = g.met.S.Acts.none_tallied; more = g.met.S.Acts.more_tallied } in
    let here = subst (Went _ _ _ _ _ _ _ c.args.number _) (one_pass c.args.lane.now c.loop-place.place c.args.to c.loop-place-test.true) c.loop-place.invariant.went in
    let runs = c.in_ok-pass.ensures.runs in
    record {
      site = c.in_ok-pass.ensures.site ∙ c.loop-place.invariant.site;
      armed = c.in_ok-pass.ensures.armed ∙ c.loop-place.invariant.armed;
      lined = lined_on g.W.Sink.taken g.W.Sink.pieces (IsItemLine (g.S.Acts.site c.args.net.now).nodes) _ _ _ [] (c.loop-place.invariant.lined) (let line = c.in_ok-pass.ensures.lined in rw (c.loop-place.invariant.site) at line);
      later = omega (arith, c.loop-place.invariant.later, c.in_ok-pass.ensures.blame.later);
      went = went_runs _ _ _ ways _ c.args.number (tt {0}) _ _ _ _ _ _ _ _ _ here (rw (c.loop-place.invariant.site, c.in-Ok.ensures.number) at runs);
    }

pub returns-clause-runs : goal.returns-clause-runs
returns-clause-runs g c =
    let ways : Ways g.S.Acts.stands g.S.Acts.rests g.S.Acts.tallied = record { rest = g.met.S.Acts.comes_to_rest; none = g.met.S.Acts.none_tallied; more = g.met.S.Acts.more_tallied } in
    let none = no_pass c.args.lane.now c.loop-place.place c.args.to c.loop-place-test.false in
    went_ends _ _ _ ways _ c.args.number (tt {0}) _ _ _ _ _ (subst (Went _ _ _ _ _ _ _ c.args.number _) none c.loop-place.invariant.went)

pub returns-in-Err-clause-lined : goal.returns-in-Err-clause-lined
returns-in-Err-clause-lined g c = stopped_lined g.W.Sink.taken g.W.Sink.pieces (g.S.Acts.site c.args.net.now).nodes _ _ (c.loop-place.invariant.lined)

pub returns-in_err-pass-clause-lined : goal.returns-in_err-pass-clause-lined
returns-in_err-pass-clause-lined g c =
    let line = c.in_err-pass.ensures.lined in
    let err = err_from_is_err_and c.from_residual.result c.from_residual.ensures.1 in
    rw err.1
    (in_lines_on g.W.Sink.taken g.W.Sink.pieces (IsItemLine (g.S.Acts.site c.args.net.now).nodes) {T = Unit {0}} _ _ _ (Err c.in_err-pass.field-0.0) (c.loop-place.invariant.lined) (rw (c.loop-place.invariant.site) at line))
