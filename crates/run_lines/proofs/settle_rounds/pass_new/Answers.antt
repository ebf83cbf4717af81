use Rattle.std.proofs.Common.{◌∙◌, refl, arith, [], Err}
use Rattle.std.proofs.lemmas.Result.{err_from_is_err_and}
use Rattle.declared_site.specs.SiteOf.{site_of}
use Rattle.run_lines.proofs.Going.{Ways}
use Rattle.run_lines.proofs.AllLanes.{lane_there}
use Rattle.run_lines.proofs.Passing.{was_on, counts_more, passed_none, count_is, lane_short, count_short, passed_more, passed_all, all_counted}
use Rattle.run_lines.specs.Reporting.{IsItemLine}
use Rattle.run_lines.proofs.Lines.{none_lined, lined_on, in_lines_on, stopped_lined}
use Rattle.run_lines.proofs.settle_rounds.pass_new.Goals as goal

pub loop-place-init : goal.loop-place-init
loop-place-init g c =
    let ways : Ways g.S.Acts.stands g.S.Acts.rests g.S.Acts.tallied = record { rest = g.met.S.Acts.comes_to_rest; none = g.met.S.Acts.none_tallied; more = g.met.S.Acts.more_tallied } in
    record {
      site = refl;
      armed = refl;
      lined = none_lined g.W.Sink.taken g.W.Sink.pieces (IsItemLine (g.S.Acts.site c.args.net.now).nodes) c.args.sink.now;
      later = omega arith;
      passed = λ n earlier w ready was. passed_none _ _ _ ways _ c.args.number c.args.lanes.now n earlier w _ _ c.new-each.result c.new-each.ensures.items ready;
    }

pub on_wire-count-requires : goal.on_wire-count-requires
on_wire-count-requires g c =
    rw c.loop-place.invariant.site
    (lane_there (site_of (g.S.Acts.site c.args.net.now)) c.args.lanes.now c.loop-place.place c.index-lanes-place.result _ c.requires.lanes c.loop-place-test.true c.index-lanes-place.is)

pub pass_from-requires-clause-lane : goal.pass_from-requires-clause-lane
pass_from-requires-clause-lane g c =
    rw c.loop-place.invariant.site
    (lane_there (site_of (g.S.Acts.site c.args.net.now)) c.args.lanes.now c.loop-place.place c.index-lanes-place.result _ c.requires.lanes c.loop-place-test.true c.index-lanes-place.is)

pub pass_from-requires-clause-ready : goal.pass_from-requires-clause-ready
pass_from-requires-clause-ready g c =
    let q = c.requires.ready in
    let p = c.loop-place.invariant.passed q.0 q.1 q.2 q.3 q.4 in
    (q.0, p.after, p.reached.ready)

pub returns-in_err-pass_from-clause-runs : goal.returns-in_err-pass_from-clause-runs
returns-in_err-pass_from-clause-runs g c = λ n earlier w ready was.
    let ways : Ways g.S.Acts.stands g.S.Acts.rests g.S.Acts.tallied = record { rest = g.met.S.Acts.comes_to_rest; none = g.met.S.Acts.none_tallied; more = g.met.S.Acts.more_tallied } in
    let p = c.loop-place.invariant.passed n earlier w ready was in
    let from = was_on earlier c.args.before.now c.args.lanes.now c.loop-place.place c.index-lanes-place.result _ was c.loop-place-test.true c.index-lanes-place.is in
    let found = c.on_wire-count.ensures n p.after p.reached.ready.stands in
    let runs = c.in_err-pass_from.ensures.runs in
    let runs_here = rw c.loop-place.invariant.site at runs in
    let err = err_from_is_err_and c.from_residual.result c.from_residual.ensures.1 in
    rw (err.1, err.2)
    (lane_short _ _ _ ways _ c.args.number c.args.lanes.now n earlier w _ _ _ _ c.loop-place.place _ c.index-lanes-place.result _ _ _ c.loop-place-test.true c.index-lanes-place.is p from found _ _ _ (runs_here n p.after p.reached.ready))

pub returns-in-Err-clause-runs : goal.returns-in-Err-clause-runs
returns-in-Err-clause-runs g c = λ n earlier w ready was.
    let ways : Ways g.S.Acts.stands g.S.Acts.rests g.S.Acts.tallied = record { rest = g.met.S.Acts.comes_to_rest; none = g.met.S.Acts.none_tallied; more = g.met.S.Acts.more_tallied } in
    let p = c.loop-place.invariant.passed n earlier w ready was in
    let from = was_on earlier c.args.before.now c.args.lanes.now c.loop-place.place c.index-lanes-place.result _ was c.loop-place-test.true c.index-lanes-place.is in
    let found = c.on_wire-count.ensures n p.after p.reached.ready.stands in
    let runs = c.in_ok-pass_from.ensures.runs in
    let runs_here = rw c.loop-place.invariant.site at runs in
    count_short _ _ _ ways _ c.args.number c.args.lanes.now n earlier w _ _ _ _ c.loop-place.place _ c.index-lanes-place.result _ _ _ c.loop-place-test.true c.index-lanes-place.is p from found _ _ (runs_here n p.after p.reached.ready)

pub returns-in-Err-push-clause-runs : goal.returns-in-Err-push-clause-runs
returns-in-Err-push-clause-runs g c = λ n earlier w ready was.
    let ways : Ways g.S.Acts.stands g.S.Acts.rests g.S.Acts.tallied = record { rest = g.met.S.Acts.comes_to_rest; none = g.met.S.Acts.none_tallied; more = g.met.S.Acts.more_tallied } in
    let p = c.loop-place.invariant.passed n earlier w ready was in
    let from = was_on earlier c.args.before.now c.args.lanes.now c.loop-place.place c.index-lanes-place.result _ was c.loop-place-test.true c.index-lanes-place.is in
    let found = c.on_wire-count.ensures n p.after p.reached.ready.stands in
    let runs = c.in_ok-pass_from.ensures.runs in
    let runs_here = rw c.loop-place.invariant.site at runs in
    count_short _ _ _ ways _ c.args.number c.args.lanes.now n earlier w _ _ _ _ c.loop-place.place _ c.index-lanes-place.result _ _ _ c.loop-place-test.true c.index-lanes-place.is p from found _ _ (runs_here n p.after p.reached.ready)

pub loop-place-preserved : goal.loop-place-preserved
loop-place-preserved g c =
    let ways : Ways g.S.Acts.stands g.S.Acts.rests g.S.Acts.tallied = record { rest = g.met.S.Acts.comes_to_rest; none = g.met.S.Acts.none_tallied; more = g.met.S.Acts.more_tallied } in
    record {
      site = c.in_ok-pass_from.ensures.site ∙ c.loop-place.invariant.site;
      armed = c.in_ok-pass_from.ensures.armed ∙ c.loop-place.invariant.armed;
      lined = lined_on g.W.Sink.taken g.W.Sink.pieces (IsItemLine (g.S.Acts.site c.args.net.now).nodes) _ _ _ [] (c.loop-place.invariant.lined) (let line = c.in_ok-pass_from.ensures.lined in rw (c.loop-place.invariant.site) at line);
      later = omega (arith, c.loop-place.invariant.later, c.in_ok-pass_from.ensures.blame.later);
      passed = λ n earlier w ready was.
          let p = c.loop-place.invariant.passed n earlier w ready was in
          let from = was_on earlier c.args.before.now c.args.lanes.now c.loop-place.place c.index-lanes-place.result _ was c.loop-place-test.true c.index-lanes-place.is in
          let found = c.on_wire-count.ensures n p.after p.reached.ready.stands in
          let runs = c.in_ok-pass_from.ensures.runs in
          let runs_here = rw c.loop-place.invariant.site at runs in
          let counted = count_is _ _ _ ways _ c.args.number c.args.lanes.now n earlier w _ _ _ _ c.loop-place.place _ c.index-lanes-place.result _ _ _ c.loop-place-test.true c.index-lanes-place.is p from found in
          passed_more _ _ _ ways _ c.args.number c.args.lanes.now n earlier w _ _ _ _ c.loop-place.place _ c.index-lanes-place.result _ _ _ c.loop-place-test.true c.index-lanes-place.is p from found _ _ (runs_here n p.after p.reached.ready) _
          (counts_more c.args.lanes.now w c.loop-place.each _ c.loop-place.all _ _ c.loop-place.place c.index-lanes-place.result _ c.loop-place-test.true c.index-lanes-place.is p.counted counted c.in-Ok-push.ensures.items c.in-Ok.ensures.sum);
    }

pub returns-clause-runs : goal.returns-clause-runs
returns-clause-runs g c = λ n earlier w ready was.
    let ways : Ways g.S.Acts.stands g.S.Acts.rests g.S.Acts.tallied = record { rest = g.met.S.Acts.comes_to_rest; none = g.met.S.Acts.none_tallied; more = g.met.S.Acts.more_tallied } in
    let p = c.loop-place.invariant.passed n earlier w ready was in
    (passed_all _ _ _ ways _ c.args.number c.args.lanes.now n earlier w _ _ _ _ c.loop-place.place _ c.loop-place-test.false p, all_counted c.args.lanes.now w c.loop-place.place _ c.loop-place-test.false p.counted)

pub returns-in_err-pass_from-clause-lined : goal.returns-in_err-pass_from-clause-lined
returns-in_err-pass_from-clause-lined g c =
    let line = c.in_err-pass_from.ensures.lined in
    let err = err_from_is_err_and c.from_residual.result c.from_residual.ensures.1 in
    rw err.1
    (in_lines_on g.W.Sink.taken g.W.Sink.pieces (IsItemLine (g.S.Acts.site c.args.net.now).nodes) {T = Unit {0}} _ _ _ (Err c.in_err-pass_from.field-0.0) (c.loop-place.invariant.lined) (rw (c.loop-place.invariant.site) at line))

pub returns-in-Err-clause-lined : goal.returns-in-Err-clause-lined
returns-in-Err-clause-lined g c = stopped_lined g.W.Sink.taken g.W.Sink.pieces (g.S.Acts.site c.args.net.now).nodes _ _ (lined_on g.W.Sink.taken g.W.Sink.pieces (IsItemLine (g.S.Acts.site c.args.net.now).nodes) _ _ _ [] (c.loop-place.invariant.lined) (let line = c.in_ok-pass_from.ensures.lined in rw (c.loop-place.invariant.site) at line))

pub returns-in-Err-push-clause-lined : goal.returns-in-Err-push-clause-lined
returns-in-Err-push-clause-lined g c = stopped_lined g.W.Sink.taken g.W.Sink.pieces (g.S.Acts.site c.args.net.now).nodes _ _ (lined_on g.W.Sink.taken g.W.Sink.pieces (IsItemLine (g.S.Acts.site c.args.net.now).nodes) _ _ _ [] (c.loop-place.invariant.lined) (let line = c.in_ok-pass_from.ensures.lined in rw (c.loop-place.invariant.site) at line))
