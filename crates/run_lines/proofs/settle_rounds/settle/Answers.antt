use Rattle.std.proofs.Common.{◌≡◌, ◌∙◌, ◌+◌, ◌-◌, refl, subst, arith, [], Err}
use Rattle.std.proofs.lemmas.Result.{err_from_is_err_and}
use Rattle.declared_site.specs.SiteOf.{site_of}
use Rattle.run_model.specs.Lines.{settle}
use Rattle.run_lines.specs.Going.{Reached}
use Rattle.run_lines.proofs.Going.{Ways, reached_none, reached_on, reached_stop, stops_here, finishes}
use Rattle.run_lines.proofs.Settles.{one_round, no_round, none_put, some_put}
use Rattle.run_lines.specs.Reporting.{IsItemLine}
use Rattle.run_lines.proofs.Lines.{none_lined, lined_on, in_lines_on, stopped_unwritten}
use Rattle.run_lines.proofs.settle_rounds.settle.Goals as goal

pub returns-in-Err-clause-runs : goal.returns-in-Err-clause-runs
returns-in-Err-clause-runs g c = λ net w ready.
    let ways : Ways g.S.Acts.stands g.S.Acts.rests g.S.Acts.tallied = record { rest = g.met.S.Acts.comes_to_rest; none = g.met.S.Acts.none_tallied; more = g.met.S.Acts.more_tallied } in
    stops_here _ _ _ ways _ c.args.number net _ _ w _ ready

pub returns-in-Err-count_frames-clause-runs : goal.returns-in-Err-count_frames-clause-runs
returns-in-Err-count_frames-clause-runs g c = λ net w ready.
    let ways : Ways g.S.Acts.stands g.S.Acts.rests g.S.Acts.tallied = record { rest = g.met.S.Acts.comes_to_rest; none = g.met.S.Acts.none_tallied; more = g.met.S.Acts.more_tallied } in
    stops_here _ _ _ ways _ c.args.number net _ _ w _ ready

pub loop-turn-init : goal.loop-turn-init
loop-turn-init g c =
    let ways : Ways g.S.Acts.stands g.S.Acts.rests g.S.Acts.tallied = record { rest = g.met.S.Acts.comes_to_rest; none = g.met.S.Acts.none_tallied; more = g.met.S.Acts.more_tallied } in
    let all : c.args.rounds - 0 ≡ c.args.rounds = omega arith in
    record {
      site = refl;
      armed = refl;
      lined = none_lined g.W.Sink.taken g.W.Sink.pieces (IsItemLine (g.S.Acts.site c.args.net.now).nodes) c.args.sink.now;
      later = omega arith;
      went = λ net w ready.
          let counted = c.in-Ok-count_frames.ensures net w ready.stands in
          (w, rw all (reached_none _ _ _ ways _ c.args.number net _ _ w _ ready), rw c.deref.ensures.value at counted);
    }

pub returns-in_err-now-clause-runs : goal.returns-in_err-now-clause-runs
returns-in_err-now-clause-runs g c = λ net w ready.
    let ways : Ways g.S.Acts.stands g.S.Acts.rests g.S.Acts.tallied = record { rest = g.met.S.Acts.comes_to_rest; none = g.met.S.Acts.none_tallied; more = g.met.S.Acts.more_tallied } in
    let site = site_of (g.S.Acts.site c.args.net.now) in
    let at = c.loop-turn.invariant.went net w ready in
    let left = c.args.rounds - (c.loop-turn._turn + 1) in
    let here = subst (Reached _ _ _ _ _ _ _ c.args.number net w _ at.0) (one_round site c.args.rounds c.loop-turn._turn c.loop-turn-test.true) at.1 in
    let runs = c.in_err-now.ensures.runs in
    let runs_here = rw (c.loop-turn.invariant.site, c.deref-in-loop-turn.ensures.value) at runs in
    let out = runs_here (settle site left) net at.0 at.1.ready at.2 in
    let err = err_from_is_err_and c.from_residual.result c.from_residual.ensures.1 in
    rw (err.1, err.2)
    (reached_stop _ _ _ ways _ c.args.number net _ _ _ _ _ _ w at.0 _ _ _ here out)

pub returns-then-now-frames-clause-runs : goal.returns-then-now-frames-clause-runs
returns-then-now-frames-clause-runs g c = λ net w ready.
    let ways : Ways g.S.Acts.stands g.S.Acts.rests g.S.Acts.tallied = record { rest = g.met.S.Acts.comes_to_rest; none = g.met.S.Acts.none_tallied; more = g.met.S.Acts.more_tallied } in
    let site = site_of (g.S.Acts.site c.args.net.now) in
    let at = c.loop-turn.invariant.went net w ready in
    let left = c.args.rounds - (c.loop-turn._turn + 1) in
    let here = subst (Reached _ _ _ _ _ _ _ c.args.number net w _ at.0) (one_round site c.args.rounds c.loop-turn._turn c.loop-turn-test.true) at.1 in
    let runs = c.in_ok-now.ensures.runs in
    let runs_here = rw (c.loop-turn.invariant.site, c.deref-in-loop-turn.ensures.value) at runs in
    let out = runs_here (settle site left) net at.0 at.1.ready at.2 in
    let ended = subst (Reached _ _ _ _ _ _ _ c.args.number net at.0 _ out.0) (none_put (settle site left) c.loop-turn.frames.all c.in_ok-now.now.all c.if-now-frames.true) out.1 in
    finishes _ _ _ ways _ c.args.number net _ _ _ _ w _ _ (reached_on _ _ _ ways _ c.args.number net _ _ _ _ _ _ w at.0 out.0 _ _ _ here ended)

pub loop-turn-preserved : goal.loop-turn-preserved
loop-turn-preserved g c =
    let ways : Ways g.S.Acts.stands g.S.Acts.rests g.S.Acts.tallied = record { rest = g.met.S.Acts.comes_to_rest; none = g.met.S.Acts.none_tallied; more = g.met.S.Acts.more_tallied } in
    record {
      site = c.in_ok-now.ensures.site ∙ c.loop-turn.invariant.site;
      armed = c.in_ok-now.ensures.armed ∙ c.loop-turn.invariant.armed;
      lined = lined_on g.W.Sink.taken g.W.Sink.pieces (IsItemLine (g.S.Acts.site c.args.net.now).nodes) _ _ _ [] (c.loop-turn.invariant.lined) (let line = c.in_ok-now.ensures.lined in rw (c.loop-turn.invariant.site) at line);
      later = omega (arith, c.loop-turn.invariant.later, c.in_ok-now.ensures.blame.later);
      went = λ net w ready.
          let site = site_of (g.S.Acts.site c.args.net.now) in
          let at = c.loop-turn.invariant.went net w ready in
          let left = c.args.rounds - (c.loop-turn._turn + 1) in
          let here = subst (Reached _ _ _ _ _ _ _ c.args.number net w _ at.0) (one_round site c.args.rounds c.loop-turn._turn c.loop-turn-test.true) at.1 in
          let runs = c.in_ok-now.ensures.runs in
          let runs_here = rw (c.loop-turn.invariant.site, c.deref-in-loop-turn.ensures.value) at runs in
          let out = runs_here (settle site left) net at.0 at.1.ready at.2 in
          let goes = subst (Reached _ _ _ _ _ _ _ c.args.number net at.0 _ out.0) (some_put (settle site left) c.loop-turn.frames.all c.in_ok-now.now.all c.if-now-frames.false) out.1 in
          (out.0, reached_on _ _ _ ways _ c.args.number net _ _ _ _ _ _ w at.0 out.0 _ _ _ here goes, out.2);
    }

pub returns-clause-runs : goal.returns-clause-runs
returns-clause-runs g c = λ net w ready.
    let ways : Ways g.S.Acts.stands g.S.Acts.rests g.S.Acts.tallied = record { rest = g.met.S.Acts.comes_to_rest; none = g.met.S.Acts.none_tallied; more = g.met.S.Acts.more_tallied } in
    let at = c.loop-turn.invariant.went net w ready in
    let none = no_round (site_of (g.S.Acts.site c.args.net.now)) c.args.rounds c.loop-turn._turn c.loop-turn-test.false in
    finishes _ _ _ ways _ c.args.number net _ _ _ _ w at.0 _ (subst (Reached _ _ _ _ _ _ _ c.args.number net w _ at.0) none at.1)

pub returns-in-Err-clause-lined : goal.returns-in-Err-clause-lined
returns-in-Err-clause-lined g c = stopped_unwritten g.W.Sink.taken g.W.Sink.pieces (g.S.Acts.site c.args.net.now).nodes c.args.sink.now

pub returns-in-Err-count_frames-clause-lined : goal.returns-in-Err-count_frames-clause-lined
returns-in-Err-count_frames-clause-lined g c = stopped_unwritten g.W.Sink.taken g.W.Sink.pieces (g.S.Acts.site c.args.net.now).nodes c.args.sink.now

pub returns-in_err-now-clause-lined : goal.returns-in_err-now-clause-lined
returns-in_err-now-clause-lined g c =
    let line = c.in_err-now.ensures.lined in
    let err = err_from_is_err_and c.from_residual.result c.from_residual.ensures.1 in
    rw err.1
    (in_lines_on g.W.Sink.taken g.W.Sink.pieces (IsItemLine (g.S.Acts.site c.args.net.now).nodes) {T = Unit {0}} _ _ _ (Err c.in_err-now.field-0.0) (c.loop-turn.invariant.lined) (rw (c.loop-turn.invariant.site) at line))

pub returns-then-now-frames-clause-lined : goal.returns-then-now-frames-clause-lined
returns-then-now-frames-clause-lined g c = lined_on g.W.Sink.taken g.W.Sink.pieces (IsItemLine (g.S.Acts.site c.args.net.now).nodes) _ _ _ [] (c.loop-turn.invariant.lined) (let line = c.in_ok-now.ensures.lined in rw (c.loop-turn.invariant.site) at line)
