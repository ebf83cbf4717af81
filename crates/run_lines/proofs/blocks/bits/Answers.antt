use Rattle.std.proofs.Common.{◌≡◌, ◌∙◌, ◌-◌, refl, subst, arith, [], Err}
use Rattle.std.proofs.lemmas.Result.{err_from_is_err_and}
use Rattle.run_lines.proofs.Going.{Ways}
use Rattle.run_lines.proofs.Looping.{Went, went_none, went_ready, went_ends}
use Rattle.run_lines.proofs.Ends.{no_turn, low_taken, low_short, high_taken, high_short}
use Rattle.run_lines.specs.Reporting.{IsItemLine}
use Rattle.run_lines.proofs.Lines.{none_lined, lined_on, in_lines_on}
use Rattle.run_lines.proofs.blocks.bits.Goals as goal

pub loop-turn-init : goal.loop-turn-init
loop-turn-init g c =
    let ways : Ways g.S.Acts.stands g.S.Acts.rests g.S.Acts.tallied = record { rest = g.met.S.Acts.comes_to_rest; none = g.met.S.Acts.none_tallied; more = g.met.S.Acts.more_tallied } in
    let all : c.args.count - 0 ≡ c.args.count = omega arith in
    record {
      site = refl;
      armed = refl;
      lined = none_lined g.W.Sink.taken g.W.Sink.pieces (IsItemLine (g.S.Acts.site c.args.net.now).nodes) c.args.sink.now;
      later = omega arith;
      went = rw (c.has_low-low.ensures, c.has_high-high.ensures, all) (went_none _ _ _ ways _ c.args.number _ _ _);
    }

pub take_at-requires-clause-fit : goal.take_at-requires-clause-fit
take_at-requires-clause-fit g c = rw c.loop-turn.invariant.site c.requires.low

pub take_at-requires-clause-ready : goal.take_at-requires-clause-ready
take_at-requires-clause-ready g c =
    let ways : Ways g.S.Acts.stands g.S.Acts.rests g.S.Acts.tallied = record { rest = g.met.S.Acts.comes_to_rest; none = g.met.S.Acts.none_tallied; more = g.met.S.Acts.more_tallied } in
    went_ready _ _ _ ways _ c.args.number _ _ _ _ _ _ c.loop-turn.invariant.went c.requires.ready

pub take_at-requires-in-loop-turn-clause-fit : goal.take_at-requires-in-loop-turn-clause-fit
take_at-requires-in-loop-turn-clause-fit g c = rw (c.in_ok-low.ensures.site ∙ c.loop-turn.invariant.site) c.requires.high

pub take_at-requires-in-loop-turn-clause-ready : goal.take_at-requires-in-loop-turn-clause-ready
take_at-requires-in-loop-turn-clause-ready g c =
    let ways : Ways g.S.Acts.stands g.S.Acts.rests g.S.Acts.tallied = record { rest = g.met.S.Acts.comes_to_rest; none = g.met.S.Acts.none_tallied; more = g.met.S.Acts.more_tallied } in
    let low = c.in_ok-low.ensures.goes in
    let low_here = rw c.loop-turn.invariant.site at low in
    went_ready _ _ _ ways _ c.args.number _ _ _ _ _ _ (low_taken _ _ _ ways _ c.args.number _ c.args.link c.loop-turn.low c.loop-turn.high c.args.count c.loop-turn._turn c.loop-turn-test.true _ _ _ _ _ c.loop-turn.invariant.went _ _ _ low_here) c.requires.ready

pub returns-in_err-low-clause-runs : goal.returns-in_err-low-clause-runs
returns-in_err-low-clause-runs g c =
    let ways : Ways g.S.Acts.stands g.S.Acts.rests g.S.Acts.tallied = record { rest = g.met.S.Acts.comes_to_rest; none = g.met.S.Acts.none_tallied; more = g.met.S.Acts.more_tallied } in
    let low = c.in_err-low.ensures.goes in
    let low_here = rw c.loop-turn.invariant.site at low in
    let err = err_from_is_err_and c.from_residual.result c.from_residual.ensures.1 in
    rw (err.1, err.2)
    (low_short _ _ _ ways _ c.args.number _ c.args.link c.loop-turn.low c.loop-turn.high c.args.count c.loop-turn._turn c.loop-turn-test.true _ _ _ _ _ c.loop-turn.invariant.went _ _ _ low_here)

pub returns-in_err-high-clause-runs : goal.returns-in_err-high-clause-runs
returns-in_err-high-clause-runs g c =
    let ways : Ways g.S.Acts.stands g.S.Acts.rests g.S.Acts.tallied = record { rest = g.met.S.Acts.comes_to_rest; none = g.met.S.Acts.none_tallied; more = g.met.S.Acts.more_tallied } in
    let low = c.in_ok-low.ensures.goes in
    let low_here = rw c.loop-turn.invariant.site at low in
    let high = c.in_err-high.ensures.goes in
    let high_here = rw (c.in_ok-low.ensures.site ∙ c.loop-turn.invariant.site) at high in
    let err = err_from_is_err_and c.from_residual-in_err-high.result c.from_residual-in_err-high.ensures.1 in
    rw (err.1, err.2)
    (high_short _ _ _ ways _ c.args.number _ c.args.link c.loop-turn.low c.loop-turn.high c.args.count c.loop-turn._turn c.loop-turn-test.true _ _ _ _ _ c.loop-turn.invariant.went _ _ _ low_here _ _ _ high_here)

pub loop-turn-preserved : goal.loop-turn-preserved
loop-turn-preserved g c =
    let ways : Ways g.S.Acts.stands g.S.Acts.rests g.S.Acts.tallied = record { rest = g.met.S.Acts.comes_to_rest; none = g.met.S.Acts.none_tallied; more = g.met.S.Acts.more_tallied } in
    let low = c.in_ok-low.ensures.goes in
    let low_here = rw c.loop-turn.invariant.site at low in
    let high = c.in_ok-high.ensures.goes in
    let high_here = rw (c.in_ok-low.ensures.site ∙ c.loop-turn.invariant.site) at high in
    record {
      site = c.in_ok-high.ensures.site ∙ c.in_ok-low.ensures.site ∙ c.loop-turn.invariant.site;
      armed = c.in_ok-high.ensures.armed ∙ c.in_ok-low.ensures.armed ∙ c.loop-turn.invariant.armed;
      lined = lined_on g.W.Sink.taken g.W.Sink.pieces (IsItemLine (g.S.Acts.site c.args.net.now).nodes) _ _ _ [] (lined_on g.W.Sink.taken g.W.Sink.pieces (IsItemLine (g.S.Acts.site c.args.net.now).nodes) _ _ _ [] (c.loop-turn.invariant.lined) (let line = c.in_ok-low.ensures.lined in rw (c.loop-turn.invariant.site) at line)) (let line = c.in_ok-high.ensures.lined in rw (c.in_ok-low.ensures.site ∙ c.loop-turn.invariant.site) at line);
      later = omega (arith, c.loop-turn.invariant.later, c.in_ok-low.ensures.blame.later, c.in_ok-high.ensures.blame.later);
      went = high_taken _ _ _ ways _ c.args.number _ c.args.link c.loop-turn.low c.loop-turn.high c.args.count c.loop-turn._turn c.loop-turn-test.true _ _ _ _ _ c.loop-turn.invariant.went _ _ _ low_here _ _ _ high_here;
    }

pub returns-clause-runs : goal.returns-clause-runs
returns-clause-runs g c =
    let ways : Ways g.S.Acts.stands g.S.Acts.rests g.S.Acts.tallied = record { rest = g.met.S.Acts.comes_to_rest; none = g.met.S.Acts.none_tallied; more = g.met.S.Acts.more_tallied } in
    let none = no_turn _ c.args.link c.loop-turn.low c.loop-turn.high c.args.count c.loop-turn._turn c.loop-turn-test.false in
    went_ends _ _ _ ways _ c.args.number (tt {0}) _ _ _ _ _ (subst (Went _ _ _ _ _ _ _ c.args.number _) none c.loop-turn.invariant.went)

pub returns-in_err-low-clause-lined : goal.returns-in_err-low-clause-lined
returns-in_err-low-clause-lined g c =
    let line = c.in_err-low.ensures.lined in
    let err = err_from_is_err_and c.from_residual.result c.from_residual.ensures.1 in
    rw err.1
    (in_lines_on g.W.Sink.taken g.W.Sink.pieces (IsItemLine (g.S.Acts.site c.args.net.now).nodes) {T = Unit {0}} _ _ _ (Err c.in_err-low.field-0.0) (c.loop-turn.invariant.lined) (rw (c.loop-turn.invariant.site) at line))

pub returns-in_err-high-clause-lined : goal.returns-in_err-high-clause-lined
returns-in_err-high-clause-lined g c =
    let line = c.in_err-high.ensures.lined in
    let err = err_from_is_err_and c.from_residual-in_err-high.result c.from_residual-in_err-high.ensures.1 in
    rw err.1
    (in_lines_on g.W.Sink.taken g.W.Sink.pieces (IsItemLine (g.S.Acts.site c.args.net.now).nodes) {T = Unit {0}} _ _ _ (Err c.in_err-high.field-0.0) (lined_on g.W.Sink.taken g.W.Sink.pieces (IsItemLine (g.S.Acts.site c.args.net.now).nodes) _ _ _ [] (c.loop-turn.invariant.lined) (let line = c.in_ok-low.ensures.lined in rw (c.loop-turn.invariant.site) at line)) (rw (c.in_ok-low.ensures.site ∙ c.loop-turn.invariant.site) at line))
