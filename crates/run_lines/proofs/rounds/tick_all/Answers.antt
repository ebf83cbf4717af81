use Rattle.std.proofs.Common.{◌≡◌, ◌∙◌, length, refl, ap, subst, arith, [], Err}
use Rattle.std.proofs.lemmas.Grind.{common_steps}
use Rattle.std.proofs.lemmas.Result.{err_from_is_err_and}
use Rattle.declared_site.specs.declared.site.Site.{Site as SiteValue}
use Rattle.declared_site.specs.SiteOf.{site_of}
use Rattle.run_lines.proofs.Going.{Ways}
use Rattle.run_lines.proofs.Looping.{Went, went_none, went_runs, went_runs_short, went_ends}
use Rattle.run_lines.proofs.Turns.{one_tick, no_tick}
use Rattle.run_lines.specs.Reporting.{IsItemLine}
use Rattle.run_lines.proofs.Lines.{none_lined, lined_on, in_lines_on}
use Rattle.run_lines.proofs.rounds.tick_all.Goals as goal

pub loop-place-init : goal.loop-place-init
loop-place-init g c =
    let ways : Ways g.S.Acts.stands g.S.Acts.rests g.S.Acts.tallied = record { rest = g.met.S.Acts.comes_to_rest; none = g.met.S.Acts.none_tallied; more = g.met.S.Acts.more_tallied } in
    record { site = refl; armed = refl; lined = none_lined g.W.Sink.taken g.W.Sink.pieces (IsItemLine (g.S.Acts.site c.args.net.now).nodes) c.args.sink.now; later = omega arith; went = went_none _ _ _ ways _ c.args.number _ _ _ }

pub returns-in_err-tick_if_up-clause-runs : goal.returns-in_err-tick_if_up-clause-runs
returns-in_err-tick_if_up-clause-runs g c =
    let ways : Ways g.S.Acts.stands g.S.Acts.rests g.S.Acts.tallied = record { rest = g.met.S.Acts.comes_to_rest; none = g.met.S.Acts.none_tallied; more = g.met.S.Acts.more_tallied } in
    let site = site_of (g.S.Acts.site c.args.net.now) in
    let n : c.len-nodes.result ≡ site.nodes = c.len-nodes.ensures ∙ ap (λ (s : SiteValue). length s.nodes) c.declared.ensures in
    let node : c.unwrap-node.result ≡ c.loop-place.place = grind (arith, common_steps, c.new.ensures, c.unwrap-node.ensures) in
    let here = subst (Went _ _ _ _ _ _ _ c.args.number _) (one_tick site site.nodes c.loop-place.place (omega (arith, n, c.loop-place-test.true))) c.loop-place.invariant.went in
    let runs = c.in_err-tick_if_up.ensures.runs in
    let err = err_from_is_err_and c.from_residual.result c.from_residual.ensures.1 in
    rw (err.1, err.2)
    (went_runs_short _ _ _ ways _ c.args.number (Unit {0}) _ _ _ _ _ _ _ _ _ _ here (rw (c.loop-place.invariant.site, node) at runs))

pub loop-place-preserved : goal.loop-place-preserved
loop-place-preserved g c =
    let ways : Ways g.S.Acts.stands g.S.Acts.rests g.S.Acts.tallied = record { rest = g.met.S.Acts.comes_to_rest; none = g.met.S.Acts.none_tallied; more = g.met.S.Acts.more_tallied } in
    let site = site_of (g.S.Acts.site c.args.net.now) in
    let n : c.len-nodes.result ≡ site.nodes = c.len-nodes.ensures ∙ ap (λ (s : SiteValue). length s.nodes) c.declared.ensures in
    let node : c.unwrap-node.result ≡ c.loop-place.place = grind (arith, common_steps, c.new.ensures, c.unwrap-node.ensures) in
    let here = subst (Went _ _ _ _ _ _ _ c.args.number _) (one_tick site site.nodes c.loop-place.place (omega (arith, n, c.loop-place-test.true))) c.loop-place.invariant.went in
    let runs = c.in_ok-tick_if_up.ensures.runs in
    record {
      site = c.in_ok-tick_if_up.ensures.site ∙ c.loop-place.invariant.site;
      armed = c.in_ok-tick_if_up.ensures.armed ∙ c.loop-place.invariant.armed;
      lined = lined_on g.W.Sink.taken g.W.Sink.pieces (IsItemLine (g.S.Acts.site c.args.net.now).nodes) _ _ _ [] (c.loop-place.invariant.lined) (let line = c.in_ok-tick_if_up.ensures.lined in rw (c.loop-place.invariant.site) at line);
      later = omega (arith, c.loop-place.invariant.later, c.in_ok-tick_if_up.ensures.blame.later);
      went = went_runs _ _ _ ways _ c.args.number (tt {0}) _ _ _ _ _ _ _ _ _ here (rw (c.loop-place.invariant.site, node) at runs);
    }

pub returns-clause-runs : goal.returns-clause-runs
returns-clause-runs g c =
    let ways : Ways g.S.Acts.stands g.S.Acts.rests g.S.Acts.tallied = record { rest = g.met.S.Acts.comes_to_rest; none = g.met.S.Acts.none_tallied; more = g.met.S.Acts.more_tallied } in
    let site = site_of (g.S.Acts.site c.args.net.now) in
    let n : c.len-nodes.result ≡ site.nodes = c.len-nodes.ensures ∙ ap (λ (s : SiteValue). length s.nodes) c.declared.ensures in
    let none = no_tick site site.nodes c.loop-place.place (omega (arith, n, c.loop-place-test.false)) in
    went_ends _ _ _ ways _ c.args.number (tt {0}) _ _ _ _ _ (subst (Went _ _ _ _ _ _ _ c.args.number _) none c.loop-place.invariant.went)

pub returns-in_err-tick_if_up-clause-lined : goal.returns-in_err-tick_if_up-clause-lined
returns-in_err-tick_if_up-clause-lined g c =
    let line = c.in_err-tick_if_up.ensures.lined in
    let err = err_from_is_err_and c.from_residual.result c.from_residual.ensures.1 in
    rw err.1
    (in_lines_on g.W.Sink.taken g.W.Sink.pieces (IsItemLine (g.S.Acts.site c.args.net.now).nodes) {T = Unit {0}} _ _ _ (Err c.in_err-tick_if_up.field-0.0) (c.loop-place.invariant.lined) (rw (c.loop-place.invariant.site) at line))
