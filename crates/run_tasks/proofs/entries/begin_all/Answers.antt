use Rattle.std.proofs.Common.{◌≡◌, ◌∙◌, refl, subst, arith, [], Err}
use Rattle.std.proofs.lemmas.Grind.{common_steps}
use Rattle.std.proofs.lemmas.Result.{err_from_is_err_and}
use Rattle.run_lines.specs.Commands.{any_texts}
use Rattle.run_lines.proofs.Going.{Ways}
use Rattle.run_tasks.proofs.Tasking.{DidSo, begins_is, one_begins, none_begins, did_none, did_on, did_one, did_stop, one_stopped, all_ran}
use Rattle.run_lines.specs.Reporting.{IsItemLine}
use Rattle.run_lines.proofs.Lines.{none_lined, lined_on, in_lines_on}
use Rattle.run_tasks.proofs.entries.begin_all.Goals as goal

pub loop-place-init : goal.loop-place-init
loop-place-init g c =
    let ways : Ways g.S.Acts.stands g.S.Acts.rests g.S.Acts.tallied = record { rest = g.met.S.Acts.comes_to_rest; none = g.met.S.Acts.none_tallied; more = g.met.S.Acts.more_tallied } in
    record {
      site = refl;
      armed = refl;
      lined = none_lined g.W.Sink.taken g.W.Sink.pieces (IsItemLine (g.S.Acts.site c.args.net.now).nodes) c.args.sink.now;
      later = omega arith;
      did = λ http n workers w ready. (w, did_none _ _ _ ways _ http n _ _ _ w _ ready);
    }

pub begin-requires-clause-ready : goal.begin-requires-clause-ready
begin-requires-clause-ready g c =
    let q = c.requires.ready in
    let at = c.loop-place.invariant.did any_texts q.0 1 q.1 q.2 in
    (q.0, at.0, at.1.ready)

pub returns-in_err-begin-clause-ran : goal.returns-in_err-begin-clause-ran
returns-in_err-begin-clause-ran g c = λ http n workers w ready.
    let ways : Ways g.S.Acts.stands g.S.Acts.rests g.S.Acts.tallied = record { rest = g.met.S.Acts.comes_to_rest; none = g.met.S.Acts.none_tallied; more = g.met.S.Acts.more_tallied } in
    let node : c.unwrap-node.result ≡ c.loop-place.place = grind (arith, common_steps, c.new.ensures, c.unwrap-node.ensures) in
    let at = c.loop-place.invariant.did http n workers w ready in
    let here = subst (DidSo _ _ _ _ _ _ _ http n workers w _ at.0) (one_begins c.args.node_lines.now c.loop-place.place c.loop-place-test.true) at.1 in
    let runs = c.in_err-begin.ensures.runs in
    let runs_here = rw (c.loop-place.invariant.site, node) at runs in
    let err = err_from_is_err_and c.from_residual.result c.from_residual.ensures.1 in
    rw (err.1, err.2)
    (did_stop _ _ _ ways _ http n _ _ _ _ _ _ _ _ w at.0 _ _ _ here
    (one_stopped _ _ _ ways _ http n _ _ _ _ _ _ at.0 _ _ _ _ _ (begins_is http n _ at.0 _ c.loop-place.place) (runs_here n at.0 at.1.ready)))

pub loop-place-preserved : goal.loop-place-preserved
loop-place-preserved g c =
    let ways : Ways g.S.Acts.stands g.S.Acts.rests g.S.Acts.tallied = record { rest = g.met.S.Acts.comes_to_rest; none = g.met.S.Acts.none_tallied; more = g.met.S.Acts.more_tallied } in
    let node : c.unwrap-node.result ≡ c.loop-place.place = grind (arith, common_steps, c.new.ensures, c.unwrap-node.ensures) in
    record {
      site = c.in_ok-begin.ensures.site ∙ c.loop-place.invariant.site;
      armed = c.in_ok-begin.ensures.armed ∙ c.loop-place.invariant.armed;
      lined = lined_on g.W.Sink.taken g.W.Sink.pieces (IsItemLine (g.S.Acts.site c.args.net.now).nodes) _ _ _ [] c.loop-place.invariant.lined (let line = c.in_ok-begin.ensures.lined in rw (c.loop-place.invariant.site) at line);
      later = omega (arith, c.loop-place.invariant.later, c.in_ok-begin.ensures.blame.later);
      did = λ http n workers w ready.
          let at = c.loop-place.invariant.did http n workers w ready in
          let here = subst (DidSo _ _ _ _ _ _ _ http n workers w _ at.0) (one_begins c.args.node_lines.now c.loop-place.place c.loop-place-test.true) at.1 in
          let runs = c.in_ok-begin.ensures.runs in
          let runs_here = rw (c.loop-place.invariant.site, node) at runs in
          let f = runs_here n at.0 at.1.ready in
          (f.plays.after, did_on _ _ _ ways _ http n _ _ _ _ _ _ _ w at.0 f.plays.after _ _ _ here (did_one _ _ _ ways _ http n _ _ _ _ _ at.0 _ _ _ _ (begins_is http n _ at.0 _ c.loop-place.place) f));
    }

pub returns-clause-ran : goal.returns-clause-ran
returns-clause-ran g c = λ http n workers w ready.
    let ways : Ways g.S.Acts.stands g.S.Acts.rests g.S.Acts.tallied = record { rest = g.met.S.Acts.comes_to_rest; none = g.met.S.Acts.none_tallied; more = g.met.S.Acts.more_tallied } in
    let at = c.loop-place.invariant.did http n workers w ready in
    all_ran _ _ _ ways _ http n _ (Unit {0}) (tt {0}) _ _ _ _ w at.0 _ (subst (DidSo _ _ _ _ _ _ _ http n workers w _ at.0) (none_begins c.args.node_lines.now c.loop-place.place c.loop-place-test.false) at.1)

pub returns-in_err-begin-clause-lined : goal.returns-in_err-begin-clause-lined
returns-in_err-begin-clause-lined g c =
    let line = c.in_err-begin.ensures.lined in
    let err = err_from_is_err_and c.from_residual.result c.from_residual.ensures.1 in
    rw err.1
    (in_lines_on g.W.Sink.taken g.W.Sink.pieces (IsItemLine (g.S.Acts.site c.args.net.now).nodes) {T = Unit {0}} _ _ _ (Err c.in_err-begin.field-0.0) c.loop-place.invariant.lined (rw (c.loop-place.invariant.site) at line))
