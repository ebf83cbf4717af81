use Rattle.std.proofs.Common.{◌≡◌, ◌∙◌, List, [], ◌++◌, refl, ap, arith}
use Rattle.std.proofs.lemmas.Grind.{common_steps}
use Rattle.std.proofs.lemmas.Result.{err_from_is_err_and}
use Rattle.run_model.specs.Report.{Task}
use Rattle.run_model.specs.Headline.{unknown}
use Rattle.run_lines.specs.Commands.{any_texts}
use Rattle.run_lines.proofs.Going.{Ways}
use Rattle.run_tasks.proofs.Tasking.{begins_is, one_begins, none_begins}
use Rattle.run_tasks.specs.Counting.{no_keys}
use Rattle.run_tasks.proofs.Hearing.{begins_silent, silent_finishes, silent_stops}
use Rattle.run_tasks.proofs.Tasks.{went_none, went_on, went_one, went_as, went_stop, one_stopped}
use Rattle.run_tasks.proofs.load.begin_all.Goals as goal

pub loop-place-init : goal.loop-place-init
loop-place-init g c =
    let ways : Ways g.S.Acts.stands g.S.Acts.rests g.S.Acts.tallied = record { rest = g.met.S.Acts.comes_to_rest; none = g.met.S.Acts.none_tallied; more = g.met.S.Acts.more_tallied } in
    record {
      site = refl;
      armed = refl;
      went = λ http n w last taken ready. (w, went_none _ _ _ ways _ http n _ taken w _ ready);
    }

pub begin-requires-clause-ready : goal.begin-requires-clause-ready
begin-requires-clause-ready g c =
    let q = c.requires.ready in
    let at = c.loop-place.invariant.went any_texts q.0 q.1 [] unknown q.2 in
    (q.0, at.0, at.1.ready)

pub returns-in_err-begin-clause-ran : goal.returns-in_err-begin-clause-ran
returns-in_err-begin-clause-ran g c = λ http n w last taken ready.
    let ways : Ways g.S.Acts.stands g.S.Acts.rests g.S.Acts.tallied = record { rest = g.met.S.Acts.comes_to_rest; none = g.met.S.Acts.none_tallied; more = g.met.S.Acts.more_tallied } in
    let node : c.unwrap-node.result ≡ c.loop-place.place = grind (arith, common_steps, c.new.ensures, c.unwrap-node.ensures) in
    let at = c.loop-place.invariant.went http n w last taken ready in
    let here = went_as _ _ _ ways _ http n _ _ taken taken w at.0 _ _ _ no_keys (ap (λ (ts : List Task). ts ++ last) (one_begins c.args.node_lines.now c.loop-place.place c.loop-place-test.true)) at.1 in
    let runs = c.in_err-begin.ensures.runs in
    let runs_here = rw (c.loop-place.invariant.site, node) at runs in
    let err = err_from_is_err_and c.from_residual.result c.from_residual.ensures.1 in
    rw (err.1, err.2)
    (went_stop _ _ _ ways _ http n _ _ _ taken taken taken w at.0 _ _ _ no_keys here
    (one_stopped _ _ _ ways _ http n _ _ taken taken at.0 _ _ _ _ _ (begins_is http n 1 at.0 _ c.loop-place.place)
    (silent_stops g.S.Acts.stands g.S.Acts.rests g.S.Acts.tallied _ _ _ _ n at.0 taken unknown unknown _ _ (begins_silent n at.0 c.loop-place.place) (runs_here n at.0 at.1.ready))))

pub loop-place-preserved : goal.loop-place-preserved
loop-place-preserved g c =
    let ways : Ways g.S.Acts.stands g.S.Acts.rests g.S.Acts.tallied = record { rest = g.met.S.Acts.comes_to_rest; none = g.met.S.Acts.none_tallied; more = g.met.S.Acts.more_tallied } in
    let node : c.unwrap-node.result ≡ c.loop-place.place = grind (arith, common_steps, c.new.ensures, c.unwrap-node.ensures) in
    record {
      site = c.in_ok-begin.ensures.site ∙ c.loop-place.invariant.site;
      armed = c.in_ok-begin.ensures.armed ∙ c.loop-place.invariant.armed;
      went = λ http n w last taken ready.
          let at = c.loop-place.invariant.went http n w last taken ready in
          let here = went_as _ _ _ ways _ http n _ _ taken taken w at.0 _ _ _ no_keys (ap (λ (ts : List Task). ts ++ last) (one_begins c.args.node_lines.now c.loop-place.place c.loop-place-test.true)) at.1 in
          let runs = c.in_ok-begin.ensures.runs in
          let runs_here = rw (c.loop-place.invariant.site, node) at runs in
          let f = runs_here n at.0 at.1.ready in
          let silent = silent_finishes g.S.Acts.stands g.S.Acts.rests g.S.Acts.tallied _ _ _ _ n at.0 taken unknown unknown _ (begins_silent n at.0 c.loop-place.place) f in (
            silent.plays.after,
            went_on _ _ _ ways _ http n _ _ _ taken taken taken w at.0 silent.plays.after _ _ _ no_keys no_keys no_keys refl refl here
                (went_one _ _ _ ways _ http n _ _ taken taken at.0 _ _ _ _ no_keys (begins_is http n 1 at.0 _ c.loop-place.place) silent),
          );
    }

pub returns-clause-ran : goal.returns-clause-ran
returns-clause-ran g c = λ http n w last taken ready.
    let ways : Ways g.S.Acts.stands g.S.Acts.rests g.S.Acts.tallied = record { rest = g.met.S.Acts.comes_to_rest; none = g.met.S.Acts.none_tallied; more = g.met.S.Acts.more_tallied } in
    let at = c.loop-place.invariant.went http n w last taken ready in
    (at.0, went_as _ _ _ ways _ http n _ _ taken taken w at.0 _ _ _ no_keys (ap (λ (ts : List Task). ts ++ last) (none_begins c.args.node_lines.now c.loop-place.place c.loop-place-test.false)) at.1)
