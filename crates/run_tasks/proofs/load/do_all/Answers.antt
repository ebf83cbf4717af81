use Rattle.std.proofs.Common.{◌≡◌, ◌∙◌, ◌+◌, true, List, length, map, refl, sym, ap, subst, arith, rules, [], Err}
use Rattle.std.specs.List.{AllByRecursion, list_all}
use Rattle.std.specs.Vec.Iter.{into_iter_items}
use Rattle.std.proofs.lemmas.Result.{err_from_is_err_and}
use Rattle.declared_site.specs.SiteOf.{site_of}
use Rattle.run_types.specs.declared.entry.Entry.{Entry}
use Rattle.run_model.specs.Report.{Does}
use Rattle.run_lines.proofs.Going.{Ways}
use Rattle.run_tasks.proofs.Tasking.{is_none}
use Rattle.law_run.specs.Kinds.{is_load_entry}
use Rattle.run_tasks.specs.declared.handed.Handed.{Handed}
use Rattle.run_tasks.specs.Entries.{IsLineFor}
use Rattle.run_tasks.proofs.LoadEntries.{entry_is, first_load, more_load}
use Rattle.run_tasks.proofs.Tasks.{went_none, went_on, went_one, went_as, went_stop, went_short, one_stopped}
use Rattle.run_lines.specs.Reporting.{IsItemLine}
use Rattle.run_lines.proofs.Lines.{none_lined, lined_on, in_lines_on, stopped_lined}
use Rattle.run_tasks.proofs.load.do_all.Goals as goal

pub loop-entry-init : goal.loop-entry-init
loop-entry-init g c =
    let ways : Ways g.S.Acts.stands g.S.Acts.rests g.S.Acts.tallied = record { rest = g.met.S.Acts.comes_to_rest; none = g.met.S.Acts.none_tallied; more = g.met.S.Acts.more_tallied } in
    let is = c.into_iter-entry-iterator.ensures.into_iter_gives.0 ∙ c.into_vec-entry-items.ensures in
    record {
      site = refl;
      armed = refl;
      long = search rules;
      load = rw is c.requires.load;
      fit = rw is c.requires.fit;
      ready = c.requires.ready;
      lined = none_lined g.W.Sink.taken g.W.Sink.pieces (IsItemLine (g.S.Acts.site c.args.net.now).nodes) c.args.sink.now;
      later = omega arith;
      went = λ http n w ready. (w, rw c.none-handed.ensures (went_none _ _ _ ways _ http n _ _ w _ ready));
    }

pub do_entry-requires-clause-load : goal.do_entry-requires-clause-load
do_entry-requires-clause-load g c =
    first_load c.in-Some.entry (into_iter_items c.next.new.self) (subst (λ (es : List Entry). list_all is_load_entry es ≡ true) c.in-Some.ensures.steps.0 c.loop-entry.invariant.load)

pub loop-entry-preserved : goal.loop-entry-preserved
loop-entry-preserved g c =
    let ways : Ways g.S.Acts.stands g.S.Acts.rests g.S.Acts.tallied = record { rest = g.met.S.Acts.comes_to_rest; none = g.met.S.Acts.none_tallied; more = g.met.S.Acts.more_tallied } in
    let gone = c.in-Some.ensures.steps in
    record {
      site = c.in_ok-more.ensures.site ∙ c.loop-entry.invariant.site;
      armed = c.in_ok-more.ensures.armed ∙ c.loop-entry.invariant.armed;
      long = (let fewer = ap (λ (es : List Entry). length es) gone.0 in omega (arith, fewer, gone.1, c.loop-entry.invariant.long));
      load = more_load c.in-Some.entry (into_iter_items c.next.new.self) (subst (λ (es : List Entry). list_all is_load_entry es ≡ true) gone.0 c.loop-entry.invariant.load);
      fit = (subst (AllByRecursion (IsLineFor (g.S.Acts.site c.args.net.now))) gone.0 c.loop-entry.invariant.fit).1;
      ready = c.in_ok-more.ensures.ready;
      lined = lined_on g.W.Sink.taken g.W.Sink.pieces (IsItemLine (g.S.Acts.site c.args.net.now).nodes) _ _ _ [] c.loop-entry.invariant.lined (let line = c.in_ok-more.ensures.lined in rw (c.loop-entry.invariant.site) at line);
      later = omega (arith, c.loop-entry.invariant.later, c.in_ok-more.ensures.blame.later);
      went = λ http n w ready.
          let at = c.loop-entry.invariant.went http n w ready in
          let here = went_as _ _ _ ways _ http n _ _ _ _ w at.0 _ _ _ c.loop-entry.handed (ap (λ (es : List Entry). map Does es) gone.0) at.1 in
          let sited = g.met.S.Acts.is_sited c.loop-entry.net n at.0 at.1.ready.stands ∙ ap site_of c.loop-entry.invariant.site in
          let fits = subst (AllByRecursion (IsLineFor (g.S.Acts.site c.args.net.now))) gone.0 c.loop-entry.invariant.fit in
          let line = entry_is http n at.0 (g.S.Acts.site c.args.net.now) c.in-Some.entry sited fits.0 in
          let runs = c.in_ok-more.ensures.runs in
          let runs_all = rw c.loop-entry.invariant.site at runs in
          let f = runs_all http line.line line.is n at.0 at.1.ready in (
            f.plays.after,
            went_on _ _ _ ways _ http n _ _ _ _ _ _ w at.0 f.plays.after _ _ _ c.loop-entry.handed c.in_ok-more.more c.in-Ok.all c.in-Ok.ensures.masters c.in-Ok.ensures.slaves here
                (went_one _ _ _ ways _ http n _ _ _ _ at.0 _ _ _ _ c.in_ok-more.more line.task f),
          );
    }

pub returns-in_err-more-clause-ran : goal.returns-in_err-more-clause-ran
returns-in_err-more-clause-ran g c = λ http n w ready.
    let ways : Ways g.S.Acts.stands g.S.Acts.rests g.S.Acts.tallied = record { rest = g.met.S.Acts.comes_to_rest; none = g.met.S.Acts.none_tallied; more = g.met.S.Acts.more_tallied } in
    let is = c.into_iter-entry-iterator.ensures.into_iter_gives.0 ∙ c.into_vec-entry-items.ensures in
    let at = c.loop-entry.invariant.went http n w ready in
    let gone = c.in-Some.ensures.steps in
    let here = went_as _ _ _ ways _ http n _ _ _ _ w at.0 _ _ _ c.loop-entry.handed (ap (λ (es : List Entry). map Does es) gone.0) at.1 in
    let sited = g.met.S.Acts.is_sited c.loop-entry.net n at.0 at.1.ready.stands ∙ ap site_of c.loop-entry.invariant.site in
    let fits = subst (AllByRecursion (IsLineFor (g.S.Acts.site c.args.net.now))) gone.0 c.loop-entry.invariant.fit in
    let line = entry_is http n at.0 (g.S.Acts.site c.args.net.now) c.in-Some.entry sited fits.0 in
    let runs = c.in_err-more.ensures.runs in
    let runs_all = rw c.loop-entry.invariant.site at runs in
    let err = err_from_is_err_and c.from_residual.result c.from_residual.ensures.1 in
    rw (err.1, err.2, ← is)
    (went_stop _ _ _ ways _ http n _ _ _ _ _ _ w at.0 _ _ _ c.loop-entry.handed here
    (one_stopped _ _ _ ways _ http n _ _ _ _ at.0 _ _ _ _ _ line.task (runs_all http line.line line.is n at.0 at.1.ready)))

pub returns-in-Err-clause-ran : goal.returns-in-Err-clause-ran
returns-in-Err-clause-ran g c = λ http n w ready.
    let ways : Ways g.S.Acts.stands g.S.Acts.rests g.S.Acts.tallied = record { rest = g.met.S.Acts.comes_to_rest; none = g.met.S.Acts.none_tallied; more = g.met.S.Acts.more_tallied } in
    let is = c.into_iter-entry-iterator.ensures.into_iter_gives.0 ∙ c.into_vec-entry-items.ensures in
    let at = c.loop-entry.invariant.went http n w ready in
    let gone = c.in-Some.ensures.steps in
    let here = went_as _ _ _ ways _ http n _ _ _ _ w at.0 _ _ _ c.loop-entry.handed (ap (λ (es : List Entry). map Does es) gone.0) at.1 in
    let sited = g.met.S.Acts.is_sited c.loop-entry.net n at.0 at.1.ready.stands ∙ ap site_of c.loop-entry.invariant.site in
    let fits = subst (AllByRecursion (IsLineFor (g.S.Acts.site c.args.net.now))) gone.0 c.loop-entry.invariant.fit in
    let line = entry_is http n at.0 (g.S.Acts.site c.args.net.now) c.in-Some.entry sited fits.0 in
    let runs = c.in_ok-more.ensures.runs in
    let runs_all = rw c.loop-entry.invariant.site at runs in
    let f = runs_all http line.line line.is n at.0 at.1.ready in
    let all : Handed = record { masters = c.loop-entry.handed.masters + c.in_ok-more.more.masters; slaves = c.loop-entry.handed.slaves + c.in_ok-more.more.slaves } in
    rw (← is)
    (went_short _ _ _ ways _ http n _ _ _ _ w f.plays.after _ _ all
    (went_on _ _ _ ways _ http n _ _ _ _ _ _ w at.0 f.plays.after _ _ _ c.loop-entry.handed c.in_ok-more.more all refl refl here
    (went_one _ _ _ ways _ http n _ _ _ _ at.0 _ _ _ _ c.in_ok-more.more line.task f)))

pub returns-clause-ran : goal.returns-clause-ran
returns-clause-ran g c = λ http n w ready.
    let ways : Ways g.S.Acts.stands g.S.Acts.rests g.S.Acts.tallied = record { rest = g.met.S.Acts.comes_to_rest; none = g.met.S.Acts.none_tallied; more = g.met.S.Acts.more_tallied } in
    let is = c.into_iter-entry-iterator.ensures.into_iter_gives.0 ∙ c.into_vec-entry-items.ensures in
    let at = c.loop-entry.invariant.went http n w ready in
    let none = is_none _ (sym c.loop-entry.invariant.long ∙ c.in-None.ensures.steps.0) in
    (at.0, rw (← is) (went_as _ _ _ ways _ http n _ _ _ _ w at.0 _ _ _ c.loop-entry.handed (ap (λ (es : List Entry). map Does es) none) at.1))

pub returns-in_err-more-clause-lined : goal.returns-in_err-more-clause-lined
returns-in_err-more-clause-lined g c =
    let line = c.in_err-more.ensures.lined in
    let err = err_from_is_err_and c.from_residual.result c.from_residual.ensures.1 in
    rw err.1
    (in_lines_on g.W.Sink.taken g.W.Sink.pieces (IsItemLine (g.S.Acts.site c.args.net.now).nodes) {T = Unit {0}} _ _ _ (Err c.in_err-more.field-0.0) c.loop-entry.invariant.lined (rw (c.loop-entry.invariant.site) at line))

pub returns-in-Err-clause-lined : goal.returns-in-Err-clause-lined
returns-in-Err-clause-lined g c = stopped_lined g.W.Sink.taken g.W.Sink.pieces (g.S.Acts.site c.args.net.now).nodes _ _ (lined_on g.W.Sink.taken g.W.Sink.pieces (IsItemLine (g.S.Acts.site c.args.net.now).nodes) _ _ _ [] c.loop-entry.invariant.lined (let line = c.in_ok-more.ensures.lined in rw (c.loop-entry.invariant.site) at line))
