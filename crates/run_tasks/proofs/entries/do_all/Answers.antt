use Rattle.std.proofs.Common.{◌∙◌, List, length, map, refl, sym, ap, subst, arith, rules, [], Err}
use Rattle.std.specs.Prelude.{count_by}
use Rattle.std.specs.List.{All}
use Rattle.std.proofs.lemmas.List.Elements.{All-tail}
use Rattle.std.specs.Vec.Iter.{into_iter_items}
use Rattle.std.proofs.lemmas.Result.{err_from_is_err_and}
use Rattle.run_types.specs.declared.entry.Entry.{Entry}
use Rattle.run_model.specs.Report.{Does}
use Rattle.run_ops.specs.Runnable.{IsEntryFor, arms_a_disk}
use Rattle.run_lines.proofs.Going.{Ways}
use Rattle.run_tasks.proofs.Tasking.{DidSo, one_more, did_none, did_on, did_all, did_stop, ran_short, all_ran, is_none}
use Rattle.run_lines.specs.Reporting.{IsItemLine}
use Rattle.run_lines.proofs.Lines.{none_lined, lined_on, in_lines_on}
use Rattle.run_tasks.proofs.entries.do_all.Goals as goal

pub loop-entry-init : goal.loop-entry-init
loop-entry-init g c =
    let ways : Ways g.S.Acts.stands g.S.Acts.rests g.S.Acts.tallied = record { rest = g.met.S.Acts.comes_to_rest; none = g.met.S.Acts.none_tallied; more = g.met.S.Acts.more_tallied } in
    let is = c.into_iter-entry-iterator.ensures.into_iter_gives.0 ∙ c.into_vec-entry-items.ensures in
    record {
      site = refl;
      long = search rules;
      few = rw is c.requires.few;
      fit = rw is c.requires.fit;
      lined = none_lined g.W.Sink.taken g.W.Sink.pieces (IsItemLine (g.S.Acts.site c.args.net.now).nodes) c.args.sink.now;
      later = omega arith;
      ready = c.requires.ready;
      did = λ http n w speaks ready. (w, did_none _ _ _ ways _ http n _ _ _ w _ ready);
    }

pub loop-entry-preserved : goal.loop-entry-preserved
loop-entry-preserved g c =
    let ways : Ways g.S.Acts.stands g.S.Acts.rests g.S.Acts.tallied = record { rest = g.met.S.Acts.comes_to_rest; none = g.met.S.Acts.none_tallied; more = g.met.S.Acts.more_tallied } in
    record {
      site = c.in_ok-do_entry.ensures.site ∙ c.loop-entry.invariant.site;
      long = (let gone = ap (λ (es : List Entry). length es) c.in-Some.ensures.steps.0 in omega (arith, gone, c.in-Some.ensures.steps.1, c.loop-entry.invariant.long));
      few = (let gone = ap (λ (es : List Entry). count_by arms_a_disk es) c.in-Some.ensures.steps.0 ∙ one_more c.in-Some.entry (into_iter_items c.next.new.self) in omega (arith, gone, c.loop-entry.invariant.few, c.in_ok-do_entry.ensures.armed));
      fit = All-tail (IsEntryFor (g.S.Acts.site c.args.net.now)) _ _ (subst (All (IsEntryFor (g.S.Acts.site c.args.net.now))) c.in-Some.ensures.steps.0 c.loop-entry.invariant.fit);
      ready = c.in_ok-do_entry.ensures.ready;
      lined = lined_on g.W.Sink.taken g.W.Sink.pieces (IsItemLine (g.S.Acts.site c.args.net.now).nodes) _ _ _ [] c.loop-entry.invariant.lined (let line = c.in_ok-do_entry.ensures.lined in rw (c.loop-entry.invariant.site) at line);
      later = omega (arith, c.loop-entry.invariant.later, c.in_ok-do_entry.ensures.blame.later);
      did = λ http n w speaks ready.
          let at = c.loop-entry.invariant.did http n w speaks ready in
          let here = subst (DidSo _ _ _ _ _ _ _ http n _ w _ at.0) (ap (λ (es : List Entry). map Does es) c.in-Some.ensures.steps.0) at.1 in
          let ran = c.in_ok-do_entry.ensures.ran in
          let ran_here = rw c.loop-entry.invariant.site at ran in
          let one = ran_here http n at.0 speaks at.1.ready in
          (_, did_on _ _ _ ways _ http n _ _ _ _ _ _ _ w at.0 _ _ _ _ here (did_all _ _ _ ways _ http n _ (tt {0}) _ _ _ _ at.0 _ _ one));
    }

pub returns-in_err-do_entry-clause-ran : goal.returns-in_err-do_entry-clause-ran
returns-in_err-do_entry-clause-ran g c = λ http n w speaks ready.
    let ways : Ways g.S.Acts.stands g.S.Acts.rests g.S.Acts.tallied = record { rest = g.met.S.Acts.comes_to_rest; none = g.met.S.Acts.none_tallied; more = g.met.S.Acts.more_tallied } in
    let is = c.into_iter-entry-iterator.ensures.into_iter_gives.0 ∙ c.into_vec-entry-items.ensures in
    let at = c.loop-entry.invariant.did http n w speaks ready in
    let here = subst (DidSo _ _ _ _ _ _ _ http n _ w _ at.0) (ap (λ (es : List Entry). map Does es) c.in-Some.ensures.steps.0) at.1 in
    let ran = c.in_err-do_entry.ensures.ran in
    let ran_here = rw c.loop-entry.invariant.site at ran in
    let err = err_from_is_err_and c.from_residual.result c.from_residual.ensures.1 in
    rw (err.1, err.2, ← is)
    (did_stop _ _ _ ways _ http n _ (Unit {0}) _ _ _ _ _ _ w at.0 _ _ _ here
    (ran_short _ _ _ ways _ http n _ (Unit {0}) _ _ _ _ at.0 _ _ _ (ran_here http n at.0 speaks at.1.ready)))

pub returns-clause-ran : goal.returns-clause-ran
returns-clause-ran g c = λ http n w speaks ready.
    let ways : Ways g.S.Acts.stands g.S.Acts.rests g.S.Acts.tallied = record { rest = g.met.S.Acts.comes_to_rest; none = g.met.S.Acts.none_tallied; more = g.met.S.Acts.more_tallied } in
    let is = c.into_iter-entry-iterator.ensures.into_iter_gives.0 ∙ c.into_vec-entry-items.ensures in
    let at = c.loop-entry.invariant.did http n w speaks ready in
    let none = is_none _ (sym c.loop-entry.invariant.long ∙ c.in-None.ensures.steps.0) in
    rw (← is) (all_ran _ _ _ ways _ http n _ (Unit {0}) (tt {0}) _ _ _ _ w at.0 _ (subst (DidSo _ _ _ _ _ _ _ http n _ w _ at.0) (ap (λ (es : List Entry). map Does es) none) at.1))

pub returns-in_err-do_entry-clause-lined : goal.returns-in_err-do_entry-clause-lined
returns-in_err-do_entry-clause-lined g c =
    let line = c.in_err-do_entry.ensures.lined in
    let err = err_from_is_err_and c.from_residual.result c.from_residual.ensures.1 in
    rw err.1
    (in_lines_on g.W.Sink.taken g.W.Sink.pieces (IsItemLine (g.S.Acts.site c.args.net.now).nodes) {T = Unit {0}} _ _ _ (Err c.in_err-do_entry.field-0.0) c.loop-entry.invariant.lined (rw (c.loop-entry.invariant.site) at line))
