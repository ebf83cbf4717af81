use Rattle.std.proofs.Common.{length, sym, subst, refl}
use Rattle.std.proofs.lemmas.Option.{slice_get_past, slice_get_read}
use Rattle.run_lines.proofs.Taking.{took_none, pieces_none}
use Rattle.run_model.specs.Headline.{given_to, Took}
use Rattle.run_tasks.proofs.block_report.write_turn.Goals as goal

pub returns-in-None-clause-wrote : goal.returns-in-None-clause-wrote
returns-in-None-clause-wrote g c = λ http speaks.
    let taken = given_to g.W.Sink.taken g.W.Sink.pieces c.args.sink.now in
    let none = slice_get_past c.args.jobs.now c.args.turned.place c.in-None.ensures.lookup.3 in
    rw none (subst (Took taken taken) (sym (pieces_none c.args.site.now.nodes)) (took_none taken))

pub returns-in-None-get-clause-wrote : goal.returns-in-None-get-clause-wrote
returns-in-None-get-clause-wrote g c = λ http speaks.
    let taken = given_to g.W.Sink.taken g.W.Sink.pieces c.args.sink.now in
    let jobs = c.args.jobs.now in
    let some = slice_get_read jobs (length jobs) c.args.turned.place c.in-Some.job.now refl c.in-Some.ensures.lookup.3.0 c.in-Some.ensures.lookup.1 in
    let none = slice_get_past c.args.places.now c.args.turned.place c.in-None-get.ensures.lookup.3 in
    rw (some, none) (subst (Took taken taken) (sym (pieces_none c.args.site.now.nodes)) (took_none taken))

pub returns-in-Ok-clause-wrote : goal.returns-in-Ok-clause-wrote
returns-in-Ok-clause-wrote g c = λ http speaks.
    let jobs = c.args.jobs.now in
    let places = c.args.places.now in
    let some = slice_get_read jobs (length jobs) c.args.turned.place c.in-Some.job.now refl c.in-Some.ensures.lookup.3.0 c.in-Some.ensures.lookup.1 in
    let there = slice_get_read places (length places) c.args.turned.place c.in-Some-get.at.now refl c.in-Some-get.ensures.lookup.3.0 c.in-Some-get.ensures.lookup.1 in
    let wrote = c.write_items.ensures.wrote in
    let items = c.in-Ok.ensures http speaks in
    rw (some, there) (rw (c.as_slice.ensures, items) at wrote)
