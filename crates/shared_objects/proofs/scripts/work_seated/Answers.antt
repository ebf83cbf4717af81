use Rattle.std.proofs.Common.{List, length, map, false, sym, ap, subst, arith}
use Rattle.std.proofs.lemmas.Option.{slice_get_within}
use Rattle.block_run.specs.Jobs.{jobs_of}
use Rattle.shared_objects.proofs.Zips.{item_at}
use Rattle.shared_objects.specs.Working.{HaveWorked}
use Rattle.shared_objects.proofs.Chaining.{chained}
use Rattle.shared_objects.proofs.Gathering.{gather}
use Rattle.shared_objects.proofs.Working.{SaidBy, worked, idle}
use Rattle.shared_objects.proofs.scripts.work_seated.Goals as goal

pub run_block-requires-clause-fits : goal.run_block-requires-clause-fits
run_block-requires-clause-fits g c κs within = c.requires.ready

pub returns-in-Ok : goal.returns-in-Ok
returns-in-Ok g c =
    let d = c.in-Ok.ensures.done in
    worked (g.T.Errands.does c.args.rounds.now.errands.now) c.args.rounds.now.turnstiles.now (λ p. p.posts.items) (λ p. p.keep) c.args.jobs c.args.passes.items c.in-Ok.field-0.passes.items d.passes
    (gather (SaidBy (g.T.Errands.does c.args.rounds.now.errands.now) c.args.rounds.now.turnstiles.now (λ p. p.posts.items) (λ p. p.keep) c.args.jobs (length c.args.passes.items)) c.args.passes.items c.in-Ok.field-0.passes.items d.passes
    (λ w p q e f.
    let part = item_at d.parts w (omega (arith, d.workers, slice_get_within c.args.passes.items w p e)) in
    let t = chained (g.T.Errands.does c.args.rounds.now.errands.now) c.args.rounds.now.turnstiles.now (λ r. r.posts.items) (λ r. r.keep) (jobs_of w (length c.args.passes.items) c.args.jobs) p q part.0 (d.chains w p q part.0 e f part.1) (c.requires.ready w p e).sits in
    (t.talk, t.talked)))

pub returns-in-Err : goal.returns-in-Err
returns-in-Err g c =
    subst (λ (qs : List _). HaveWorked {g = g.M.Machine} (g.T.Errands.does c.args.rounds.now.errands.now) c.args.rounds.now.turnstiles.now false c.args.jobs (map (λ p. p.posts.items) c.args.passes.items) (map (λ p. p.keep) c.args.passes.items)
    (map (λ p. p.posts.items) qs) (map (λ p. p.keep) qs)) (ap (λ v. v.items) (sym c.in-Err.ensures.err))
    (idle (g.T.Errands.does c.args.rounds.now.errands.now) c.args.rounds.now.turnstiles.now (λ p. p.posts.items) (λ p. p.keep) c.args.jobs c.args.passes.items (λ w p e. (c.requires.ready w p e).sits))
