use Rattle.std.proofs.Common.{List, length, slice_get, true, false, refl, sym, ap, subst, arith}
use Rattle.std.specs.List.{AllZip}
use Rattle.std.proofs.lemmas.Option.{slice_get_within}
use Rattle.block_run.specs.Jobs.{jobs_of}
use Rattle.shared_objects.specs.Shares.{HasWorked}
use Rattle.shared_objects.proofs.Zips.{zip_of, item_at, same_item}
use Rattle.shared_objects.proofs.Going.{chained, worked, idle}
use Rattle.shared_objects.proofs.together.work_seated.Goals as goal

pub run_block-requires-clause-fits : goal.run_block-requires-clause-fits
run_block-requires-clause-fits g c κs within = c.requires.ready

pub returns-in-Ok : goal.returns-in-Ok
returns-in-Ok g c =
    let d = c.in-Ok.ensures.done in
    zip_of (λ before after. HasWorked {g = g.M.Machine} c.args.turnstiles.now true before.posts.items before.shift.items after.posts.items) c.args.passes.items c.in-Ok.field-0.passes.items d.passes
    (λ w p q e f.
    let part = item_at d.parts w (omega (arith, d.workers, slice_get_within c.args.passes.items w p e)) in
    worked c.args.turnstiles.now (length (jobs_of w (length c.args.passes.items) c.args.jobs)) p.posts.items q.posts.items p.shift.items q.shift.items
    (chained c.args.turnstiles.now (λ r. r.posts.items) (λ r. r.shift.items) (jobs_of w (length c.args.passes.items) c.args.jobs) p q part.0 (d.chains w p q part.0 e f part.1))
    (c.requires.ready w p e).entries (c.requires.ready w p e).sits)

pub returns-in-Err : goal.returns-in-Err
returns-in-Err g c =
    subst (λ (ps : List _). AllZip (λ before after. HasWorked {g = g.M.Machine} c.args.turnstiles.now false before.posts.items before.shift.items after.posts.items) c.args.passes.items ps) (ap (λ v. v.items) (sym c.in-Err.ensures.err))
    (zip_of (λ before after. HasWorked {g = g.M.Machine} c.args.turnstiles.now false before.posts.items before.shift.items after.posts.items) c.args.passes.items c.args.passes.items refl
    (λ w p q e f. subst (λ (r : _). HasWorked {g = g.M.Machine} c.args.turnstiles.now false p.posts.items p.shift.items r.posts.items) (same_item (slice_get c.args.passes.items w) p q e f) (idle c.args.turnstiles.now p.posts.items p.shift.items (c.requires.ready w p e).sits)))
