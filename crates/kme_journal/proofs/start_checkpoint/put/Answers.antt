use Rattle.std.proofs.Common.{inl, ℕ, List, refl, sym, ◌∙◌}
use Rattle.journal_snapshot.specs.Snapshots.{journal_of, need_of, fits_in}
use Rattle.journal_snapshot.specs.Refused.{place_of}
use Rattle.kme_journal.specs.Putting.{HoldsEither}
use Rattle.kme_journal.proofs.Put.{kept_as, moved_as, untouched, under, either_held}
use Rattle.kme_journal.proofs.start_checkpoint.put.Goals as goal

pub returns-then-not-fits-clause-put : goal.returns-then-not-fits-clause-put
returns-then-not-fits-clause-put g c =
    let old = c.args.journal in
    kept_as (fits_in (journal_of old) (need_of c.args.bodies.now)) old old c.args.bodies.now (sym c.fits.ensures ∙ c.if-not-fits.true) refl

pub returns-then-not-fits-clause-moments : goal.returns-then-not-fits-clause-moments
returns-then-not-fits-clause-moments g c =
    let d = g.K.Disk in
    let old = c.args.journal in
    untouched (d.is_honest old.disk) d.moment d.image old.disk (d.content old.disk) old.live old.batches _ c.stands.ensures (λ i plain is. inl ((λ unmade. plain), is))

pub returns-in-Ok-clause-put : goal.returns-in-Ok-clause-put
returns-in-Ok-clause-put g c =
    let old = c.args.journal in
    moved_as (fits_in (journal_of old) (need_of c.args.bodies.now)) old c.in-Ok.journal c.args.bodies.now (sym c.fits.ensures ∙ c.if-not-fits.false) c.in-Ok.ensures.answer c.in-Ok.ensures.journal

pub returns-in-Ok-clause-moments : goal.returns-in-Ok-clause-moments
returns-in-Ok-clause-moments g c =
    let d = g.K.Disk in
    let old = c.args.journal in
    let bodies : List (List ℕ) = c.args.bodies.now in
    under (d.is_honest old.disk) d.moment d.image old.disk c.in-Ok.journal.disk _ _
    (λ i is. either_held (fits_in (journal_of old) (need_of bodies)) old.live old.batches (place_of old bodies) bodies (sym c.fits.ensures ∙ c.if-not-fits.false) i is) c.in-Ok.ensures.moments

pub returns-in-Err-Spent-clause-moments : goal.returns-in-Err-Spent-clause-moments
returns-in-Err-Spent-clause-moments g c =
    let d = g.K.Disk in
    let old = c.args.journal in
    let bodies : List (List ℕ) = c.args.bodies.now in
    let run = rw c.in-Err-Spent.field-0-is at c.in-Err-Spent.ensures.moments in
    under (d.is_honest old.disk) d.moment d.image old.disk c.in-Err-Spent.disk _ _
    (λ i is. either_held (fits_in (journal_of old) (need_of bodies)) old.live old.batches (place_of old bodies) bodies (sym c.fits.ensures ∙ c.if-not-fits.false) i is) run

pub returns-in-Err-Kept-clause-moments : goal.returns-in-Err-Kept-clause-moments
returns-in-Err-Kept-clause-moments g c =
    let d = g.K.Disk in
    let old = c.args.journal in
    let bodies : List (List ℕ) = c.args.bodies.now in
    let run = rw c.in-Err-Kept.field-0-is at c.in-Err-Kept.ensures.moments in
    let all = under (d.is_honest old.disk) d.moment d.image old.disk c.in-Err-Kept.journal.disk _ (HoldsEither (fits_in (journal_of old) (need_of bodies)) (Unit {0}) old.live old.batches (place_of old bodies) bodies)
    (either_held (fits_in (journal_of old) (need_of bodies)) old.live old.batches (place_of old bodies) bodies (sym c.fits.ensures ∙ c.if-not-fits.false)) run in
    rw c.into_disk.ensures.disk all
