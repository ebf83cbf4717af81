use Rattle.std.proofs.Common.{◌≡◌, ◌≤◌, ℕ, List, Bool, IsTrue, take, sym, ◌∙◌, ap, subst}
use Rattle.disk_model.specs.Images.{AtEachMoment}
use Rattle.range_journal.specs.Batches.{Stands}
use Rattle.range_journal.specs.Closing.{IsReadOrClosing}
use Rattle.range_journal.specs.Journal.{JournalForm}
use Rattle.range_journal.proofs.Openings.{may_close, open_run, open_settled, open_front, open_long, found_stands}
use Rattle.range_journal.proofs.journal_open.open_sized.Goals as goal

pub close-requires : goal.close-requires
close-requires g c =
    let d = g.K.Disk in
    let r = c.requires in
    may_close d.is_honest d.content d.moment d.image d.faults d.allowance d.armings c.args.disk c.read_batches.new.disk c.read_batches.ensures.reads c.args.start c.args.size c.in-Ok.found c.in-Ok.ensures.fits c.in-Ok.ensures.found r.long r.at r.durable r.granted r.left r.used

pub settled-requires-clause-settled : goal.settled-requires-clause-settled
settled-requires-clause-settled g c =
    let d = g.K.Disk in
    let r = c.requires in
    open_settled d.is_honest d.content d.moment d.image d.faults d.allowance d.armings c.args.disk c.read_batches.new.disk c.read_batches.ensures.reads c.args.start c.args.size c.in-Ok.found c.in-Ok.ensures.fits c.in-Ok.ensures.found r.long r.at r.durable
    c.close.new.disk c.close.ensures.honest c.in-Ok-close.ensures.closed c.in-Ok-close.ensures.durable

pub returns-in-Err-close-clause-moments : goal.returns-in-Err-close-clause-moments
returns-in-Err-close-clause-moments g c =
    let d = g.K.Disk in
    let r = c.requires in
    open_run d.is_honest d.content d.moment d.image d.faults d.allowance d.armings c.args.disk c.read_batches.new.disk c.read_batches.ensures.reads c.args.start c.args.size c.in-Ok.found c.in-Ok.ensures.fits c.in-Ok.ensures.found r.long r.at r.durable
    c.close.new.disk c.close.ensures.moments

pub returns-in-Ok-close-clause-batches : goal.returns-in-Ok-close-clause-batches
returns-in-Ok-close-clause-batches g c =
    let d = g.K.Disk in
    let r = c.requires in
    λ h. subst (λ (j : JournalForm _). Stands (take c.args.start (d.content c.args.disk)) j.batches (d.content c.args.disk)) (sym c.settled.ensures)
    (found_stands (d.content c.args.disk) c.args.start c.args.size c.in-Ok.found c.in-Ok.ensures.fits (c.in-Ok.ensures.found h) (r.long h) r.at)

pub returns-in-Ok-close-clause-moments : goal.returns-in-Ok-close-clause-moments
returns-in-Ok-close-clause-moments g c =
    let d = g.K.Disk in
    let r = c.requires in
    let run = open_run d.is_honest d.content d.moment d.image d.faults d.allowance d.armings c.args.disk c.read_batches.new.disk c.read_batches.ensures.reads c.args.start c.args.size c.in-Ok.found c.in-Ok.ensures.fits c.in-Ok.ensures.found r.long r.at r.durable
    c.close.new.disk c.close.ensures.moments in
    subst (λ (j : JournalForm _). AtEachMoment d.moment d.image c.args.disk j.disk (λ i. IsTrue (d.is_honest c.args.disk) → IsReadOrClosing c.args.start (d.content c.args.disk) i)) (sym c.settled.ensures) run
