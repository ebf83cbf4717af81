use Rattle.std.proofs.Common.{◌≡◌, ℕ, List, IsTrue, sym, subst}
use Rattle.disk_model.specs.Images.{AtEachMoment}
use Rattle.disk_model.proofs.Moments.{weaker}
use Rattle.range_journal.specs.Journal.{JournalForm}
use Rattle.range_journal.specs.Opening.{IsMadeNew}
use Rattle.range_journal.proofs.Heads.{blank_image}
use Rattle.range_journal.proofs.journal_open.make_new.Goals as goal

pub returns-in-Err-clause-moments : goal.returns-in-Err-clause-moments
returns-in-Err-clause-moments g c =
    let d = g.K.Disk in
    let P : List ℕ → Type 0 = λ i. IsTrue (d.is_honest c.args.disk) → IsMadeNew (d.content c.args.disk) i in
    weaker d.moment d.image c.args.disk c.write_synced.new.disk _ P c.write_synced.ensures.moments (λ i torn h. blank_image (d.content c.args.disk) i (c.requires.blank h) (torn h))

pub returns-in-Ok-clause-moments : goal.returns-in-Ok-clause-moments
returns-in-Ok-clause-moments g c =
    let d = g.K.Disk in
    let P : List ℕ → Type 0 = λ i. IsTrue (d.is_honest c.args.disk) → IsMadeNew (d.content c.args.disk) i in
    let run = weaker d.moment d.image c.args.disk c.write_synced.new.disk _ P c.write_synced.ensures.moments (λ i torn h. blank_image (d.content c.args.disk) i (c.requires.blank h) (torn h)) in
    subst (λ (j : JournalForm _). AtEachMoment d.moment d.image c.args.disk j.disk P) (sym c.settled.ensures) run
