use Rattle.std.proofs.Common.{◌≢◌, ℕ, List, IsTrue, inr, get_or}
use Rattle.disk_model.proofs.Moments.{weaker}
use Rattle.range_journal.specs.Closing.{IsDoubtful}
use Rattle.range_journal.proofs.Openings.{torn_one}
use Rattle.range_journal.proofs.gate_close.close.Goals as goal

pub returns-clause-moments : goal.returns-clause-moments
returns-clause-moments g c =
    let disk = g.K.Disk in
    let old = c.args.disk.now in
    let P : List ℕ → Type 0 = λ i. IsTrue (disk.is_honest old) → IsDoubtful c.args.place c.args.gate (disk.content old) i in
    weaker disk.moment disk.image old c.write_synced.new.disk _ P c.write_synced.ensures.moments (λ i torn h.
    inr (c.if-gate-eq0.false, get_or i c.args.place 0, torn_one c.args.place (disk.content old) i (c.requires.within h) (torn h)))
