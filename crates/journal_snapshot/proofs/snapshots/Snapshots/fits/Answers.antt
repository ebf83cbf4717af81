use Rattle.journal_snapshot.specs.Snapshots.{journal_of, need_of}
use Rattle.journal_snapshot.proofs.Needs.{fits_is}
use Rattle.journal_snapshot.proofs.snapshots.Snapshots.fits.Goals as goal

pub returns : goal.returns
returns g c =
    fits_is (journal_of c.args.self.now) (need_of c.args.batches.now) c.need-need.result c.place.result c.generation.result c.is_within.result c.need-need.ensures c.place.ensures c.generation.ensures c.is_within.ensures
