use Rattle.journal_snapshot.specs.Snapshots.{journal_of}
use Rattle.journal_snapshot.proofs.Needs.{place_before, place_behind}
use Rattle.journal_snapshot.proofs.snapshots.Snapshots.place.Goals as goal

pub returns-then-goes_before : goal.returns-then-goes_before
returns-then-goes_before g c =
    place_before (journal_of c.args.self.now) c.args.need c.start.result c.is_moved.result c.goes_before.result c.goes_before.ensures c.is_moved.ensures c.start.ensures c.if-goes_before.true

pub returns-else-goes_before : goal.returns-else-goes_before
returns-else-goes_before g c =
    place_behind (journal_of c.args.self.now) c.args.need c.start.result c.length.result c.max.result c.is_moved.result c.goes_before.result c.goes_before.ensures c.is_moved.ensures c.start.ensures c.if-goes_before.false c.length.ensures c.max.ensures
