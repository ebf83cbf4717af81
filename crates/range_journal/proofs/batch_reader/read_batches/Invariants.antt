use Rattle.std.proofs.Common.{◌≡◌, ◌≤◌, ◌+◌, ◌-◌, ◌++◌, length, drop, IsTrue}
use Rattle.disk_model.specs.Calls.{OnlyReads}
use Rattle.range_journal.specs.Batches.{spelled, AreShort}
use Rattle.range_journal.proofs.batch_reader.read_batches.Given as goal

abbrev pub invariant-batches : goal.invariant-batches
invariant-batches g l =
    let disk = g.K.Disk in
    record {
      place : l.place ≡ l.start + length (spelled l.batches.items);
      within : l.place ≤ l.size;
      short : AreShort l.batches.items;
      is : IsTrue (disk.is_honest l.fn.disk) → drop l.start (disk.content l.fn.disk) ≡ spelled l.batches.items ++ drop l.place (disk.content l.fn.disk);
      calm : disk.faults l.disk ≡ disk.faults l.fn.disk;
      reads : OnlyReads disk.is_honest disk.content disk.moment disk.image disk.faults disk.allowance disk.armings l.fn.disk l.disk;
    }

abbrev pub decreases-batches : goal.decreases-batches
decreases-batches g l = l.size - l.place
