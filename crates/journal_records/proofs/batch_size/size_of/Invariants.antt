use Rattle.std.proofs.Common.{◌≡◌, ◌≤◌, ◌*◌, take}
use Rattle.std.specs.Prelude.{sum_by}
use Rattle.net_model.specs.Journal.{record_len}
use Rattle.journal_records.proofs.batch_size.size_of.Given as goal

abbrev pub invariant-loop-change : goal.invariant-loop-change
invariant-loop-change l = record {
  sum : l.size ≡ sum_by (record_len 16) (take l.change-index l.records);
  few : l.size ≤ 1030 * l.change-index;
}
