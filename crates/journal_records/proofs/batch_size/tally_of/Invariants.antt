use Rattle.std.proofs.Common.{◌≡◌, ◌≤◌, ◌+◌, ◌*◌, drop}
use Rattle.net_model.specs.Journal.{spelled_after}
use Rattle.journal_records.specs.Grammar.{begun}
use Rattle.journal_records.proofs.batch_size.tally_of.Given as goal

abbrev pub invariant-loop-change : goal.invariant-loop-change
invariant-loop-change l = record {
  octets : l.tally.octets + spelled_after l.tally.sae l.tally.names (drop l.change-index l.records) ≡ spelled_after 0 0 l.records;
  items : l.tally.items + begun l.tally.sae l.tally.names (drop l.change-index l.records) ≡ begun 0 0 l.records;
  few : l.tally.octets ≤ 1030 * l.change-index;
  several : l.tally.items ≤ l.change-index;
  names : l.tally.names ≤ 128;
}
