use Rattle.std.proofs.Common.{◌≡◌, ◌≤◌, ◌+◌, ◌-◌, drop}
use Rattle.journal_records.specs.Grammar.{run_len}
use Rattle.journal_records.proofs.body_printer.run_len.Given as goal

abbrev pub invariant-loop-change : goal.invariant-loop-change
invariant-loop-change l = record {
  run : l.count + run_len l.fn.sae (128 - l.count) (drop l.change-index l.records) ≡ run_len l.fn.sae 128 l.records;
  few : l.count ≤ 128;
}
