use Rattle.std.proofs.Common.{◌≡◌, ◌≤◌, ◌++◌, length, take, drop}
use Rattle.std.specs.List.{All}
use Rattle.journal_records.specs.Grammar.{IsRecord, rest_octets}
use Rattle.journal_records.proofs.body_printer.put_records.Given as goal

abbrev pub invariant-loop-i : goal.invariant-loop-i
invariant-loop-i l = record {
  octets : take l.end l.into ++ rest_octets l.version l.left (drop l.i l.records) ≡ take l.at l.initial.into ++ rest_octets l.version 0 l.records;
  within : l.end ≤ length l.into;
  grammar : All IsRecord (take l.i l.records);
}
