use Rattle.std.proofs.Common.{◌≡◌, ◌≤◌, length}
use Rattle.std.specs.Io.KnownBytes.{Consumes}
use Rattle.cli_answers.proofs.whole_source.read_all.Given as goal

abbrev pub invariant-loop : goal.invariant-loop
invariant-loop g l = record {
  consumed : Consumes (g.S.Source.left l.fn.source) (g.S.Source.left l.source) l.bytes;
  calm : g.S.Source.faults l.source ≡ g.S.Source.faults l.fn.source;
  turns : l.counter ≤ length l.bytes;
  within : length l.bytes ≤ 4194304;
}
