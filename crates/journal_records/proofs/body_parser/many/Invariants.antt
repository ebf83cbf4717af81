use Rattle.std.proofs.Common.{◌≡◌, ◌-◌, None}
use Rattle.journal_records.specs.Layout.{many}
use Rattle.journal_records.proofs.body_parser.many.Given as goal

abbrev pub invariant-loop-i : goal.invariant-loop-i
invariant-loop-i l = many l.version l.count None l.initial.records l.initial.cursor ≡ many l.version (l.count - l.i) l.shut l.records l.cursor
