use Rattle.std.proofs.Common.{◌≡◌, ◌-◌}
use Rattle.journal_records.specs.Layout.{handings}
use Rattle.journal_records.proofs.body_parser.handings.Given as goal

abbrev pub invariant-loop-i : goal.invariant-loop-i
invariant-loop-i l = handings l.sae l.count l.initial.records l.initial.cursor ≡ handings l.sae (l.count - l.i) l.records l.cursor
