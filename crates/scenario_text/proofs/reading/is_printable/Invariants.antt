use Rattle.std.proofs.Common.{◌≡◌, drop}
use Rattle.std.specs.List.{list_all}
use Rattle.scenario_text.specs.Line.{is_printable}
use Rattle.scenario_text.proofs.reading.is_printable.Given as goal

abbrev pub invariant-loop-b : goal.invariant-loop-b
invariant-loop-b l = list_all is_printable (drop l.b-index l.line) ≡ list_all is_printable l.line
