use Rattle.std.proofs.Common.{◌≡◌, ◌+◌, drop}
use Rattle.scenario_text.specs.Words.{words_of}
use Rattle.qkd004_wire.specs.Call.{fitting}
use Rattle.qkd004_wire.proofs.call.fitting.Given as goal

abbrev pub invariant-loop-count : goal.invariant-loop-count
invariant-loop-count l = fitting l.site l.fields (words_of l.words) ≡ l.count + fitting l.site (drop l.count l.fields) (words_of l.rest)
