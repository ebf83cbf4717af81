use Rattle.std.proofs.Common.{◌≡◌, ◌<◌, ◌^◌, drop}
use Rattle.std.specs.List.{list_all}
use Rattle.scenario_text.specs.Words.{is_digit, number_on}
use Rattle.report_grammar.proofs.fields.long.Given as goal

abbrev pub invariant-loop-b : goal.invariant-loop-b
invariant-loop-b l = record {
  all : list_all is_digit (drop l.b-index l.word) ≡ list_all is_digit l.word;
  rest : number_on l.value (drop l.b-index l.word) ≡ number_on 0 l.word;
  small : l.value < 2 ^ 64;
}
