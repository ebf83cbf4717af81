use Rattle.std.proofs.Common.{◌≡◌, drop}
use Rattle.std.specs.List.{list_all}
use Rattle.scenario_text.specs.Words.{is_name_octet}
use Rattle.scenario_text.proofs.words.all_of_name.Given as goal

abbrev pub invariant-loop-b : goal.invariant-loop-b
invariant-loop-b l = list_all is_name_octet (drop l.b-index l.word) ≡ list_all is_name_octet l.word
