use Rattle.std.proofs.Common.{◌≡◌, ◌≤◌, ◌+◌, length}
use Rattle.scenario_text.specs.Words.{words_of}
use Rattle.scenario_text.specs.Commanding.{names_of}
use Rattle.scenario_text.proofs.Lists.{after_names}
use Rattle.scenario_text.proofs.key_lines.names.Given as goal

abbrev pub invariant-loop-key : goal.invariant-loop-key
invariant-loop-key l = record {
  means : after_names l.names (names_of (words_of l.left)) ≡ names_of (words_of l.rest);
  short : length l.names ≤ 128;
  count : length l.names + length (words_of l.left) ≡ length (words_of l.rest);
}

abbrev pub decreases-loop-key : goal.decreases-loop-key
decreases-loop-key l = length l.left
