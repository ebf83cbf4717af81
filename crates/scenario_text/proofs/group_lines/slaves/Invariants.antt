use Rattle.std.proofs.Common.{◌≡◌, ◌≤◌, ◌+◌, [], length}
use Rattle.scenario_text.specs.Words.{words_of}
use Rattle.scenario_text.specs.Commanding.{slaves_after}
use Rattle.scenario_text.proofs.group_lines.slaves.Given as goal

abbrev pub invariant-loop-id : goal.invariant-loop-id
invariant-loop-id l = record {
  means : slaves_after l.site l.slaves (words_of l.left) ≡ slaves_after l.site [] (words_of l.rest);
  count : length l.slaves + length (words_of l.left) ≡ length (words_of l.rest);
  short : length l.slaves ≤ 5;
}

abbrev pub decreases-loop-id : goal.decreases-loop-id
decreases-loop-id l = length l.left
