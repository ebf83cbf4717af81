use Rattle.std.proofs.Common.{◌≡◌, ◌≤◌, ◌+◌, length}
use Rattle.scenario_text.specs.Words.{words_of}
use Rattle.scenario_check.specs.Reasons.{misfit}
use Rattle.scenario_check.proofs.reason.misfit.Given as goal

abbrev pub invariant-loop-next : goal.invariant-loop-next
invariant-loop-next l = record {
  so_far : misfit l.site l.fields l.more (words_of l.left) l.place ≡ misfit l.site l.fields l.more (words_of l.rest) 0;
  short : l.place + length l.left ≤ length l.rest;
}

abbrev pub decreases-loop-next : goal.decreases-loop-next
decreases-loop-next l = length l.left
