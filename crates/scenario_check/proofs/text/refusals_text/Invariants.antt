use Rattle.std.proofs.Common.{◌≡◌, drop}
use Rattle.scenario_check.specs.Texts.{refusal_text}
use Rattle.scenario_check.proofs.Written.{written}
use Rattle.scenario_check.proofs.text.refusals_text.Given as goal

abbrev pub invariant-loop-refusal : goal.invariant-loop-refusal
invariant-loop-refusal l = written refusal_text l.text (drop l.refusal-index l.refusals) ≡ written refusal_text l.fn.text l.refusals
