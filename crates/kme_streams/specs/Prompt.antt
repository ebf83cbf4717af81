-- Steps that can run out of memory only if they change something.
use Rattle.std.specs.Prelude.{◌≢◌, [], Result, Ok, Err}
use Rattle.net_model.specs.declared.reply.Reply.{Reply}
use Rattle.net_model.specs.View.{View}
use Rattle.net_model.specs.Decision.{Decision, Refuses, Does}
use Rattle.kme_base.specs.declared.step.Step.{Step}
use Rattle.kme_base.specs.Steps.{IsStep}

-- a call may fail only if the decision changes something durably
abbrev pub IsPrompt : Decision → Result Step Reply → Type 0
IsPrompt (Does e) (Err q) = e.batch ≢ []
IsPrompt (Does e) (Ok s) = Unit {0}
IsPrompt (Refuses r) result = Unit {0}

-- The step is the one that is decided. Only a durable change may fail for lack of memory, never a refusal or a mere answer.
pub record IsPromptStep (v : View) (d : Decision) (result : Result Step Reply) : Type 0 where
  pub step : IsStep v [] d result
  pub prompt : IsPrompt d result
