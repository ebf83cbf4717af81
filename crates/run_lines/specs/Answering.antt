-- What HTTP requests ask for, and their answers.
use Rattle.std.specs.Prelude.{◌≡◌, ℕ, true, List}
use Rattle.declared_site.specs.declared.site.Site.{Site as Declared}
use Rattle.net_model.specs.Action.{Ok, Ask}
use Rattle.net_model.specs.BlockOrder.{is_block_event}
use Rattle.run_model.specs.Turn.{Request, AnswersAtOnce, Calls}
use Rattle.run_ops.specs.Runnable.{IsFit}
use Rattle.run_lines.specs.declared.requests.Answer.{Answer}
use Rattle.run_lines.specs.declared.requests.Asked.{Asked}
use Rattle.run_lines.specs.declared.requests.Asked.TheVariants as requests

abbrev pub text_of : Answer → ℕ × List ℕ
text_of answer = (answer.status, answer.body)

abbrev pub asked_for : Asked → Request
asked_for (requests.AtOnce answer) = AnswersAtOnce answer.status answer.body
asked_for (requests.Event event) = Calls event

-- the event that a request asks for is valid at the node's manager, in a block, too
abbrev pub IsAskedOf : Declared → ℕ → Asked → Type 0
IsAskedOf d v (requests.AtOnce answer) = Unit {0}
IsAskedOf d v (requests.Event event) = IsFit d (Ask v event Ok) × (is_block_event event ≡ true)
