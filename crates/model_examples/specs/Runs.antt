-- Runs that several rows use.
use Rattle.std.specs.Prelude.{◌∷◌, [], false, List}
use Rattle.net_model.specs.declared.event.Event.TheVariants as events
use Rattle.net_model.specs.Action.{Ok, Recovers, Action, TakeBlock, Ask}
use Rattle.net_model.specs.Action as actions
use Rattle.run_types.specs.declared.command.Command.TheVariants.{Bits, Fill, Settle, Crash, Start}
use Rattle.run_types.specs.declared.end.Ends.TheVariants.{Both}
use Rattle.model_examples.specs.Row.{line, Step}

abbrev pub restart : List Step
restart = line (Crash 0) ∷ line (Start 0) ∷ []

-- one key over one link, until it is confirmed
abbrev pub one_key : List Step
one_key = line (Bits 0 Both 2) ∷ line (Fill 0 1 256 1) ∷ line (Settle 10) ∷ []

-- actions: both nodes are started; then they take two blocks, a key is made and planned, and no bytes are claimed yet
abbrev pub started : List Action
started = actions.Start 0 (Recovers false) ∷ actions.Start 1 (Recovers false) ∷ []

abbrev pub planned_only : List Action
planned_only = TakeBlock 0 0 Ok ∷ TakeBlock 1 0 Ok ∷ TakeBlock 0 0 Ok ∷ TakeBlock 1 0 Ok ∷ Ask 0 (events.Fill 0 1 256 1) Ok ∷ Ask 0 events.Plan Ok ∷ []
