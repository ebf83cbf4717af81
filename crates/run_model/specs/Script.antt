-- A script: what a line asks of the network step by step, what it reports, and how it goes on. How it goes on depends
-- on the world and on the outcomes of its actions.
use Rattle.std.specs.Prelude.{List}
use Rattle.net_model.specs.World.{World}
use Rattle.net_model.specs.Action.{Action, Outcome}
use Rattle.run_types.specs.declared.item.Item.{Item}

-- Ends: the script ends. Reports: it reports items. Looks: it depends on the world. Asks: it asks for an action, with
-- the answer of an outside that does all that is asked, and depends on the outcome. GivesUp: memory ran out, and the
-- whole run ends.
pub data Script : Type 0 where
  Ends : Script
  Reports : (items : List Item) → (next : Script) → Script
  Looks : (next : World → Script) → Script
  Asks : (action : Action) → (next : Outcome → Script) → Script
  GivesUp : Script

-- the second script is done after the first
unfoldable pub then_comes : Script → Script → Script
then_comes Ends last = last
then_comes (Reports items next) last = Reports items (then_comes next last)
then_comes (Looks next) last = Looks (λ w. then_comes (next w) last)
then_comes (Asks action next) last = Asks action (λ outcome. then_comes (next outcome) last)
then_comes GivesUp last = GivesUp

abbrev pub reports : List Item → Script
reports items = Reports items Ends

-- a script of one action, which reports the action's outcome
abbrev pub asks : Action → (Outcome → List Item) → Script
asks action items = Asks action (λ outcome. Reports (items outcome) Ends)
