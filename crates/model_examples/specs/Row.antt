-- Rows: scenarios with the answers of the environment, and what they report, computed by the definition of a run's report.
use Rattle.std.specs.Prelude.{ℕ, zero, suc, ◌+◌, Bool, List, [], ◌∷◌, ◌++◌, length, map, drop}
use Rattle.net_model.specs.Site.{count_up}
use Rattle.net_model.specs.World.{Network, World, first}
use Rattle.net_model.specs.Action.{Action, Environment, Recovery, Start, TakeBlock, Ask, Transmit, Deliver, Flip, Forge}
use Rattle.net_model.specs.Step.{step, is_run}
use Rattle.run_types.specs.declared.end.End.TheVariants.{Low, High}
use Rattle.run_types.specs.declared.command.Command.{Command}
use Rattle.run_types.specs.declared.line.Line.{Line}
use Rattle.run_types.specs.declared.entry.Entry.TheVariants as entries
use Rattle.run_types.specs.declared.stream_answer.Chunk.{Chunk}
use Rattle.run_types.specs.declared.item.Item.{Item}
use Rattle.run_types.specs.declared.item.Item.TheVariants as items
use Rattle.run_types.specs.declared.item.NumberedItem.{NumberedItem}
use Rattle.run_model.specs.Script.{Script, Ends, Reports, Looks, Asks, GivesUp}
use Rattle.run_model.specs.Turn.{HttpTexts, AnswersAtOnce}
use Rattle.run_model.specs.Lines.{script_of, begins}
use Rattle.run_model.specs.Play.{Ending, Played}
use Rattle.run_model.specs.Works.{Works}
use Rattle.run_model.specs.Block.{play_block}
use Rattle.run_model.specs.Report.{Task, Begins, Does, Performed, Acts, Together, report, actions_of}

-- ---- the answers of the environment

-- an answer to an action: no fault, a fault, or what a start finds
pub data Answer : Type 0 where
  Well : Answer
  Says : (environment : Environment) → Answer
  Finds : (recovery : Recovery) → Answer

abbrev pub with_environment : Action → Environment → Action
with_environment (TakeBlock v link old) environment = TakeBlock v link environment
with_environment (Ask v event old) environment = Ask v event environment
with_environment (Transmit l j old) environment = Transmit l j environment
with_environment (Deliver l number old) environment = Deliver l number environment
with_environment (Flip l number bit old) environment = Flip l number bit environment
with_environment (Forge l octets old) environment = Forge l octets environment
with_environment action environment = action

abbrev pub with_recovery : Action → Recovery → Action
with_recovery (Start v old) recovery = Start v recovery
with_recovery action recovery = action

abbrev pub with_answer : Action → Answer → Action
with_answer action Well = action
with_answer action (Says environment) = with_environment action environment
with_answer action (Finds recovery) = with_recovery action recovery

-- without further answers the environment has no fault
abbrev pub next_answer : List Answer → Answer
next_answer [] = Well
next_answer (a ∷ rest) = a

-- the actions done for a script, and the world to which they lead
pub record Acted : Type 0 where
  pub actions : List Action
  pub world : World

unfoldable pub answered : Network → World → Script → List Answer → Acted
answered net w Ends answers = record { actions = []; world = w }
answered net w (Reports reported next) answers = answered net w next answers
answered net w (Looks next) answers = answered net w (next w) answers
answered net w (Asks action next) answers =
    let a = with_answer action (next_answer answers) in
    let out = step net w a in
    let rest = answered net out.0 (next out.1) (drop 1 answers) in
    record { actions = a ∷ rest.actions; world = rest.world }
answered net w GivesUp answers = record { actions = []; world = w }

-- ---- the steps of a row

-- one step: a node that is started, a line, or a block, with the answers of the environment or the works of the workers
pub data Step : Type 0 where
  Begin : (node : ℕ) (answers : List Answer) → Step
  One : (command : Command) (answers : List Answer) → Step
  Block : (commands : List Command) (works : Works) → Step

abbrev pub line : Command → Step
line command = One command []

abbrev pub line_by : Command → List Answer → Step
line_by command answers = One command answers

-- rows are without HTTP unless they say so
abbrev pub no_http : HttpTexts
no_http = record { request = λ v octets. AnswersAtOnce 400 []; response = λ event reply. (500, []) }

-- lines are numbered from 1; the `node` lines before them all count as line 0
abbrev pub numbered_lines : ℕ → List Command → List Line
numbered_lines number [] = []
numbered_lines number (c ∷ cs) = record { number = number; command = c } ∷ numbered_lines (number + 1) cs

abbrev pub tasks_of : ℕ → List Step → List Task
tasks_of number [] = []
tasks_of number (Begin v answers ∷ rest) = Begins 0 v ∷ tasks_of number rest
tasks_of number (One command answers ∷ rest) = Does (entries.Line (record { number = number; command = command })) ∷ tasks_of (number + 1) rest
tasks_of number (Block commands works ∷ rest) = Does (entries.Block (numbered_lines number commands)) ∷ tasks_of (number + length commands) rest

abbrev pub then_done : Acted → (World → List Performed) → List Performed
then_done acted rest = Acts acted.actions ∷ rest acted.world

-- what is done, step by step
unfoldable pub done_by : HttpTexts → Network → World → List Step → List Performed
done_by http net w [] = []
done_by http net w (Begin v answers ∷ rest) = then_done (answered net w (begins v) answers) (λ after. done_by http net after rest)
done_by http net w (One command answers ∷ rest) = then_done (answered net w (script_of http net.site command) answers) (λ after. done_by http net after rest)
done_by http net w (Block commands works ∷ rest) = Together works ∷ done_by http net (play_block http net w (numbered_lines 0 commands) works).world rest

-- what a run reported, how it ended, the world it led to, its actions, and whether they are all legal
pub record Ran : Type 0 where
  pub items : List NumberedItem
  pub ending : Ending
  pub world : World
  pub actions : List Action
  pub legal : Bool

abbrev pub ran_as : Network → World → List Performed → Played → Ran
ran_as net w done p =
    let actions = actions_of net done in
    record { items = p.items; ending = p.ending; world = p.world; actions = actions; legal = is_run net w actions }

abbrev pub ran_doing : HttpTexts → Network → World → List Step → List Performed → Ran
ran_doing http net w steps done = ran_as net w done (report http net w (tasks_of 1 steps) done)

unfoldable pub ran_from : HttpTexts → Network → World → List Step → Ran
ran_from http net w steps = ran_doing http net w steps (done_by http net w steps)

-- a row whose nodes are all started before the lines are done
abbrev pub starting : Network → List Step → List Step
starting net steps = map (λ v. Begin v []) (count_up net.site.nodes) ++ steps

abbrev pub ran : Network → List Step → Ran
ran net steps = ran_from no_http net first (starting net steps)

abbrev pub reported : Ran → List NumberedItem × Ending × Bool
reported r = (r.items, r.ending, r.legal)

-- what is reported, how the run ended, and whether all actions are legal
abbrev pub row : Network → List Step → List NumberedItem × Ending × Bool
row net steps = reported (ran net steps)

-- the report of a row whose steps themselves start the nodes
abbrev pub row_down : Network → List Step → List NumberedItem × Ending × Bool
row_down net steps = reported (ran_from no_http net first steps)

-- ---- short forms of items

abbrev pub at : ℕ → Item → NumberedItem
at number item = record { number = number; item = item }

-- `count` blocks at both ends of a link
abbrev pub took : (number link count : ℕ) → List NumberedItem
took number link zero = []
took number link (suc n) = took number link n ++ at number (items.Took link Low n) ∷ at number (items.Took link High n) ∷ []

abbrev pub chunk : (index : ℕ) → List ℕ → Chunk
chunk index bytes = record { index = index; bytes = bytes }
