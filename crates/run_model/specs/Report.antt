-- The run of a scenario, and its report.
use Rattle.std.specs.Prelude.{◌≡◌, ℕ, ◌+◌, Bool, true, false, List, [], ◌∷◌, ◌++◌, map}
use Rattle.std.specs.List.{flat_map}
use Rattle.net_model.specs.World.{Network, World}
use Rattle.net_model.specs.Action.{Action}
use Rattle.run_types.specs.declared.entry.Entry.{Entry}
use Rattle.run_types.specs.declared.entry.Entry.TheVariants as entries
use Rattle.run_model.specs.Turn.{HttpTexts}
use Rattle.run_model.specs.Lines.{script_of, begins}
use Rattle.run_model.specs.Play.{Ending, Whole, CutShort, Played, stopped_at, reporting, play, IsPlay, OneOf}
use Rattle.run_model.specs.Works.{Works, block_run, IsBlockOf}
use Rattle.run_model.specs.Block.{play_block}

-- A task of a run. At the beginning, each declared node is started, which is reported under the number of its `node`
-- line. The other tasks are the entries of the scenario.
pub data Task : Type 0 where
  Begins : (number node : ℕ) → Task
  Does : (entry : Entry) → Task

abbrev pub starts_from : ℕ → (numbers : List ℕ) → List Task
starts_from v [] = []
starts_from v (number ∷ rest) = Begins number v ∷ starts_from (v + 1) rest

-- each declared node is started, in order, and then the entries are done
abbrev pub tasks : (node_lines : List ℕ) → List Entry → List Task
tasks node_lines entries = starts_from 0 node_lines ++ map Does entries

-- what was done for a task: actions in order, or the works of a block
pub data Performed : Type 0 where
  Acts : (actions : List Action) → Performed
  Together : (works : Works) → Performed

-- the play of a task; if what was done is of the wrong kind for the task, nothing is played
unfoldable pub perform : HttpTexts → Network → World → Task → Performed → Played
perform http net w (Begins number v) (Acts actions) = play net number w (begins v) actions
perform http net w (Does (entries.Line line)) (Acts actions) = play net line.number w (script_of http net.site line.command) actions
perform http net w (Does (entries.Block lines)) (Together works) = play_block http net w lines works
perform http net w _ _ = stopped_at w CutShort

-- what was done answers the task
abbrev pub IsPerformed : HttpTexts → Network → (workers : ℕ) → World → Task → Performed → Type 0
IsPerformed http net workers w (Begins number v) (Acts actions) = IsPlay net w (begins v) actions
IsPerformed http net workers w (Does (entries.Line line)) (Acts actions) = IsPlay net w (script_of http net.site line.command) actions
IsPerformed http net workers w (Does (entries.Block lines)) (Together works) = IsBlockOf http net workers w lines works
IsPerformed http net workers w _ _ = ⊥

abbrev pub is_whole : Ending → Bool
is_whole Whole = true
is_whole _ = false

-- the later tasks are played only if this one came to its end
abbrev pub with_rest : Ending → Played → Played → Played
with_rest Whole p rest = reporting p.items rest
with_rest _ p rest = p

-- The report, task by task. If nothing more was done, it is whole if no task is left, and cut short otherwise.
unfoldable pub report : HttpTexts → Network → World → List Task → List Performed → Played
report http net w [] done = stopped_at w Whole
report http net w (t ∷ ts) [] = stopped_at w CutShort
report http net w (t ∷ ts) (d ∷ ds) = let p = perform http net w t d in with_rest p.ending p (report http net p.world ts ds)

-- What was done is a run of these tasks. Each part answers its task, and nothing follows a part that didn't come to its
-- end.
abbrev pub IsRunOf : HttpTexts → Network → (workers : ℕ) → World → List Task → List Performed → Type 0
IsRunOf http net workers w tasks [] = Unit {0}
IsRunOf http net workers w [] (d ∷ ds) = ⊥
IsRunOf http net workers w (t ∷ ts) (d ∷ ds) =
    let p = perform http net w t d in
    IsPerformed http net workers w t d × OneOf (is_whole p.ending) (IsRunOf http net workers p.world ts ds) (ds ≡ [])

abbrev pub actions_for : Network → Performed → List Action
actions_for net (Acts actions) = actions
actions_for net (Together works) = block_run net works

-- all actions that were done, in order
unfoldable pub actions_of : Network → List Performed → List Action
actions_of net done = flat_map (actions_for net) done
