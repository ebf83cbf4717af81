-- What is done for the tasks is a run, task by task.
use Rattle.std.proofs.Common.{◌≡◌, ◌∙◌, ℕ, List, [], ◌∷◌, Option, Some, None, refl, sym, ap, subst}
use Rattle.net_model.specs.World.{Network, World}
use Rattle.net_model.specs.Premises.{IsNetwork}
use Rattle.net_model.specs.Invariant.{Conserved}
use Rattle.net_model.specs.Action.{Action}
use Rattle.net_model.specs.Step.{run, IsRun}
use Rattle.run_types.specs.declared.entry.Entry.TheVariants.{Line, Block}
use Rattle.run_types.specs.declared.item.NumberedItem.{NumberedItem}
use Rattle.run_model.specs.Turn.{HttpTexts}
use Rattle.run_model.specs.Lines.{script_of, begins}
use Rattle.run_model.specs.Play.{Ending, Whole, CutShort, ForgedAt, NoMemory, Played, OneOf, stopped_at}
use Rattle.run_model.specs.Works.{parts, block_run}
use Rattle.run_model.specs.Block.{block_items}
use Rattle.run_model.specs.Report.{Task, Begins, Does, Performed, Acts, Together, perform, IsPerformed, is_whole, with_rest, report, IsRunOf, actions_for, actions_of}
use Rattle.law_locality.proofs.Runs.{nothing_runs, run_none, runs-append, run-append}
use Rattle.law_locality.proofs.Chains.{kept, block_is_run}
use Rattle.law_run.proofs.Plays.{play_is_run}

block_leads : (items : List NumberedItem) (after : World) (o : Option (List ℕ)) →
    (elim o as (λ o. Played) [ None ↦ record { items = items; world = after; ending = Whole } | Some places ↦ stopped_at after NoMemory ]).world ≡ after
block_leads items after None = refl
block_leads items after (Some places) = refl

module _ (http : HttpTexts) (net : Network) (network : IsNetwork net) (workers : ℕ) where
  -- The actions of one task are a run.
  task_is_run : (w : World) → Conserved net w → (t : Task) (d : Performed) → IsPerformed http net workers w t d →
      IsRun net w (actions_for net d) × ((perform http net w t d).world ≡ run net w (actions_for net d))
  unfolding perform block_run
  task_is_run w c (Begins number v) (Acts actions) h = play_is_run net number w (begins v) actions h
  task_is_run w c (Does (Line line)) (Acts actions) h = play_is_run net line.number w (script_of http net.site line.command) actions h
  task_is_run w c (Does (Block lines)) (Together works) h =
      (block_is_run net w (parts works) network c h.block, block_leads (block_items http net w lines works) (run net w (block_run net works)) works.left_out)
  task_is_run w c (Begins number v) (Together works) h = absurd h
  task_is_run w c (Does (Line line)) (Together works) h = absurd h
  task_is_run w c (Does (Block lines)) (Acts actions) h = absurd h

  -- The next tasks follow only if this one ended whole.
  then_rest : (ds : List Performed) (e : Ending) (p rest : Played) (A : Type 0) → OneOf (is_whole e) A (ds ≡ []) →
      (A → IsRun net p.world (actions_of net ds) × (rest.world ≡ run net p.world (actions_of net ds))) →
      IsRun net p.world (actions_of net ds) × ((with_rest e p rest).world ≡ run net p.world (actions_of net ds))
  unfolding actions_of
  then_rest ds Whole p rest A h more = more h
  then_rest [] CutShort p rest A h more = (nothing_runs net p.world, sym (run_none net p.world))
  then_rest (d ∷ ds) CutShort p rest A h more = cc
  then_rest [] (ForgedAt number) p rest A h more = (nothing_runs net p.world, sym (run_none net p.world))
  then_rest (d ∷ ds) (ForgedAt number) p rest A h more = cc
  then_rest [] NoMemory p rest A h more = (nothing_runs net p.world, sym (run_none net p.world))
  then_rest (d ∷ ds) NoMemory p rest A h more = cc

  pub tasks_are_run : (w : World) → Conserved net w → (ts : List Task) (ds : List Performed) → IsRunOf http net workers w ts ds →
      IsRun net w (actions_of net ds) × ((report http net w ts ds).world ≡ run net w (actions_of net ds))
  unfolding report actions_of
  tasks_are_run w c [] [] h = (nothing_runs net w, sym (run_none net w))
  tasks_are_run w c (t ∷ ts) [] h = (nothing_runs net w, sym (run_none net w))
  tasks_are_run w c [] (d ∷ ds) h = absurd h
  tasks_are_run w c (t ∷ ts) (d ∷ ds) h =
      let here = task_is_run w c t d h.0 in
      let p : Played = perform http net w t d in
      let xs : List Action = actions_for net d in
      let ys : List Action = actions_of net ds in
      let after : Conserved net p.world = subst (λ (v : World). Conserved net v) (sym here.1) (kept net network xs w c here.0) in
      let rest = then_rest ds p.ending p (report http net p.world ts ds) (IsRunOf http net workers p.world ts ds) h.1 (tasks_are_run p.world after ts ds) in (
        runs-append net xs ys w here.0 (subst (λ (v : World). IsRun net v ys) here.1 rest.0),
        rest.1 ∙ ap (λ (v : World). run net v ys) here.1 ∙ sym (run-append net xs ys w),
      )
