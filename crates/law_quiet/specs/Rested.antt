-- Lines that a rest outlasts.
use Rattle.std.specs.Prelude.{◌≡◌, ℕ, Bool, true, false, List, ◌++◌, length}
use Rattle.std.specs.List.{list_all, AllByRecursion}
use Rattle.net_model.specs.World.{Network, first}
use Rattle.run_types.specs.declared.command.Command.{Command}
use Rattle.run_types.specs.declared.command.Command.TheVariants.{Tick, Start}
use Rattle.run_types.specs.declared.entry.Entry.TheVariants.{Line}
use Rattle.run_types.specs.declared.frame_result.FrameResult.TheVariants.{Refused}
use Rattle.run_types.specs.declared.item.Item.{Item}
use Rattle.run_types.specs.declared.item.Item.TheVariants.{Passed}
use Rattle.run_types.specs.declared.item.NumberedItem.{NumberedItem}
use Rattle.run_model.specs.Turn.{HttpTexts}
use Rattle.run_model.specs.Play.{Whole}
use Rattle.run_model.specs.Report.{Task, Does, Performed, report, IsRunOf}

-- The line starts no manager, and puts no frame that it doesn't pass.
abbrev pub keeps_rest : Command → Bool
keeps_rest (Tick v) = false
keeps_rest (Start v) = false
keeps_rest _ = true

abbrev pub KeepsRest : Task → Type 0
KeepsRest (Does (Line line)) = keeps_rest line.command ≡ true
KeepsRest _ = ⊥

-- The item tells of no frame that was passed and refused.
abbrev pub is_taken : Item → Bool
is_taken (Passed lane number (Refused refusal)) = false
is_taken _ = true

-- The run of these tasks came to its end. The later ones are such lines, and no pass of theirs was refused.
pub record KeepRest (http : HttpTexts) (net : Network) (workers : ℕ) (earlier later : List Task) (done more : List Performed) : Type 0 where
  pub run : IsRunOf http net workers first (earlier ++ later) (done ++ more)
  pub whole : (report http net first (earlier ++ later) (done ++ more)).ending ≡ Whole
  pub apart : length done ≡ length earlier
  pub each : AllByRecursion KeepsRest later
  pub told : List NumberedItem
  pub tells : (report http net first (earlier ++ later) (done ++ more)).items ≡ (report http net first earlier done).items ++ told
  pub taken : list_all (λ (i : NumberedItem). is_taken i.item) told ≡ true
