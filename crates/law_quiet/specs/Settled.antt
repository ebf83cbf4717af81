-- Scenarios whose last lines are `settle` lines that report nothing.
use Rattle.std.specs.Prelude.{◌≡◌, ℕ, ◌<◌, true, List, ◌++◌, length, Some}
use Rattle.std.specs.List.{AllByRecursion}
use Rattle.qkd_base.specs.Name.{Name}
use Rattle.net_model.specs.declared.fact.Fact.{Fact}
use Rattle.net_model.specs.Table.{fact_at}
use Rattle.net_model.specs.Pools.{is_key_of}
use Rattle.net_model.specs.World.{Network, World, first}
use Rattle.run_types.specs.declared.command.Command.TheVariants.{Settle}
use Rattle.run_types.specs.declared.entry.Entry.TheVariants.{Line}
use Rattle.run_model.specs.Turn.{HttpTexts}
use Rattle.run_model.specs.Play.{Whole}
use Rattle.run_model.specs.Report.{Task, Does, Performed, report, IsRunOf}

-- The task is a `settle` line of at least one round.
pub record IsSettle (t : Task) : Type 0 where
  pub number : ℕ
  pub rounds : ℕ
  pub some : 0 < rounds
  pub is : t ≡ Does (Line (record { number = number; command = Settle rounds }))

-- The run of these tasks came to its end. The last of them are `settle` lines, so many, and they added nothing to the report
-- of the earlier ones, of which `done` was done.
pub record EndsSilent (http : HttpTexts) (net : Network) (workers count : ℕ) (earlier settles : List Task) (done rest : List Performed) : Type 0 where
  pub run : IsRunOf http net workers first (earlier ++ settles) (done ++ rest)
  pub whole : (report http net first (earlier ++ settles) (done ++ rest)).ending ≡ Whole
  pub apart : length done ≡ length earlier
  pub each : AllByRecursion IsSettle settles
  pub many : length settles ≡ count
  pub silent : (report http net first (earlier ++ settles) (done ++ rest)).items ≡ (report http net first earlier done).items

-- The worlds before and after these last lines.

abbrev pub world_before : HttpTexts → Network → (earlier : List Task) → (done : List Performed) → World
world_before http net earlier done = (report http net first earlier done).world

abbrev pub world_after : HttpTexts → Network → (earlier settles : List Task) → (done rest : List Performed) → World
world_after http net earlier settles done rest = (report http net first (earlier ++ settles) (done ++ rest)).world

-- The table has a key of this name for this pair.
pub record IsKeyOf (w : World) (m t : ℕ) (n : Name) : Type 0 where
  pub bits : ℕ
  pub fact : Fact
  pub there : fact_at w.durable.facts n ≡ Some fact
  pub key : is_key_of m t bits (Some fact) ≡ true
