-- Lines that bring all nodes and links up: starts, links that go up, and settles in which no manager stops.
use Rattle.std.specs.Prelude.{◌≡◌, ℕ, ◌<◌, ◌==◌, Bool, true, false, List, ◌++◌, length}
use Rattle.std.specs.List.{list_any, list_all, AllByRecursion}
use Rattle.net_model.specs.World.{Network, first}
use Rattle.run_types.specs.declared.command.Command.{Command}
use Rattle.run_types.specs.declared.command.Command.TheVariants as commands
use Rattle.run_types.specs.declared.entry.Entry.TheVariants.{Line}
use Rattle.run_types.specs.declared.start_result.StartResult.TheVariants as starts
use Rattle.run_types.specs.declared.frame_result.FrameResult.TheVariants.{Refused}
use Rattle.run_types.specs.declared.refusal.Refusal.TheVariants.{Stopped}
use Rattle.run_types.specs.declared.item.Item.{Item}
use Rattle.run_types.specs.declared.item.Item.TheVariants as items
use Rattle.run_types.specs.declared.item.NumberedItem.{NumberedItem}
use Rattle.run_model.specs.Turn.{HttpTexts}
use Rattle.run_model.specs.Play.{Whole}
use Rattle.run_model.specs.Report.{Task, Does, Performed, report, IsRunOf}

-- The item tells of no manager that a start left down, or that stopped in a settle.
abbrev pub is_well : Item → Bool
is_well (items.Start starts.Started) = true
is_well (items.Start starts.WasUp) = true
is_well (items.Start result) = false
is_well (items.NotTicked v Stopped) = false
is_well (items.Passed lane number (Refused Stopped)) = false
is_well _ = true

abbrev pub is_raising : Command → Bool
is_raising (commands.Start v) = true
is_raising (commands.LinkUp link) = true
is_raising (commands.Settle rounds) = true
is_raising _ = false

abbrev pub IsRaising : Task → Type 0
IsRaising (Does (Line line)) = is_raising line.command ≡ true
IsRaising _ = ⊥

abbrev pub starts_node : ℕ → Command → Bool
starts_node v (commands.Start u) = u == v
starts_node v _ = false

abbrev pub raises_link : ℕ → Command → Bool
raises_link k (commands.LinkUp link) = link == k
raises_link k _ = false

-- A line of the task has such a command.
abbrev pub has_line : (Command → Bool) → Task → Bool
has_line p (Does (Line line)) = p line.command
has_line p _ = false

-- The run of these tasks came to its end. The last of them are such lines, with a start of each node and a `link-up` of each
-- link, and what they told is well.
pub record EndsRaised (http : HttpTexts) (net : Network) (workers : ℕ) (earlier raising : List Task) (done more : List Performed) : Type 0 where
  pub run : IsRunOf http net workers first (earlier ++ raising) (done ++ more)
  pub whole : (report http net first (earlier ++ raising) (done ++ more)).ending ≡ Whole
  pub apart : length done ≡ length earlier
  pub each : AllByRecursion IsRaising raising
  pub nodes : (v : ℕ) → v < net.site.nodes → list_any (has_line (starts_node v)) raising ≡ true
  pub links : (link : ℕ) → link < net.site.links → list_any (has_line (raises_link link)) raising ≡ true
  pub told : List NumberedItem
  pub tells : (report http net first (earlier ++ raising) (done ++ more)).items ≡ (report http net first earlier done).items ++ told
  pub well : list_all (λ (i : NumberedItem). is_well i.item) told ≡ true
