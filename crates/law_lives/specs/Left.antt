-- The images that a course may leave on disks.
use Rattle.std.specs.Prelude.{◌≡◌, ℕ, ◌<◌, Bool, true, false, List, [], Some}
use Rattle.net_model.specs.declared.record.Record.{Record}
use Rattle.net_model.specs.World.{Network, World, Journal}
use Rattle.net_model.specs.Needed.{view_of}
use Rattle.net_model.specs.Fold.{recovered_view}
use Rattle.net_model.specs.Journal.{is_blank}
use Rattle.net_model.specs.Action.{Action}
use Rattle.net_model.specs.Step.{run}
use Rattle.run_model.specs.Left.{IsFoldOf}
use Rattle.run_model.specs.Bench.{DiskBatches, Seen}
use Rattle.run_model.specs.Course.{Course, whole_run, last_world}
use Rattle.law_lives.specs.OneWorld.{IsOneWorld}
use Rattle.law_lives.specs.Lives.{Life, IsLife}

-- The batches of one image of each disk. Those of a node that was started have the fold of the batches of its events,
-- with its batch in doubt or without it. A disk of a node that was never started has no batches.
pub record AreLeft (net : Network) (begin : World) (actions : List Action) (images : ℕ → List (List Record)) : Type 0 where
  pub started : (v : ℕ) → v < net.site.nodes → is_blank ((run net begin actions).journal v) ≡ false → IsFoldOf net begin actions (run net begin actions) v (images v)
  pub unstarted : (v : ℕ) → v < net.site.nodes → is_blank ((run net begin actions).journal v) ≡ true → images v ≡ []

-- All journals are of the version that is written now. A node whose journal is blank has seen nothing.
pub record AreCurrent (net : Network) (w : World) : Type 0 where
  pub version : (v : ℕ) → (w.journal v).version ≡ 2
  pub unseen : (v : ℕ) → v < net.site.nodes → is_blank (w.journal v) ≡ true → view_of net w v ≡ recovered_view net.site v []

-- The life of a course, of whose disks these images were read.
abbrev pub life_of : Course → (images : ℕ → List (List Record)) → (made : ℕ → Bool) → (journals : ℕ → Journal) → Life
life_of c images made journals = record { net = c.net; begin = c.begin; actions = whole_run c; images = images; made = made; journals = journals }

-- The disks that are seen after a course encode images that have one world. So the course is a life, which others may
-- follow.
pub record HasOneWorld (reading : DiskBatches) (seen : Seen) (c : Course) (journals : ℕ → Journal) : Type 0 where
  pub images : ℕ → List (List Record)
  pub read : (v : ℕ) → v < c.net.site.nodes → is_blank ((last_world c).journal v) ≡ false → reading (seen.disk v) ≡ Some (images v)
  pub unstarted : (v : ℕ) → v < c.net.site.nodes → is_blank ((last_world c).journal v) ≡ true → images v ≡ []
  pub made : ℕ → Bool
  pub world : IsOneWorld c.net (last_world c) images journals made
  pub life : IsLife (life_of c images made journals)
