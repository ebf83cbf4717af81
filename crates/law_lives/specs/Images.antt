-- What is read of the disks when a life has ended: for each node, the batches of one image of its disk.
use Rattle.std.specs.Prelude.{◌≡◌, ℕ, ◌<◌, Bool, true, List}
use Rattle.net_model.specs.declared.record.Record.{Record}
use Rattle.net_model.specs.World.{Network, World}
use Rattle.net_model.specs.Start.{may_resolve}
use Rattle.law_recovery.specs.GivesBack.{GivesBack}
use Rattle.law_recovery.specs.Starting.{resolved_view}

-- The image gives back what the node saw, with its batch in doubt or without it. If a checkpoint settled the doubt, the
-- image has the batch exactly if the checkpoint has it.
pub record IsImage (net : Network) (w : World) (v : ℕ) (made : Bool) (batches : List (List Record)) : Type 0 where
  pub may : may_resolve (w.in_doubt v) made ≡ true
  pub back : GivesBack net.site v batches (resolved_view net w v made)

-- One image of each disk. Each has its node's doubt or not, whatever the others have.
abbrev pub AreImages : Network → World → (images : ℕ → List (List Record)) → Type 0
AreImages net w images = (v : ℕ) → v < net.site.nodes → (made : Bool) × IsImage net w v made (images v)
