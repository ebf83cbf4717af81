-- One world for all disks.
use Rattle.std.specs.Prelude.{◌≡◌, ℕ, ◌<◌, Bool, List}
use Rattle.net_model.specs.declared.record.Record.{Record}
use Rattle.net_model.specs.World.{Network, World, Journal}
use Rattle.net_model.specs.Needed.{view_of}
use Rattle.net_model.specs.Fold.{recovered_view}
use Rattle.net_model.specs.Invariant.{Conserved}
use Rattle.law_lives.specs.Images.{IsImage}
use Rattle.run_model.specs.Begin.{IsAtRest}
use Rattle.law_lives.specs.AtRest.{at_rest}

-- Each doubt is made as its node's image has it. In the world at rest after that, each node sees what its image gives
-- back, and all that is conserved holds.
pub record IsOneWorld (net : Network) (w : World) (images : ℕ → List (List Record)) (journals : ℕ → Journal) (made : ℕ → Bool) : Type 0 where
  pub as_read : (v : ℕ) → v < net.site.nodes → IsImage net w v (made v) (images v)
  pub given : (v : ℕ) → v < net.site.nodes → view_of net (at_rest net.site made journals w) v ≡ recovered_view net.site v (images v)
  pub rest : IsAtRest (at_rest net.site made journals w)
  pub conserved : Conserved net (at_rest net.site made journals w)
