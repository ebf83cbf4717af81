-- Each post of a state has a disk.
use Rattle.std.proofs.Common.{◌≡◌, ℕ, Some}
use Rattle.std.specs.Prelude.{slice_get}
use Rattle.net_model.specs.World.{Network, World}
use Rattle.world_nodes.specs.Passed.{Post}
use Rattle.world_nodes.specs.Counts.{disk_of}
use Rattle.world_nodes.proofs.Counted.{post_disk}
use Rattle.world_state.specs.Stands.{Stands}
use Rattle.world_state.specs.declared.state.State.{State}
use Rattle.world_state.specs.Outside.{Outside}

module _ {K Q E X : Type 0} (outside : Outside K Q E X) (s : State K Q E X) (net : Network) (w : World) (stands : Stands outside s net w) where
  pub has_disks : (v : ℕ) (p : Post K E) → slice_get s.posts.items v ≡ Some p → (k : K) × (disk_of p ≡ Some k)
  has_disks v p at = post_disk outside.disk net w v outside.entropy p (stands.posts v p at)
