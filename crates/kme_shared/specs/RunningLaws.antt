-- A state that stands in a world rests there, and counts of failures add up over consecutive actions.
use Rattle.std.proofs.Common.{List, [], ◌++◌}
use Rattle.net_model.specs.Site.{Site}
use Rattle.net_model.specs.World.{Network, World}
use Rattle.net_model.specs.Action.{Action}
use Rattle.world_state.specs.Rests.{Rests}
use Rattle.world_state.specs.Stands.{Stands}
use Rattle.world_state.specs.Tallied.{Tallied}
use Rattle.world_state.specs.declared.state.State.{State}
use Rattle.world_state.proofs.Disks.{has_disks}
use Rattle.world_state.proofs.Resting.{comes_to_rest as rests_here}
use Rattle.world_state.proofs.Tallies.{none_tallied as nothing, tallied_more}
use Rattle.world_state.specs.Outside.{Outside}

module _ {K Q E X : Type 0} (outside : Outside K Q E X) (net : Network) (w : World) where
  pub comes_to_rest : (s : State K Q E X) → Stands outside s net w → Rests outside s net w
  comes_to_rest s stands = rests_here outside net w s stands

  pub none_tallied : (s : State K Q E X) →
      Stands outside s net w → Tallied outside s s net.site []
  none_tallied s stands =
      nothing outside net.site s (has_disks outside s net w stands)

module _ {K Q E X : Type 0} (outside : Outside K Q E X) (site : Site) where
  pub more_tallied : (a b c : State K Q E X) (xs ys : List Action) → Tallied outside a b site xs →
      Tallied outside b c site ys → Tallied outside a c site (xs ++ ys)
  more_tallied a b c xs ys h k = tallied_more outside site a b c xs ys h k
