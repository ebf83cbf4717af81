-- Actions that were done over a bench: its parts were laid out before them, and put back after them.
use Rattle.std.specs.Prelude.{List}
use Rattle.net_model.specs.World.{Network, World}
use Rattle.net_model.specs.Action.{Action}
use Rattle.declared_site.specs.declared.site.Site.{Site as Declared}
use Rattle.world_state.specs.Tallied.{Tallied}
use Rattle.world_state.specs.Rests.{Rests}
use Rattle.world_state.specs.declared.state.State.{State}
use Rattle.net_world.specs.Laid.{IsLaidOut, IsPutBack}
use Rattle.net_world.specs.declared.bench.Bench.{Bench}
use Rattle.world_state.specs.Outside.{Outside}

-- the state before the actions, the state after them, which rests in a world, and the parts that stayed on the bench
pub record HasRun {K Q E X : Type 0} (outside : Outside K Q E X)
    (old new : Bench K Q E X) (site : Declared) (net : Network) (actions : List Action) (w : World) : Type 0 where
  pub begin : State K Q E X
  pub end : State K Q E X
  pub stayed : Bench K Q E X
  pub laid : IsLaidOut old stayed site begin
  pub rests : Rests outside end net w
  pub tallied : Tallied outside begin end net.site actions
  pub back : IsPutBack outside.disk end stayed new
