-- All managers took their turns in a block.
use Rattle.std.specs.Prelude.{◌≡◌, ℕ, List, [], length, map, slice_get, Some}
use Rattle.net_model.specs.Site.{count_up}
use Rattle.net_model.specs.World.{Network, World}
use Rattle.net_model.specs.Action.{Outcome}
use Rattle.net_model.specs.Step.{run, IsRun}
use Rattle.net_model.specs.BlockOrder.{IsMerge}
use Rattle.run_model.specs.Works.{Work, actions_in, flat, plain_work, done_from}
use Rattle.run_ops.specs.declared.job.Job.{Job}
use Rattle.run_ops.specs.Jobs.{asked_by}
use Rattle.run_ops.specs.Together.{turn_done}
use Rattle.world_state.specs.Stands.{Stands}
use Rattle.world_state.specs.declared.state.State.{State}
use Rattle.world_state.specs.Tallied.{Tallied}
use Rattle.world_state.specs.Outside.{Outside}

-- The managers did what the workers asked. Each manager's history is a merge of what the workers asked of it. The replies, each with the place of its
-- line, are in order of node and then of the histories. The state has the managers after their turns, and stands for the world that the turns leave.
pub record TookAllTurns {K Q E X : Type 0} (outside : Outside K Q E X)
    (old new : State K Q E X) (net : Network) (w : World) (workers : ℕ) (all : List Job) (replies : List (ℕ × Outcome)) : Type 0 where
  pub histories : List (List Work)
  pub nodes : length histories ≡ net.site.nodes
  pub merged : (v : ℕ) (h : List Work) → slice_get histories v ≡ Some h → IsMerge (map (λ k. asked_by net.site workers k v 0 all) (count_up workers)) (map plain_work h)
  pub turns : IsRun net w (actions_in (flat histories))
  pub said : replies ≡ map turn_done (done_from net w (flat histories))
  pub stands : Stands outside new net (run net w (actions_in (flat histories)))
  pub tallied : Tallied outside old new net.site (actions_in (flat histories))
  pub noted : (v : ℕ) → (run net w (actions_in (flat histories))).placings v ≡ []
