-- A manager takes its turns, and grants the bytes that its plans' orders take.
use Rattle.std.specs.Prelude.{◌≡◌, ℕ, ◌+◌, ◌^◌, ◌≤◌, List, Option}
use Rattle.std.specs.List.{AllZip, AllByRecursion}
use Rattle.net_model.specs.declared.reply.Reply.{Reply}
use Rattle.net_model.specs.Site.{Site}
use Rattle.net_model.specs.World.{Network, World}
use Rattle.net_model.specs.Action.{Replies}
use Rattle.run_model.specs.Works.{wanted_put}
use Rattle.run_ops.specs.declared.job.Job.{Job}
use Rattle.world_state.specs.Passed.{Post}
use Rattle.lane_shares.specs.declared.share.Share.{Share}
use Rattle.lane_shares.specs.declared.shares.Shares.{Shares}
use Rattle.lane_shares.specs.Names.{Fits}
use Rattle.lane_shares.specs.Views.{with_amount}
use Rattle.par_lanes.specs.Emitting.{grant_at}
use Rattle.par_lanes.specs.Wants.{turns_at, bytes_at}
use Rattle.par_managers.specs.Taking.{MayCome, MayTurnAt, HappensAt}
use Rattle.world_state.specs.declared.state.State.{State}
use Rattle.par_managers.specs.Wanted.{CanLeave}
use Rattle.disk_model.specs.declared.disk.Disk as Disk
use Rattle.source_devices.specs.declared.entropy.Entropy as Entropy
use Rattle.world_state.specs.Outside.{Outside}

-- The turn may come at any time in a block, with a share of each lane.
pub record MayCall {K Q E X : Type 0} (outside : Outside K Q E X) (opening : State K Q E X) (v : ℕ) (shares : List Shares)
    (place : ℕ) (job : Job) (octets : Option (List ℕ)) (granted : List Share) : Type 0 where
  pub come : MayCome outside opening v place job octets
  pub fits : AllZip Fits shares granted

-- A turn was taken: this is what the manager does in any world in which it may take the turn. The frames of its reply can be sent and take few turns
-- of each lane. The bytes that they take of each lane are granted with the reply.
pub record TookPlanTurn {K E : Type 0} (disk_says : Disk.Ghosts K) (entropy_says : Entropy.Ghosts E)
    (s : Site) (v linked : ℕ) (old : Post K E) (shares : List Shares) (place : ℕ) (job : Job) (octets : Option (List ℕ)) (given : List Share)
    (reply : Reply) (gives : List Share) (linked' : ℕ) (new : Post K E) : Type 0 where
  pub happens : (net : Network) (w : World) → MayTurnAt disk_says entropy_says net w v place old job octets linked →
      HappensAt disk_says entropy_says net w v old new job reply
  pub can : AllByRecursion (CanLeave s v) (wanted_put (Replies reply))
  pub few : (i : ℕ) → turns_at i (wanted_put (Replies reply)) ≤ 2 ^ 21
  pub fits : AllZip Fits shares gives
  pub granted : (i : ℕ) → grant_at i gives ≡ with_amount (grant_at i given) ((grant_at i given).amount + bytes_at i (wanted_put (Replies reply)))
  pub up : linked' ≡ linked
