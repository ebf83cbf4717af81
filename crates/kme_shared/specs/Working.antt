-- What a worker needs for its jobs.
use Rattle.std.specs.Prelude.{◌≡◌, ℕ, ◌+◌, ◌^◌, ◌<◌, ◌≤◌, true, List, length, slice_get, Option, Some, IfSome}
use Rattle.std.specs.List.{AllZip, AllByRecursion}
use Rattle.qkd_base.specs.Lane.{lane_place}
use Rattle.qkd_base.specs.declared.lane.Lane.{Lane}
use Rattle.net_model.specs.Events.{is_lane}
use Rattle.declared_site.specs.SiteOf.{site_of}
use Rattle.lane_shares.specs.declared.share.Share.{Share}
use Rattle.lane_shares.specs.declared.shares.Shares.{Shares}
use Rattle.lane_shares.specs.Names.{Fits}
use Rattle.lane_sender.specs.Lane.{LaneForm}
use Rattle.shared_objects.specs.declared.either.Either.{Either}
use Rattle.shared_objects.specs.declared.either.Either.TheVariants.{Left, Right}
use Rattle.shared_objects.specs.declared.call.Call.{Call}
use Rattle.par_managers.specs.declared.turn.Turn.{Turn}
use Rattle.par_managers.specs.Taking.{MayCome}
use Rattle.world_state.specs.declared.state.State.{State}
use Rattle.world_state.specs.Outside.{Outside}

-- a call of a manager, whose turn may come at any time in a block
pub record MayAsk {K Q E X : Type 0} (outside : Outside K Q E X) (opening : State K Q E X) (first : ℕ) (call : Call Turn) : Type 0 where
  pub node : call.machine < first
  pub come : MayCome outside opening call.machine call.request.place call.request.job.now call.request.octets

module _ {K Q E X M N : Type 0} (opening_of : M → State K Q E X) (node_of : M → ℕ) (shares_in : M → List Shares) (side : N → LaneForm X) (shares_of : N → Shares)
    (opening : State K Q E X) (first : ℕ) (shares : List Shares) (machines : List (Either M N)) where
  -- the manager of a node is at its desk, as at the block's start
  pub record HasManager (v : ℕ) : Type 0 where
    pub desk : M
    pub there : slice_get machines v ≡ Some (Left desk)
    pub opens : opening_of desk ≡ opening
    pub node : node_of desk ≡ v
    pub shared : shares_in desk ≡ shares

  -- a lane is at its desk
  pub record HasLane (l : Lane) : Type 0 where
    pub desk : N
    pub there : slice_get machines (first + lane_place l) ≡ Some (Right desk)
    pub lane : (side desk).lane ≡ l

  -- First come the desks of the managers, in order of node, then those of the lanes, in order of place. Each is as at the block's start.
  pub record AreSeated : Type 0 where
    pub few : first < 2 ^ 32
    pub many : length machines ≡ first + length shares
    pub managers : (v : ℕ) → v < first → HasManager v
    pub lanes : (l : Lane) → is_lane (site_of opening.site) l ≡ true → HasLane l
    pub sides : (i : ℕ) (desk : N) → slice_get machines (first + i) ≡ Some (Right desk) → slice_get opening.lanes.items i ≡ Some (side desk)
    pub shared : (i : ℕ) (desk : N) → slice_get machines (first + i) ≡ Some (Right desk) → slice_get shares i ≡ Some (shares_of desk)

  module _ (outside : Outside K Q E X) where
    -- A worker has one entry for each of its jobs, and the turn of each entry may come at any time in the block. The worker has a share of each lane, and room
    -- for all replies.
    pub record MayWork (shift : List (Option (Call Turn))) (granted : List Share) (replies room : ℕ) (jobs : List ℕ) : Type 0 where
      pub seated : AreSeated
      pub entries : length shift ≡ length jobs
      pub coming : AllByRecursion (λ entry. IfSome entry (MayAsk outside opening first)) shift
      pub fits : AllZip Fits shares granted
      pub replies' : replies + length shift ≤ room
