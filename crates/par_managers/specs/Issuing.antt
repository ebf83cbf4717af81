-- The issuers of the lanes that leave a node.
use Rattle.std.specs.Prelude.{◌≡◌, ℕ, ◌+◌, ◌≤◌, true, List, length, slice_get, Some}
use Rattle.qkd_base.specs.Lane.{lane_place}
use Rattle.qkd_base.specs.declared.lane.Lane.{Lane}
use Rattle.net_model.specs.Site.{Site, sender}
use Rattle.net_model.specs.Events.{is_lane}
use Rattle.world_state.specs.Passed.{Post}
use Rattle.lane_shares.specs.declared.share.Share.{Share}
use Rattle.lane_shares.specs.declared.shares.Shares.{Shares}
use Rattle.lane_shares.specs.declared.view.View.{View}
use Rattle.lane_shares.specs.Names.{lane_cap, Fits}
use Rattle.par_lanes.specs.Emitting.{grant_at}
use Rattle.par_managers.specs.Leases.{lease_at}
use Rattle.par_managers.specs.Posts.{is_on, planned_at, received_at}

-- The issuer has the bytes below the issued end, beginning at the planned end or before it. The issued end is at most the lease.
pub record IsIssuing (planned lease : ℕ) (v : View) : Type 0 where
  pub issues : v.issues ≡ true
  pub has : v.amount ≤ v.issued
  pub behind : v.issued ≤ planned + v.amount
  pub under : v.issued ≤ lease

-- a share of each lane, place by place
pub record AreShares (shares : List Shares) (rows : List Share) : Type 0 where
  pub sides : length rows ≡ length shares
  pub each : (i : ℕ) (d : Shares) (s : Share) → slice_get shares i ≡ Some d → slice_get rows i ≡ Some s → Fits d s

-- The manager has the issuer of each lane that leaves its node, if it is up. A lane's cap is at least the number of its received bytes.
pub record HasIssuers {K E : Type 0} (s : Site) (v : ℕ) (post : Post K E) (shares : List Shares) (issuers : List Share) : Type 0 where
  pub issuing : (l : Lane) → is_lane s l ≡ true → sender s l ≡ v → is_on post ≡ true → IsIssuing (planned_at post l) (lease_at post l) (grant_at (lane_place l) issuers)
  pub capped : (l : Lane) (d : Shares) → is_lane s l ≡ true → sender s l ≡ v → is_on post ≡ true → slice_get shares (lane_place l) ≡ Some d → received_at post l ≤ lane_cap d
