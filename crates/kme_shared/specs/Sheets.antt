-- What a manager's desk holds beside the manager when a block begins.
use Rattle.std.specs.Prelude.{◌≡◌, ℕ, true, List, slice_get, Some}
use Rattle.qkd_base.specs.Lane.{lane_place}
use Rattle.qkd_base.specs.declared.lane.Lane.{Lane}
use Rattle.net_model.specs.Site.{sender}
use Rattle.net_model.specs.Events.{is_lane}
use Rattle.declared_site.specs.SiteOf.{site_of}
use Rattle.world_state.specs.Passed.{Post}
use Rattle.lane_shares.specs.declared.share.Share.{Share}
use Rattle.lane_shares.specs.declared.shares.Shares.{Shares}
use Rattle.lane_sender.specs.Lane.{LaneForm}
use Rattle.par_lanes.specs.Emitting.{grant_at}
use Rattle.par_managers.specs.Issuing.{AreShares}
use Rattle.par_managers.specs.Opening.{IsOpened}
use Rattle.world_state.specs.declared.state.State.{State}

-- for each lane that leaves the node, the issuer is as it was opened
abbrev pub HasOpened : {K Q E X : Type 0} → State K Q E X → List Shares → (v : ℕ) → Post K E → List Share → Type 0
HasOpened {K} {Q} {E} {X} opening shares v post issuers = (l : Lane) (side : LaneForm X) (d : Shares) → is_lane (site_of opening.site) l ≡ true → sender (site_of opening.site) l ≡ v →
    slice_get opening.lanes.items (lane_place l) ≡ Some side → slice_get shares (lane_place l) ≡ Some d → IsOpened post side d (grant_at (lane_place l) issuers)

-- a manager's desk holds a share of each lane, and the state
pub record IsDealt {K Q E X : Type 0} (opening : State K Q E X) (shares : List Shares) (v : ℕ) (issuers : List Share) (kept : State K Q E X) : Type 0 where
  pub kept' : kept ≡ opening
  pub shared : AreShares shares issuers
  pub opened : (post : Post K E) → slice_get opening.posts.items v ≡ Some post → HasOpened opening shares v post issuers
