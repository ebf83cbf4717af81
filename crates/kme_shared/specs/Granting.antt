-- What a manager's reply wants put, and the lanes that carry it.
use Rattle.std.specs.Prelude.{◌≡◌, ℕ, ◌+◌, ◌^◌, ◌<◌, ◌≤◌, true, List, Some, slice_get}
use Rattle.std.specs.List.{AllZip, AllByRecursion}
use Rattle.qkd_base.specs.declared.lane.Lane.{Lane}
use Rattle.net_model.specs.declared.reply.Reply.{Reply}
use Rattle.net_model.specs.Site.{Site}
use Rattle.net_model.specs.Events.{is_lane}
use Rattle.net_model.specs.Action.{Replies}
use Rattle.run_model.specs.Works.{wanted_put}
use Rattle.lane_shares.specs.declared.share.Share.{Share}
use Rattle.lane_shares.specs.declared.shares.Shares.{Shares}
use Rattle.lane_shares.specs.Names.{Fits}
use Rattle.lane_sender.specs.Lane.{LaneForm}
use Rattle.shared_objects.specs.declared.either.Either.{Either}
use Rattle.par_lanes.specs.Wants.{turns_at, bytes_at}
use Rattle.par_lanes.specs.Saying.{IsDesk}
use Rattle.par_lanes.specs.Emitting.{grant_at, IsHome}
use Rattle.par_managers.specs.Wanted.{CanLeave}

-- What a reply wants put can leave the node, takes at most 2^21 turns of each lane, and uses only bytes that are granted.
pub record IsGranted (s : Site) (v : ℕ) (shares : List Shares) (reply : Reply) (granted : List Share) : Type 0 where
  pub can : AllByRecursion (CanLeave s v) (wanted_put (Replies reply))
  pub few : (i : ℕ) → turns_at i (wanted_put (Replies reply)) ≤ 2 ^ 21
  pub fits : AllZip Fits shares granted
  pub bytes : (i : ℕ) → bytes_at i (wanted_put (Replies reply)) ≤ (grant_at i granted).amount

-- Each lane of a site is at its desk. The lanes' desks come after the first machines, and the shares are those of the desks.
pub record AreHome {M D X : Type 0} (machines : List (Either M D)) (side : D → LaneForm X) (shares_of : D → Shares) (first : ℕ) (shares : List Shares) (s : Site) : Type 0 where
  pub few : first < 2 ^ 32
  pub lanes : (l : Lane) → is_lane s l ≡ true → IsHome machines side first l
  pub shared : (i : ℕ) (desk : D) → IsDesk machines (first + i) desk → slice_get shares i ≡ Some (shares_of desk)
