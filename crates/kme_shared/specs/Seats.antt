-- The desks of managers and lanes.
use Rattle.std.specs.Prelude.{◌≡◌, ℕ, List, [], ◌∷◌, ◌++◌, map, reverse, length, drop, slice_get, Some}
use Rattle.std.specs.List.{AllByRecursion}
use Rattle.net_model.specs.Site.{count_up}
use Rattle.world_state.specs.Passed.{Post}
use Rattle.lane_shares.specs.declared.share.Share.{Share}
use Rattle.lane_shares.specs.declared.shares.Shares.{Shares}
use Rattle.lane_shares.specs.Names.{lane_cap}
use Rattle.lane_sender.specs.Lane.{LaneForm}
use Rattle.par_lanes.specs.Grants.{IsShareOf}
use Rattle.shared_objects.specs.declared.either.Either.{Either}
use Rattle.shared_objects.specs.declared.either.Either.TheVariants.{Left, Right}
use Rattle.world_state.specs.declared.state.State.{State}

-- the items of one variant, in their order

abbrev pub lefts : {A B : Type 0} → List (Either A B) → List A
lefts [] = []
lefts (Left a ∷ xs) = a ∷ lefts xs
lefts (Right b ∷ xs) = lefts xs

abbrev pub rights : {A B : Type 0} → List (Either A B) → List B
rights [] = []
rights (Left a ∷ xs) = rights xs
rights (Right b ∷ xs) = b ∷ rights xs

-- The lane may issue as many bytes as it has received, and the share has as many as are used.
pub record IsUsed {X : Type 0} (side : LaneForm X) (d : Shares) (share : Share) : Type 0 where
  pub owned : IsShareOf d side.ledger.used share
  pub cap : lane_cap d ≡ side.ledger.received

abbrev pub AreUsed : {X : Type 0} → List (LaneForm X) → List Shares → List Share → Type 0
AreUsed {X} lanes shares used = (i : ℕ) (side : LaneForm X) (d : Shares) (share : Share) → slice_get lanes i ≡ Some side → slice_get shares i ≡ Some d → slice_get used i ≡ Some share → IsUsed side d share

module _ {K Q E X D : Type 0} (opening_of : D → State K Q E X) (node_of up_of : D → ℕ) (post_of : D → Post K E) (shares_in : D → List Shares) (opening : State K Q E X) (shares : List Shares) where
  -- a manager's desk is as at the block's start
  pub record IsAtStart (d : D) : Type 0 where
    pub opens : opening_of d ≡ opening
    pub links : up_of d ≡ opening.up
    pub shared : shares_in d ≡ shares

  -- The last managers have been given desks, which come after the earlier machines, the last one first. The other managers are left.
  pub record SitManagers {L : Type 0} (all : List (Post K E)) (before : List (Either D L)) (left : List (Post K E)) (after : List (Either D L)) : Type 0 where
    pub desks : List D
    pub are : after ≡ before ++ reverse (map Left desks)
    pub posts : left ++ map post_of desks ≡ all
    pub nodes : count_up (length left) ++ map node_of desks ≡ count_up (length all)
    pub each : AllByRecursion IsAtStart desks

-- The last lanes have been given desks, which come after the earlier machines, the last one first. The other lanes are left.
pub record SitLanes {X D L : Type 0} (side_of : L → LaneForm X) (shares_of : L → Shares) (shares : List Shares) (all : List (LaneForm X)) (before : List (Either D L)) (left : List (LaneForm X)) (after : List (Either D L)) :
    Type 0 where
  pub desks : List L
  pub are : after ≡ before ++ reverse (map Right desks)
  pub sides : left ++ map side_of desks ≡ all
  pub shared : map shares_of desks ≡ drop (length left) shares

-- The machines are first the managers' desks in order of node, then the lanes' desks in order of place, all as at the block's start.
pub record HaveSat {K Q E X D L : Type 0} (opening_of : D → State K Q E X) (node_of up_of : D → ℕ) (post_of : D → Post K E) (shares_in : D → List Shares) (side_of : L → LaneForm X) (shares_of : L → Shares)
    (opening : State K Q E X) (shares : List Shares) (machines : List (Either D L)) : Type 0 where
  pub managers : List D
  pub lanes : List L
  pub are : machines ≡ map Left managers ++ map Right lanes
  pub posts : map post_of managers ≡ opening.posts.items
  pub nodes : map node_of managers ≡ count_up (length opening.posts.items)
  pub each : AllByRecursion (IsAtStart opening_of node_of up_of post_of shares_in opening shares) managers
  pub sides : map side_of lanes ≡ opening.lanes.items
  pub shared : map shares_of lanes ≡ shares
