-- Managers and lanes go to their desks, and leave them.
use Rattle.std.specs.Prelude.{◌≡◌, ℕ, ◌+◌, ◌<◌, List, length, slice_get, Some}
use Rattle.world_state.specs.Passed.{Post}
use Rattle.lane_sender.specs.Lane.{LaneForm}
use Rattle.shared_objects.specs.declared.either.Either.{Either}
use Rattle.shared_objects.specs.declared.either.Either.TheVariants.{Left, Right}
use Rattle.world_state.specs.declared.state.State.{State}

module _ {K Q E X D L : Type 0} (opening_of : D → State K Q E X) (node_of up_of : D → ℕ) (post_of : D → Post K E) (side_of : L → LaneForm X) (opening : State K Q E X) where
  -- the manager of a node is at its desk when a block begins, with the links that are up
  pub record HasSat (machines : List (Either D L)) (v : ℕ) (post : Post K E) : Type 0 where
    pub desk : D
    pub there : slice_get machines v ≡ Some (Left desk)
    pub opens : opening_of desk ≡ opening
    pub node : node_of desk ≡ v
    pub up : up_of desk ≡ opening.up
    pub is : post_of desk ≡ post

  -- a lane is at its desk when a block begins
  pub record HasSatDown (machines : List (Either D L)) (machine : ℕ) (side : LaneForm X) : Type 0 where
    pub desk : L
    pub there : slice_get machines machine ≡ Some (Right desk)
    pub is : side_of desk ≡ side

  -- When a block begins all are at their desks: first the managers in order of node, then the lanes in order of place.
  pub record AreSat (machines : List (Either D L)) : Type 0 where
    pub managers : (v : ℕ) (post : Post K E) → slice_get opening.posts.items v ≡ Some post → HasSat machines v post
    pub lanes : (i : ℕ) (side : LaneForm X) → slice_get opening.lanes.items i ≡ Some side → HasSatDown machines (length opening.posts.items + i) side

  -- When the block ends they leave their desks. Everything else of the state is as it was.
  pub record HaveRisen (machines : List (Either D L)) (new : State K Q E X) : Type 0 where
    pub site : new.site ≡ opening.site
    pub devices : new.devices.items ≡ opening.devices.items
    pub links : new.up ≡ opening.up
    pub nodes : length new.posts.items ≡ length opening.posts.items
    pub sides : length new.lanes.items ≡ length opening.lanes.items
    pub posts : (v : ℕ) (desk : D) → v < length opening.posts.items → slice_get machines v ≡ Some (Left desk) → slice_get new.posts.items v ≡ Some (post_of desk)
    pub lanes : (i : ℕ) (desk : L) → slice_get machines (length opening.posts.items + i) ≡ Some (Right desk) → slice_get new.lanes.items i ≡ Some (side_of desk)
