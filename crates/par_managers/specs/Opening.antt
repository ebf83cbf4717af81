-- The shares of lanes at the beginning of a block.
use Rattle.std.specs.Prelude.{◌≡◌, ℕ, ◌-◌, true, List, [], ◌∷◌, slice_get, Option, Some, None, if◌then◌else◌}
use Rattle.net_model.specs.Site.{sender}
use Rattle.declared_site.specs.SiteOf.{site_of}
use Rattle.world_state.specs.Passed.{Post}
use Rattle.lane_shares.specs.declared.share.Share.{Share}
use Rattle.lane_shares.specs.declared.shares.Shares.{Shares}
use Rattle.lane_shares.specs.declared.view.View.{View}
use Rattle.lane_shares.specs.Names.{knows, lane_cap, Fits}
use Rattle.lane_shares.specs.Views.{issuer, with_amount}
use Rattle.lane_sender.specs.Lane.{LaneForm}
use Rattle.par_lanes.specs.Grants.{IsShareOf}
use Rattle.par_managers.specs.Leases.{lease_at}
use Rattle.world_state.specs.declared.state.State.{State}
use Rattle.par_managers.specs.Posts.{is_on}

-- As many bytes may be issued as were received. If the lane's sender is up, the bytes below the lease are issued, and the issuer has those that
-- aren't used.
pub record IsOpened {K E X : Type 0} (post : Post K E) (side : LaneForm X) (shares : Shares) (v : View) : Type 0 where
  pub cap : lane_cap shares ≡ side.ledger.received
  pub issued : is_on post ≡ true → v ≡ with_amount (issuer (lease_at post side.lane) (lease_at post side.lane) side.ledger.received) (lease_at post side.lane - side.ledger.used)

-- the number of a lane's issued bytes: those below the lease if its sender is up, and the used ones if it isn't

abbrev pub issued_by : {K E X : Type 0} → Post K E → LaneForm X → ℕ
issued_by post side = if is_on post then lease_at post side.lane else side.ledger.used

abbrev pub issued_from : {K E X : Type 0} → Option (Post K E) → LaneForm X → ℕ
issued_from None side = side.ledger.used
issued_from (Some post) side = issued_by post side

abbrev pub issued_in : {K Q E X : Type 0} → State K Q E X → LaneForm X → ℕ
issued_in s side = issued_from (slice_get s.posts.items (sender (site_of s.site) side.lane)) side

-- a lane's shares: its issuer, and a share of the used bytes
pub record AreOpened {X : Type 0} (issued : ℕ) (side : LaneForm X) (shares : Shares) (rest used : Share) : Type 0 where
  pub cap : lane_cap shares ≡ side.ledger.received
  pub fits : Fits shares rest
  pub issuer' : knows rest ≡ with_amount (issuer issued issued side.ledger.received) (issued - side.ledger.used)
  pub used' : IsShareOf shares side.ledger.used used

-- lane by lane
abbrev pub AllOpened : {K Q E X : Type 0} → State K Q E X → List (LaneForm X) → List Shares → (rests useds : List Share) → Type 0
AllOpened s [] [] [] [] = Unit {0}
AllOpened s (side ∷ sides) (d ∷ ds) (r ∷ rs) (u ∷ us) = AreOpened (issued_in s side) side d r u × AllOpened s sides ds rs us
AllOpened s _ _ _ _ = ⊥
