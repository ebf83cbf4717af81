-- A worker that may send its next frame.
use Rattle.std.proofs.Common.{◌≡◌, ℕ, ◌+◌, ◌<◌, ◌≤◌, true, List, ◌∷◌, length, set, get_or, slice_get, Some, sym, ap, subst, ◌∙◌, arith}
use Rattle.std.specs.List.{AllZip}
use Rattle.std.proofs.lemmas.Option.{slice_get_within, slice_get-get_or}
use Rattle.qkd_base.specs.Lane.{lane_place}
use Rattle.net_model.specs.Tick.{Emission, Again, New}
use Rattle.shared_objects.specs.declared.either.Either.{Either}
use Rattle.shared_objects.specs.declared.either.Either.TheVariants.{Right}
use Rattle.shared_objects.proofs.Zips.{zip_at, zip_set, zip_same, was_at, same_item}
use Rattle.lane_shares.specs.declared.share.Share.{Share}
use Rattle.lane_shares.specs.declared.shares.Shares.{Shares}
use Rattle.lane_shares.specs.declared.view.View.{View}
use Rattle.lane_shares.specs.Names.{knows as has, Fits as IsOne}
use Rattle.lane_shares.specs.Views.{spent}
use Rattle.lane_sender.specs.Lane.{LaneForm}
use Rattle.par_lanes.specs.Wants.{lane_for, is_at, turns_for, bytes_for}
use Rattle.par_lanes.specs.Saying.{IsDesk}
use Rattle.par_lanes.specs.Emitting.{IsHome, CanGo, MayEmit}
use Rattle.par_lanes.proofs.Wanting.{is_here, sum_here}

module _ {M D X : Type 0} {machines : List (Either M D)} {side : D → LaneForm X} {first : ℕ} {budget : ℕ → ℕ} {shares_of : D → Shares} {shares : List Shares} {granted : List Share} {e : Emission} {es : List Emission}
    (may : MayEmit machines side first budget shares_of shares granted (e ∷ es)) where
  home_of : (x : Emission) → CanGo machines side first x → IsHome machines side first (lane_for x)
  home_of (Again r) can = can.0
  home_of (New o) can = can.0

  module _ (k : ℕ) (home : k ≡ lane_place (lane_for e)) where
    -- The desk of the frame's lane is there, with the lane's shares.
    pub its_desk : (d : D) × IsDesk machines (first + k) d × ((side d).lane ≡ lane_for e)
    its_desk = let h = home_of e may.each.0 in (h.0, ap (λ (n : ℕ). slice_get machines (first + n)) home ∙ h.1, h.2)

    pub in_machines : first + k < length machines
    in_machines = slice_get_within machines (first + k) (Right its_desk.0) its_desk.1

    its_shares : slice_get shares k ≡ Some (shares_of its_desk.0)
    its_shares = may.shared k its_desk.0 its_desk.1

    -- The frame's lane has its place in each list.

    pub in_shares : k < length shares
    in_shares = slice_get_within shares k (shares_of its_desk.0) its_shares

    pub in_granted : k < length granted
    in_granted = let l = in_shares in let same = zip_same IsOne shares granted may.fits in omega (arith, l, same)

    pub shares_at : (s : Shares) → slice_get shares k ≡ Some (get_or shares k s)
    shares_at s = slice_get-get_or shares k s in_shares

    pub granted_at : (s : Share) → slice_get granted k ≡ Some (get_or granted k s)
    granted_at s = slice_get-get_or granted k s in_granted

    pub shares_are : (s : Shares) → shares_of its_desk.0 ≡ get_or shares k s
    shares_are s = same_item (slice_get shares k) (shares_of its_desk.0) (get_or shares k s) its_shares (shares_at s)

    pub may_call : turns_for e ≤ budget (first + k)
    may_call =
        let enough = may.turns k in_machines in
        let sum = sum_here turns_for k e es (subst (λ (n : ℕ). is_at n e ≡ true) (sym home) (is_here e)) in
        omega (arith, enough, sum)

    module _ (s : Share) where
      pub grant_is_one : (d : Shares) → IsOne (get_or shares k d) (get_or granted k s)
      grant_is_one d = zip_at IsOne shares granted k (get_or shares k d) (get_or granted k s) may.fits (shares_at d) (granted_at s)

      pub grant_reaches : bytes_for e ≤ (has (get_or granted k s)).amount
      grant_reaches =
          let enough = may.bytes k in_granted in
          let sum = sum_here bytes_for k e es (subst (λ (n : ℕ). is_at n e ≡ true) (sym home) (is_here e)) in
          let was = ap (λ (v : View). v.amount) (was_at has spent granted k (get_or granted k s) (granted_at s)) in
          omega (arith, enough, sum, was)

    pub fits_on : (s : Shares) (r : Share) → IsOne (get_or shares k s) r → AllZip IsOne shares (set granted k r)
    fits_on s r one = zip_set IsOne shares granted k r may.fits (λ u at. subst (λ (v : Shares). IsOne v r) (same_item (slice_get shares k) (get_or shares k s) u (shares_at s) at) one)
