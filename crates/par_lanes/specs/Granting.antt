-- Granting the bytes that a plan's orders take.
use Rattle.std.specs.Prelude.{◌≡◌, ℕ, ◌+◌, ◌-◌, ◌<◌, ◌≤◌, true, List, map, length, slice_index_or}
use Rattle.std.specs.List.{AllZip, AllByRecursion}
use Rattle.qkd_base.specs.Lane.{lane_place}
use Rattle.net_model.specs.declared.order.Order.{Order}
use Rattle.net_model.specs.Facts.{IsWellFormed}
use Rattle.net_model.specs.Tick.{New}
use Rattle.lane_shares.specs.declared.share.Share.{Share}
use Rattle.lane_shares.specs.declared.shares.Shares.{Shares}
use Rattle.lane_shares.specs.declared.view.View.{View}
use Rattle.lane_shares.specs.Names.{lane_cap, Fits}
use Rattle.lane_shares.specs.Views.{issuer_with, with_amount}
use Rattle.par_lanes.specs.Wants.{bytes_at}
use Rattle.par_lanes.specs.Emitting.{grant_at}

-- the issuer, after it has issued bytes up to the lease
abbrev pub raised : (lease : ℕ) → View → View
raised lease v = issuer_with v (lease - v.issued)

-- The issuer has the bytes from the planned end up to the issued end, which is at most the lease.
pub record Issues (lease planned : ℕ) (v : View) : Type 0 where
  pub issues : v.issues ≡ true
  pub rest : planned + v.amount ≡ v.issued
  pub under : v.issued ≤ lease

abbrev pub lease_at : ℕ → List ℕ → ℕ
lease_at i leases = slice_index_or leases i 0

-- the bytes that orders take on the lane at a place
abbrev pub need_at : ℕ → List Order → ℕ
need_at i orders = bytes_at i (map New orders)

-- On the lane at this place, the issuer has the bytes after the planned end, and the orders' bytes lie below the lease.
pub record IsLeased (i : ℕ) (leases : List ℕ) (issuers : List Share) (orders : List Order) : Type 0 where
  pub planned : ℕ
  pub issues : Issues (lease_at i leases) planned (grant_at i issuers)
  pub under : planned + need_at i orders ≤ lease_at i leases

-- The bytes of the orders may be granted: each lane that they use has its issuer and its lease, and their bytes lie below it.
pub record MayGrant (shares : List Shares) (leases : List ℕ) (issuers granted : List Share) (orders : List Order) : Type 0 where
  pub issuing : AllZip Fits shares issuers
  pub fits : AllZip Fits shares granted
  pub capped : AllZip (λ s lease. lease ≤ lane_cap s) shares leases
  pub each : AllByRecursion (λ (o : Order). (lane_place o.lane < length shares) × IsWellFormed o.payload) orders
  pub leased : (i : ℕ) → 0 < need_at i orders → IsLeased i leases issuers orders

-- The bytes of the orders were granted. On each lane, the issuer has the bytes after the new planned end, and the grant has grown by the orders'
-- bytes. A lane without orders stays as it was.
pub record HasGranted (leases : List ℕ) (orders : List Order) (issuers granted issuers' granted' : List Share) : Type 0 where
  pub issuing : (i planned : ℕ) → Issues (lease_at i leases) planned (grant_at i issuers) → planned + need_at i orders ≤ lease_at i leases →
      Issues (lease_at i leases) (planned + need_at i orders) (grant_at i issuers')
  pub idle : (i : ℕ) → need_at i orders ≡ 0 → grant_at i issuers' ≡ grant_at i issuers
  pub more : (i : ℕ) → grant_at i granted' ≡ with_amount (grant_at i granted) ((grant_at i granted).amount + need_at i orders)
