-- Shares of the bytes that were issued on a lane.
use Rattle.std.specs.Prelude.{◌≡◌, ℕ, false}
use Rattle.lane_shares.specs.declared.share.Share.{Share}
use Rattle.lane_shares.specs.declared.shares.Shares.{Shares}
use Rattle.lane_shares.specs.Names.{knows, Fits}

-- The share has this many bytes, and its holder can't issue any. All shares together have at most the issued bytes.
pub record IsShareOf (shares : Shares) (amount : ℕ) (share : Share) : Type 0 where
  pub fits : Fits shares share
  pub plain : (knows share).issues ≡ false
  pub has : (knows share).amount ≡ amount
