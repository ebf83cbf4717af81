-- What a worker holds before its first job.
use Rattle.std.specs.Prelude.{◌≡◌, ◌≤◌, true, List, [], length, vec_capacity}
use Rattle.std.specs.List.{AllZip}
use Rattle.lane_shares.specs.declared.shares.Shares.{Shares}
use Rattle.par_lanes.specs.Grants.{IsShareOf}
use Rattle.par_managers.specs.declared.keep.Keep.{Keep}

-- a worker holds a share of each lane with no bytes, room for a reply to each entry of its shift, and no reply or frame yet
pub record IsFresh (shares : List Shares) (keep : Keep) : Type 0 where
  pub granted : AllZip (λ d share. IsShareOf d 0 share) shares keep.granted.items
  pub replies : keep.replies.items ≡ []
  pub room : length keep.shift.items ≤ vec_capacity keep.replies
  pub whole : keep.log.is_whole ≡ true
  pub frames : keep.log.frames.items ≡ []
