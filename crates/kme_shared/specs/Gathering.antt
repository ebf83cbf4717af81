-- The gathered results of a block's workers.
use Rattle.std.specs.Prelude.{◌≡◌, true, List, map}
use Rattle.std.specs.List.{AllByRecursion, flat_map}
use Rattle.std.specs.List.Sorted.{IsPermutation}
use Rattle.qkd_base.specs.Lane.{lane_place}
use Rattle.par_lanes.specs.declared.emitted.Emitted.{Emitted}
use Rattle.par_frames.specs.Sorting.{IsSortedByBoth}
use Rattle.par_managers.specs.declared.keep.Replied.{Replied}
use Rattle.par_managers.specs.declared.keep.Keep.{Keep}
use Rattle.par_frames.specs.declared.worked.Worked.{Worked}

-- All replies are in order of node, and those of a node in the order of its manager's turns. If `is_whole` is true, each worker kept all its frames, and all
-- frames are in order of lane, and those of a lane in the order of the lane's turns.
pub record AreGathered (keeps : List Keep) (worked : Worked) : Type 0 where
  pub replied : List Replied
  pub turns : worked.turns.items ≡ map (λ (r : Replied). r.turned) replied
  pub replies : IsPermutation (flat_map (λ (keep : Keep). keep.replies.items) keeps) replied
  pub order : IsSortedByBoth (λ (r : Replied). r.node) (λ (r : Replied). r.at) replied
  pub whole : worked.is_whole ≡ true → AllByRecursion (λ (keep : Keep). keep.log.is_whole ≡ true) keeps
  pub frames : worked.is_whole ≡ true → IsPermutation (flat_map (λ (keep : Keep). keep.log.frames.items) keeps) worked.frames.items
  pub lanes : worked.is_whole ≡ true → IsSortedByBoth (λ (e : Emitted). lane_place e.lane) (λ (e : Emitted). e.at) worked.frames.items
