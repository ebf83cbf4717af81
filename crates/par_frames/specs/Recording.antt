-- The record of what became of frames.
use Rattle.std.specs.Prelude.{◌≡◌, ℕ, List, length, map, slice_get, Some}
use Rattle.std.specs.List.{flat_map}
use Rattle.net_model.specs.declared.placing.Placing.{Placing}
use Rattle.net_model.specs.Site.{Site, sender}
use Rattle.run_model.specs.Block.{puts_on}
use Rattle.run_model.specs.Lines.{all_lanes}
use Rattle.run_ops.specs.Together.{frame_put, put_done}
use Rattle.par_lanes.specs.declared.emitted.Emitted.{Emitted}
use Rattle.par_frames.specs.declared.log.Log.{Log}
use Rattle.par_frames.specs.declared.log.Refused.{Refused}
use Rattle.par_frames.specs.Adding.{IsAdded}
use Rattle.par_frames.specs.FrameRecording.{put_as}
use Rattle.par_frames.specs.Frames.{frame_done, frame_placing, from_node}

-- the log has one frame more, and the sender of the frame's lane is to note it
pub record AddsFrame (s : Site) (e : Emitted) (old new : Log) : Type 0 where
  pub refused : Refused
  pub is : put_as e.lane (frame_done e).took refused ≡ frame_done e
  pub added : IsAdded (sender s e.lane) (frame_placing e) (frame_done e).took refused old new

-- the log has what a block reports of all the frames, and what each node is to note
pub record AreRecorded (s : Site) (frames : List Emitted) (log : Log) : Type 0 where
  pub reports : map frame_put log.frames.items ≡ map put_done (flat_map (puts_on (map frame_done frames)) (all_lanes s))
  pub nodes : length log.placings.items ≡ s.nodes
  pub notes : (v : ℕ) (xs : List Placing) → slice_get log.placings.items v ≡ Some xs → xs ≡ map frame_placing (from_node s v frames)
