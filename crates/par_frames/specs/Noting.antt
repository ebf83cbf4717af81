-- Each node notes what became of the frames of a block.
use Rattle.std.specs.Prelude.{◌≡◌, ℕ, true, List, [], map}
use Rattle.std.specs.List.{list_all, flat_map}
use Rattle.net_model.specs.World.{Network, World}
use Rattle.net_model.specs.Events.{is_lane}
use Rattle.net_model.specs.Step.{run}
use Rattle.net_model.specs.BlockOrder.{is_by_lane, completions}
use Rattle.run_model.specs.Block.{puts_on}
use Rattle.run_model.specs.Lines.{all_lanes}
use Rattle.run_ops.specs.Together.{frame_put, put_done}
use Rattle.run_ops.specs.declared.done_block.PutFrame.{PutFrame}
use Rattle.law_parallel.specs.Remaining.{Remains}
use Rattle.par_lanes.specs.declared.emitted.Emitted.{Emitted}
use Rattle.world_state.specs.Sending.{are_sized}
use Rattle.world_state.specs.Stands.{Stands}
use Rattle.world_state.specs.declared.state.State.{State}
use Rattle.world_state.specs.Tallied.{Tallied}
use Rattle.par_frames.specs.Frames.{frame_done, frame_placing, from_node}
use Rattle.world_state.specs.Outside.{Outside}

-- No frame is on its way to a wire. The frames `put` are in order of lane, and they are exactly what the nodes have to note.
pub record MayNoteFrames {K Q E X : Type 0} (outside : Outside K Q E X) (s : State K Q E X) (net : Network) (w : World) (put : List Emitted) : Type 0 where
  pub stands : Stands outside s net w
  pub remains : Remains net w []
  pub lanes : list_all (λ (e : Emitted). is_lane net.site e.lane) put ≡ true
  pub order : is_by_lane (map (λ (e : Emitted). e.lane) put) ≡ true
  pub notes : (v : ℕ) → w.placings v ≡ map frame_placing (from_node net.site v put)
  pub sized : (v : ℕ) → are_sized (w.placings v) ≡ true

-- every node has noted its frames, and the report lists them in the order of a block
pub record NotesFrames {K Q E X : Type 0} (outside : Outside K Q E X)
    (old new : State K Q E X) (net : Network) (w : World) (put : List Emitted) (reported : List PutFrame) : Type 0 where
  pub reports : map frame_put reported ≡ map put_done (flat_map (puts_on (map frame_done put)) (all_lanes net.site))
  pub stands : Stands outside new net (run net w (completions net))
  pub tallied : Tallied outside old new net.site (completions net)
