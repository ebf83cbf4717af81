use Rattle.law_parallel.proofs.FrameByFrame.{frame_by_frame}
use Rattle.law_parallel.proofs.lane_work_laws.law_in_order_is_lane_works.Goals as goal

pub returns : goal.returns
returns c = frame_by_frame
