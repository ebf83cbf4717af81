use Rattle.model_examples.proofs.FrameRowsProofs.{tampered, forged_frames, blocks, frame_refusals}
use Rattle.model_examples.proofs.rows.frame_rows.Goals as goal

pub returns-clause-tampered : goal.returns-clause-tampered
returns-clause-tampered c = tampered

pub returns-clause-forged_frames : goal.returns-clause-forged_frames
returns-clause-forged_frames c = forged_frames

pub returns-clause-blocks : goal.returns-clause-blocks
returns-clause-blocks c = blocks

pub returns-clause-frame_refusals : goal.returns-clause-frame_refusals
returns-clause-frame_refusals c = frame_refusals
