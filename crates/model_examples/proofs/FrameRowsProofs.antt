use Rattle.std.proofs.Common.{refl}
use Rattle.model_examples.specs.FrameRows.{Tampered, ForgedFrames, Blocks, FrameRefusals}
use Rattle.model_examples.proofs.Opened.{opened}

pub tampered : Tampered
unfolding opened
tampered = refl

pub forged_frames : ForgedFrames
unfolding opened
forged_frames = refl

pub blocks : Blocks
unfolding opened
blocks = refl

pub frame_refusals : FrameRefusals
unfolding opened
frame_refusals = refl
