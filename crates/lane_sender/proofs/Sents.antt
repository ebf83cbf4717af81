-- The result of putting a frame on a wire includes the wire's answer.
use Rattle.std.proofs.Common.{◌≡◌, ℕ, refl, Result, Ok, Err}
use Rattle.qkd_base.specs.declared.frame_octets.FrameOctets.{FrameOctets}
use Rattle.source_devices.specs.declared.wire.WireFailed.{WireFailed}
use Rattle.lane_sender.specs.Sending.{sent, answer_of}

pub same_answer : (offset length : ℕ) (f : FrameOctets) (answer : Result ℕ WireFailed) → answer_of (sent offset length f answer) ≡ answer
same_answer offset length f (Ok number) = refl
same_answer offset length f (Err cause) = refl
