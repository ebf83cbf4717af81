use Rattle.std.proofs.Common.{◌≡◌, ◌++◌, length, ap, ◌∙◌, arith}
use Rattle.net_model.specs.Facts.{payload_len}
use Rattle.frame_codec.specs.Payload.{payload_octets}
use Rattle.hop_frames.specs.Sealing.{answer_of}
use Rattle.hop_frames.proofs.Rejections.{rejects}
use Rattle.hop_frames.proofs.Octets.{payload_is, frame_below}
use Rattle.hop_frames.proofs.laws.frames_of_a_network.Goals as goal

pub returns : goal.returns
returns c = record {
  size = λ l bytes offset p x. c.sealed_is_opened.ensures.len l bytes offset p ∙ omega arith;
  octets = λ l bytes offset p x. frame_below l bytes offset p x.link x.octets x.ranged;
  longer = λ l bytes more offset p x.
      let len : length (payload_octets p) ≡ payload_len p = c.spelled_is_read.ensures.len p in
      c.prefix_of_a_lane.ensures l offset bytes more (payload_octets p) (omega (arith, len, x.reach));
  opens = λ l bytes offset p x. ap answer_of (c.sealed_is_opened.ensures.opened l bytes offset p (payload_is p x.formed x.ranged) x.start x.reach x.size);
  too_few = λ l bytes more offset p x few.
      ap answer_of (c.sealed_is_opened.ensures.too_few l bytes (bytes ++ more) offset p (payload_is p x.formed x.ranged) x.start (omega (arith, x.reach, x.size)) few);
  rejects = λ l bytes octets reply e. rejects l bytes octets reply e;
}
