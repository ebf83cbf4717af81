use Rattle.std.proofs.Common.{◌≡◌, sym, ◌∙◌, subst, ap, arith, length, drop}
use Rattle.std.proofs.lemmas.List.{length-take}
use Rattle.frame_codec.specs.Reading.{Reads, payload_of}
use Rattle.qkd_base.specs.LaneBytes.{lane_octets}
use Rattle.hop_frames.proofs.Masks.{masked_part, masked_swap}
use Rattle.hop_frames.proofs.frame_open.read_in.Goals as goal

pub returns : goal.returns
returns c =
    let long : length c.args.octets.now ≡ length c.lane_part.new.into = omega (arith, length-take (length c.args.octets.now) c.args.room.now, c.requires.room, c.lane_part.auto.into) in
    subst (λ m. Reads c.read.result (payload_of m))
    (c.mask_all.ensures ∙ sym (masked_swap c.args.octets.now c.lane_part.new.into long)
    ∙ masked_part c.args.octets.now c.lane_part.new.into (drop c.args.offset (lane_octets c.args.way c.args.held.now.blocks)) _ c.lane_part.ensures (omega (arith, length-take (length c.args.octets.now) c.args.room.now)))
    c.read.ensures.exact
