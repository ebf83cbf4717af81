use Rattle.std.proofs.Common.{◌≡◌, ◌∙◌, ℕ, ◌-◌, List, length, take, drop, ap, arith}
use Rattle.net_model.specs.Facts.{payload_len}
use Rattle.hop_frames.specs.Frame.{masked}
use Rattle.frame_codec.specs.Payload.{payload_octets}
use Rattle.net_world.specs.Veiled.{veiled_payload}
use Rattle.net_world.proofs.Opening.{frame_len, offset_read, payload_read}
use Rattle.net_world.proofs.unseal.unsealed.Goals as goal

pub offset_of-offset-requires : goal.offset_of-offset-requires
offset_of-offset-requires c =
    let r = c.requires in omega (arith, frame_len c.spelled_is_read.ensures.len r.0 c.args.bytes.now r.1 r.2 c.args.frame.now r.3)

pub overflow_sub-size : goal.overflow_sub-size
overflow_sub-size c =
    let r = c.requires in omega (arith, frame_len c.spelled_is_read.ensures.len r.0 c.args.bytes.now r.1 r.2 c.args.frame.now r.3)

pub part-octets-requires : goal.part-octets-requires
part-octets-requires c =
    let r = c.requires in omega (arith, frame_len c.spelled_is_read.ensures.len r.0 c.args.bytes.now r.1 r.2 c.args.frame.now r.3)

pub part-pads-requires : goal.part-pads-requires
part-pads-requires c =
    let r = c.requires in
    omega (
      arith,
      frame_len c.spelled_is_read.ensures.len r.0 c.args.bytes.now r.1 r.2 c.args.frame.now r.3,
      c.offset_of-offset.ensures,
      offset_read c.spelled_is_read.ensures.len r.0 c.args.bytes.now r.1 r.2 c.args.frame.now r.3,
      r.3.reach,
    )

pub veiled_octets-requires : goal.veiled_octets-requires
veiled_octets-requires c =
    let r = c.requires in
    let size = frame_len c.spelled_is_read.ensures.len r.0 c.args.bytes.now r.1 r.2 c.args.frame.now r.3 in
    let place : c.offset_of-offset.result ≡ r.1 = c.offset_of-offset.ensures ∙ offset_read c.spelled_is_read.ensures.len r.0 c.args.bytes.now r.1 r.2 c.args.frame.now r.3 in
    let few : length c.args.frame.now - 24 ≡ payload_len r.2 = omega (arith, size) in (
      r.2,
      r.3.formed,
      c.as_slice.ensures ∙ c.in_ok-old.ensures ∙ ap (λ (o : List ℕ). masked o c.part-pads.result.now) c.part-octets.ensures ∙ ap (λ (p : List ℕ). masked (take (length c.args.frame.now - 24) (drop 16 c.args.frame.now)) p) c.part-pads.ensures ∙
          payload_read c.spelled_is_read.ensures.len r.0 c.args.bytes.now r.1 r.2 c.args.frame.now r.3 (length c.args.frame.now - 24) c.offset_of-offset.result few place,
    )

pub returns : goal.returns
returns c l offset p h =
    let bytes : List ℕ = c.args.bytes.now in
    let frame : List ℕ = c.args.frame.now in
    let size = frame_len c.spelled_is_read.ensures.len l bytes offset p frame h in
    let place : c.offset_of-offset.result ≡ offset = c.offset_of-offset.ensures ∙ offset_read c.spelled_is_read.ensures.len l bytes offset p frame h in
    let few : length frame - 24 ≡ payload_len p = omega (arith, size) in
    let old : c.in_ok-old.old ≡ payload_octets p =
    c.in_ok-old.ensures ∙ ap (λ (o : List ℕ). masked o c.part-pads.result.now) c.part-octets.ensures ∙ ap (λ (p : List ℕ). masked (take (length c.args.frame.now - 24) (drop 16 c.args.frame.now)) p) c.part-pads.ensures ∙
    payload_read c.spelled_is_read.ensures.len l bytes offset p frame h (length frame - 24) c.offset_of-offset.result few place in
    let new : c.in_ok-new.new ≡ payload_octets (veiled_payload p) = c.in_ok-new.ensures p h.formed (c.as_slice.ensures ∙ old) in
    cc
