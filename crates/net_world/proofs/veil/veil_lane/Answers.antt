use Rattle.std.proofs.Common.{◌≡◌, ◌∙◌, ℕ, List, length, sym, subst}
use Rattle.pad_veil.specs.declared.sealed_frame.SealedFrame.{SealedFrame}
use Rattle.pad_veil.specs.Faults.{LieApart}
use Rattle.net_model.specs.Frames.{octets_sent}
use Rattle.net_world.specs.Other.{sealed_on}
use Rattle.net_world.specs.Veiled.{veiled_facts}
use Rattle.net_world.proofs.veil.veil_lane.Goals as goal

pub veil_of-requires : goal.veil_of-requires
veil_of-requires g c =
    let r = c.requires.ready in
    let net = r.0 in
    let w = r.1 in
    let apart = c.law_sent_lie_apart.ensures.apart net w (veiled_facts w) c.args.side.now.lane r.2.network r.2.conserved r.3 (c.law_veiled_differ_in_bytes.ensures w) in
    let bytes : c.bytes-bytes.result.now ≡ octets_sent net w c.args.side.now.lane = c.bytes-bytes.ensures ∙ r.4.bytes in
    let frames : c.in_ok-frames.frames ≡ sealed_on w (veiled_facts w) c.args.side.now.lane = c.in_ok-frames.ensures.frames net w r.2 r.3 r.4 in
    subst (λ (fs : List SealedFrame). LieApart (length c.bytes-bytes.result.now) fs) (sym frames)
    (subst (λ (b : List ℕ). LieApart (length b) (sealed_on w (veiled_facts w) c.args.side.now.lane)) (sym bytes) apart)
