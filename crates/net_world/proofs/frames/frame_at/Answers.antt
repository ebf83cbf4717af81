use Rattle.std.proofs.Common.{◌≡◌, ◌∙◌, ℕ, length, sym, ap, arith, Some}
use Rattle.std.specs.Prelude.{slice_get}
use Rattle.net_model.specs.Frames.{frame_octets}
use Rattle.net_world.proofs.Apart.{is_sent}
use Rattle.pad_veil.specs.declared.sealed_frame.SealedFrame.{SealedFrame}
use Rattle.net_world.proofs.Opening.{frame_sent, frame_veiled, seen_is, if_ok}
use Rattle.net_world.proofs.frames.frame_at.Goals as goal

pub unsealed-requires : goal.unsealed-requires
unsealed-requires g c =
    let r = c.requires.ready in
    let lane = c.args.side.now.lane in
    let seen = (c.in-Some.ensures.frame r.0 r.1 r.2 r.4).1 in
    let s = is_sent r.0 r.1 r.2.network r.2.conserved lane r.3 c.args.number seen.frame seen.stands in (
      lane,
      s.a.offset,
      s.p,
      frame_sent r.0 r.1 lane seen.frame c.bytes.result.now c.part.result.now r.2.sealing s (c.bytes.ensures ∙ r.4.bytes)
          (seen_is g.X.Wire r.0 r.1 c.args.side.now c.args.number c.in-Some.length c.frame.new.into.octets c.part.result.now r.4 seen c.part.ensures),
    )

pub returns-clause-frame : goal.returns-clause-frame
returns-clause-frame g c =
    if_ok _ _ c.unsealed.result
    (λ frame says net w j running at stands on.
    let lane = c.args.side.now.lane in
    let seen = (c.in-Some.ensures.frame net w running stands).1 in
    let both : ◌≡◌ (Some seen.frame) (Some j) = sym seen.stands ∙ on in
    let same : seen.frame ≡ j = cc in
    let s = is_sent net w running.network running.conserved lane at c.args.number j on in
    says lane s.a.offset s.p
    (frame_sent net w lane j c.bytes.result.now c.part.result.now running.sealing s (c.bytes.ensures ∙ stands.bytes)
    (seen_is g.X.Wire net w c.args.side.now c.args.number c.in-Some.length c.frame.new.into.octets c.part.result.now stands seen c.part.ensures ∙
    ap (λ (k : ℕ). frame_octets net w lane (slice_get (w.frames lane) k)) same)) ∙
    frame_veiled net w lane j s)
    c.unsealed.ensures

pub returns-clause-within : goal.returns-clause-within
returns-clause-within g c =
    let r = c.requires.ready in
    let lane = c.args.side.now.lane in
    let seen = (c.in-Some.ensures.frame r.0 r.1 r.2 r.4).1 in
    let s = is_sent r.0 r.1 r.2.network r.2.conserved lane r.3 c.args.number seen.frame seen.stands in
    let is = frame_sent r.0 r.1 lane seen.frame c.bytes.result.now c.part.result.now r.2.sealing s (c.bytes.ensures ∙ r.4.bytes)
    (seen_is g.X.Wire r.0 r.1 c.args.side.now c.args.number c.in-Some.length c.frame.new.into.octets c.part.result.now r.4 seen c.part.ensures) in
    if_ok _ _ c.unsealed.result
    (λ frame says.
    let at : frame.offset ≡ s.a.offset = ap (λ (f : SealedFrame). f.offset) (says lane s.a.offset s.p is) in
    omega (arith, at, is.reach, ap length c.bytes.ensures))
    c.unsealed.ensures
