use Rattle.std.proofs.Common.{arith, ◌≡◌, ℕ, drop, List, ap, ◌∙◌}
use Rattle.frame_codec.specs.Payload.{payload_octets}
use Rattle.hop_frames.specs.Frame.{spell}
use Rattle.pad_ledger.specs.Ledger.{Range}
use Rattle.lane_sender.specs.Lane.{LaneForm, next_frame}
use Rattle.lane_sender.specs.Sending.{sent}
use Rattle.lane_sender.proofs.Rooms.{is_sent}
use Rattle.lane_sender.proofs.lane_side.LaneSide.emit.Goals as goal

pub returns-clause-sent : goal.returns-clause-sent
returns-clause-sent g c =
    let payload = payload_octets c.args.order.now.payload in
    let inside = c.self.inside in
    let start : c.in-Ok.range.start ≡ inside.ledger.used = ap (λ (r : Range). r.start) c.in-Ok.ensures.claimed.0 in
    let front = c.seal_at-length.ensures.frame
    ∙ ap (λ (bytes : List ℕ). spell inside.lane c.in-Ok.range.start bytes payload) c.deref.ensures.value
    ∙ ap (λ (o : ℕ). spell inside.lane o inside.bytes.items payload) start
    ∙ ap (λ (s : LaneForm _). next_frame s c.args.order.now.payload) c.self.view_is in
    let rest = c.seal_at-length.ensures.rest ∙ ap (λ (octets : List ℕ). drop c.seal_at-length.result octets) c.new-frame.ensures in
    let range = c.seal_at-length.ensures.range in
    is_sent c.seal_at-length.new.into (next_frame c.args.self.now c.args.order.now.payload) c.seal_at-length.result front rest (omega (arith, range)) c.answered.result c.args.self.now.ledger.used c.put-answer.result
    (c.answered.ensures ∙ ap (λ (o : ℕ). sent o c.seal_at-length.result c.seal_at-length.new.into c.put-answer.result) (c.start-offset.ensures.start ∙ start ∙ ap (λ (s : LaneForm _). s.ledger.used) c.self.view_is))
