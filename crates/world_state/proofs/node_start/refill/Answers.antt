use Rattle.std.proofs.Common.{◌≡◌, ◌+◌, ◌*◌, true, length, take, drop, sym, ap, ◌∙◌}
use Rattle.std.specs.Prelude.{nat_le}
use Rattle.world_state.specs.Starting.{octets_in}
use Rattle.world_state.proofs.Refilling.{same_lane, filled_more}
use Rattle.world_state.proofs.node_start.refill.Goals as goal

pub loop-number-preserved : goal.loop-number-preserved
loop-number-preserved g c =
    let octets = octets_in c.args.manager.now.view c.args.side.now.lane in
    let at : octets_in c.args.manager.now.view c.lane.result ≡ octets =
    ap (octets_in c.args.manager.now.view) (c.lane.ensures ∙ same_lane octets c.args.side.now c.requires.may c.loop-number.number c.loop-number.side c.loop-number.invariant) in
    let yes : c.lane_block.result ≡ true = c.if-not-lane_block.false in
    let has = sym (c.lane_block.ensures.has ∙ ap (λ bytes. nat_le (1024 * c.loop-number.number + 1024) (length bytes)) at) ∙ yes in
    filled_more octets c.args.side.now c.requires.may c.loop-number.number c.loop-number.side c.loop-number.invariant has c.lane_block.new.into
    (c.lane_block.ensures.block yes ∙ ap (λ bytes. take 1024 (drop (1024 * c.loop-number.number) bytes)) at) c.take.new.self c.in_ok-take.ensures.ok
