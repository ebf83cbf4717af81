use Rattle.std.proofs.Common.{◌≡◌, ◌*◌, [], ◌∷◌, ◌++◌, drop, sym, ap, ◌∙◌, arith}
use Rattle.qkd_base.specs.declared.lane.Way.TheVariants.{Up, Down}
use Rattle.net_world.specs.Laid.{without_bytes}
use Rattle.net_world.proofs.Steps.{two_lanes_more, two_more, two_fewer, two_less, link_is}
use Rattle.net_world.proofs.state_layout.lay_lanes.Goals as goal

pub loop-number-preserved : goal.loop-number-preserved
loop-number-preserved g c =
    let n = c.loop-number.number in
    let link = c.unwrap-link.result in
    let up = c.lay_lane.ensures.lanes in
    let down = c.lay_lane-in-loop-number.ensures.lanes in
    let ws = c.args.wires.now.items in
    let ls = c.loop-number.lanes.items in
    let all = c.lay_lane-in-loop-number.new.lanes.items in
    let low = without_bytes (record { link = link; way = Up }) up.0 in
    let high = without_bytes (record { link = link; way = Down }) down.0 in
    let rest = c.lay_lane-in-loop-number.new.wires.items in
    let same : link ≡ n = link_is n 32 link c.new.result (omega arith) c.new.ensures c.unwrap-link.ensures in
    let is = down.2 ∙ ap (λ xs. xs ++ high ∷ []) up.2 in
    let next = sym c.loop-number.invariant.wires ∙ up.1 ∙ ap (λ xs. up.0 ∷ xs) down.1 in
    let sides = two_more ls all low high n c.loop-number.invariant.sides is in
    let wires = sym (two_fewer n ws up.0 down.0 rest next) in
    record {
      sides = sides;
      lanes = λ k below. two_lanes_more ls all ws link up.0 down.0 rest (omega (arith, same, c.loop-number.invariant.sides)) is (ap (λ m. drop (2 * m) ws) same ∙ next)
          (λ m less. c.loop-number.invariant.lanes m (omega (arith, same, less))) k (omega (arith, same, below));
      wires = wires;
      taken = omega (arith, sides, c.lay_lane-in-loop-number.new.lanes.ok.0);
      left = omega (arith, two_less c.loop-number.wires.items c.lay_lane.new.wires.items rest up.0 down.0 up.1 down.1, c.loop-number.wires.ok.0, c.lay_lane-in-loop-number.new.wires.ok.0, c.loop-number.invariant.left);
      lane_room = c.lay_lane-in-loop-number.ensures.lane_room ∙ c.lay_lane.ensures.lane_room ∙ c.loop-number.invariant.lane_room;
      wire_room = c.lay_lane-in-loop-number.ensures.wire_room ∙ c.lay_lane.ensures.wire_room ∙ c.loop-number.invariant.wire_room;
    }
