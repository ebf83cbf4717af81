use Rattle.std.proofs.Common.{ℕ, ◌≡◌, ◌-◌, ◌≤◌, [], get_or, subst, arith}
use Rattle.route_table.proofs.Layers.{IsUnderway, underway_first, underway_next, underway_last, next_of_walk}
use Rattle.route_table.proofs.route_table.RouteTable.first_walk.Goals as goal

pub loop-step-init : goal.loop-step-init
loop-step-init c =
    underway_first c.args.self.now c.args.up c.args.from c.args.to c.args.links
    ((c.requires.layers c.args.links c.requires.short).reached c.args.from c.requires.reached)

pub first_step-here-requires : goal.first_step-here-requires
first_step-here-requires c =
    let left : c.args.links - 1 - c.loop-step.step ≤ 8 = omega (arith, c.requires.short) in
    let has = c.loop-step.invariant.reached in
    next_of_walk c.args.self.now c.args.up c.loop-step.here c.args.to (c.args.links - 1 - c.loop-step.step) (get_or c.args.layers.now (c.args.links - 1 - c.loop-step.step) [])
    (c.requires.layers (c.args.links - 1 - c.loop-step.step) left)
    (record { walk = has.walk; walks = has.walks; long = omega (arith, has.long, c.loop-step-test.true) })

pub loop-step-preserved : goal.loop-step-preserved
loop-step-preserved c =
    let left : c.args.links - 1 - c.loop-step.step ≤ 8 = omega (arith, c.requires.short) in
    underway_next c.args.self.now c.args.up c.args.from c.args.to c.args.links c.loop-step.step c.loop-step.nodes c.loop-step.here c.first_step-here.result
    (get_or c.args.layers.now (c.args.links - 1 - c.loop-step.step) []) c.loop-step-test.true c.requires.short
    (c.requires.layers (c.args.links - 1 - c.loop-step.step) left) c.first_step-here.ensures c.loop-step.invariant

pub returns : goal.returns
returns c =
    let ended : c.loop-step.step ≡ c.args.links = omega (arith, c.loop-step-test.false, c.loop-step.auto.step-end) in
    underway_last c.args.self.now c.args.up c.args.from c.args.to c.args.links c.loop-step.nodes c.loop-step.here c.requires.short
    (subst (λ (k : ℕ). IsUnderway c.args.self.now c.args.up c.args.from c.args.to c.args.links k c.loop-step.nodes c.loop-step.here) ended c.loop-step.invariant)
