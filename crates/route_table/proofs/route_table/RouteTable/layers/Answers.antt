use Rattle.std.proofs.Common.{arith}
use Rattle.route_table.proofs.Layers.{layers_first, layers_next}
use Rattle.route_table.proofs.route_table.RouteTable.layers.Goals as goal

pub loop-links-init : goal.loop-links-init
loop-links-init c = layers_first c.args.self.now c.args.up c.args.to c.only-layers.result c.only-layers.ensures

pub loop-links-preserved : goal.loop-links-preserved
loop-links-preserved c =
    layers_next c.args.self.now c.args.up c.args.to c.loop-links.links c.loop-links.layers c.next_to.result c.loop-links-test.true c.loop-links.invariant c.next_to.ensures

pub returns : goal.returns
returns c links short = c.loop-links.invariant.each links (omega (arith, short, c.loop-links-test.false))
