use Rattle.std.proofs.Common.{◌≡◌, sym, ap, ◌∙◌, arith, length}
use Rattle.route_table.specs.Table.{Table}
use Rattle.route_table.proofs.Layers.{all_crossed, crossed}
use Rattle.route_table.proofs.route_table.RouteTable.next_to.Goals as goal

pub returns : goal.returns
returns c =
    let whole : c.loop-link.link ≡ 32 = omega (arith, c.loop-link-test.false, c.loop-link.auto.link-end) in
    all_crossed c.args.self.now c.args.up c.args.near.now c.loop-link.far
    (ap (λ (t : Table). length t) (sym c.self.view_is) ∙ c.self.invariant.places)
    (λ v. c.loop-link.invariant v ∙ ap (crossed c.args.self.now c.args.up c.args.near.now v) whole)
