use Rattle.std.proofs.Common.{◌≡◌, ◌≢◌, ◌+◌, true, take, refl, subst, arith}
use Rattle.std.proofs.lemmas.Grind.{common_steps}
use Rattle.qkd_base.specs.Route.{is_route}
use Rattle.route_table.specs.Walk.{IsLeastWalk}
use Rattle.route_table.proofs.Least.{is_least, makes_route, has_none, here_already}
use Rattle.route_table.proofs.route_table.RouteTable.route.Goals as goal

pub returns-then-eq-clause-no_route : goal.returns-then-eq-clause-no_route
returns-then-eq-clause-no_route c =
    let same : c.args.from ≡ c.args.to = grind (arith, common_steps) in
    (λ e. absurd (cc), λ none. absurd (none (here_already c.args.self.now c.args.up c.args.from c.args.to same)))

pub returns-in_default-clause-no_route : goal.returns-in_default-clause-no_route
returns-in_default-clause-no_route c =
    let differ : c.args.from ≢ c.args.to = λ same. grind (arith, common_steps) in
    (λ e. has_none c.args.self.now c.args.up c.args.from c.args.to c.layers-layers.result differ c.layers-layers.ensures (λ fewer some below. c.in_default.ensures.none fewer some (omega (arith, below))), λ none. refl)

pub unwrap-requires : goal.unwrap-requires
unwrap-requires c =
    let differ : c.args.from ≢ c.args.to = λ same. grind (arith, common_steps) in
    let h = c.in-Some.ensures in
    let route = makes_route c.args.self.now c.args.up c.args.from c.args.to c.in-Some.links c.layers-layers.result (take (c.in-Some.links + 1) c.first_walk-nodes.result) differ h.reached.0 h.reached.1 c.layers-layers.ensures h.fewest c.first_walk-nodes.ensures in
    grind (arith, common_steps, route, c.new.ensures)

pub returns-clause-least : goal.returns-clause-least
returns-clause-least c =
    let differ : c.args.from ≢ c.args.to = λ same. grind (arith, common_steps) in
    let h = c.in-Some.ensures in
    let walk = take (c.in-Some.links + 1) c.first_walk-nodes.result in
    let route : is_route walk ≡ true = makes_route c.args.self.now c.args.up c.args.from c.args.to c.in-Some.links c.layers-layers.result walk differ h.reached.0 h.reached.1 c.layers-layers.ensures h.fewest c.first_walk-nodes.ensures in
    let same : walk ≡ c.unwrap.result = grind (arith, common_steps, route, c.new.ensures, c.unwrap.ensures) in
    subst (IsLeastWalk c.args.self.now c.args.up c.args.from c.args.to) same
    (is_least c.args.self.now c.args.up c.args.from c.args.to c.in-Some.links c.layers-layers.result walk differ h.reached.1 c.layers-layers.ensures h.fewest c.first_walk-nodes.ensures)
