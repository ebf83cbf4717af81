use Rattle.std.proofs.Common.{sym, ap}
use Rattle.kme_node.specs.Holdings.{view}
use Rattle.kme_node.proofs.node.Node.random_need.Goals as goal

pub returns : goal.returns
returns c = c.random_need.ensures (view c.args.self.now) (ap (λ k. k.facts) (sym c.known.ensures))
