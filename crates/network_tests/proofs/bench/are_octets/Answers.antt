use Rattle.std.proofs.Common.{arith}
use Rattle.network_tests.proofs.Parts.{of_places}
use Rattle.network_tests.proofs.bench.are_octets.Goals as goal

pub returns : goal.returns
returns c = of_places c.args.octets.now.items (λ i lt. omega (arith, c.type_inv.octets i))
