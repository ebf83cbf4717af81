use Rattle.std.proofs.Common.{refl}
use Rattle.std.specs.Fmt.{digits}
use Rattle.scenario_gen.proofs.ring.ring_lines.Goals as goal

pub returns : goal.returns
unfolding digits
returns c = refl
