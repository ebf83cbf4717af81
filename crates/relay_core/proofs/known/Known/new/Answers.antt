use Rattle.relay_core.proofs.Kept.{nothing_known}
use Rattle.relay_core.proofs.known.Known.new.Goals as goal

pub invariant_of-result : goal.invariant_of-result
invariant_of-result c = nothing_known c.args.me c.new.result.items c.new-2.result.items c.new-3.result c.new.ensures.items c.new-2.ensures.items c.new-3.ensures
