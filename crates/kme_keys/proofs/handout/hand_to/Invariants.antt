use Rattle.std.proofs.Common.{◌≡◌, take}
use Rattle.net_model.specs.Pools.{hand_to}
use Rattle.kme_keys.proofs.handout.hand_to.Given as goal

abbrev pub invariant-loop-name : goal.invariant-loop-name
invariant-loop-name l = l.batch ≡ hand_to l.sae (take l.name-index l.names)
