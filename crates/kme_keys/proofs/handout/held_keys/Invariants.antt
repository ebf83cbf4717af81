use Rattle.std.proofs.Common.{◌≡◌, take}
use Rattle.kme_keys.specs.Holding.{held_keys}
use Rattle.kme_keys.proofs.handout.held_keys.Given as goal

abbrev pub invariant-loop-name : goal.invariant-loop-name
invariant-loop-name l = l.keys ≡ held_keys l.holder l.known.facts (take l.name-index l.names)
