use Rattle.std.proofs.Common.{◌≡◌, ◌++◌, take, drop}
use Rattle.net_world.specs.Veiled.{complement}
use Rattle.net_world.proofs.complement.turn.Given as goal

abbrev pub invariant-loop-octet : goal.invariant-loop-octet
invariant-loop-octet l = l.octets ≡ complement (take l.octet-index l.initial.octets) ++ drop l.octet-index l.initial.octets
