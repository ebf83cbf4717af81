use Rattle.std.proofs.Common.{◌≡◌, ◌++◌, take}
use Rattle.kme_relay.proofs.parts.append.Given as goal

abbrev pub invariant-loop-repeat : goal.invariant-loop-repeat
invariant-loop-repeat l = l.repeats ≡ l.fn.repeats ++ take l.repeat-index l.more
