use Rattle.std.proofs.Common.{◌≡◌, ◌+◌, ◌++◌, take}
use Rattle.frame_codec.proofs.payload_printer.put_route.Given as goal

abbrev pub invariant-loop-i : goal.invariant-loop-i
invariant-loop-i l = take (l.begin + l.i) l.into ≡ take l.begin l.initial.into ++ take l.i l.nodes
