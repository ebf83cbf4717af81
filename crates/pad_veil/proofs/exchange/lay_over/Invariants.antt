use Rattle.std.proofs.Common.{◌≡◌, take}
use Rattle.hop_frames.specs.Frame.{masked}
use Rattle.pad_veil.proofs.exchange.lay_over.Given as goal

abbrev pub invariant-loop-i : goal.invariant-loop-i
invariant-loop-i l = l.bytes ≡ masked l.fn.bytes (take l.i l.octets)
