use Rattle.std.proofs.Common.{◌≡◌, ◌++◌, take, drop}
use Rattle.hop_frames.specs.Frame.{masked}
use Rattle.hop_frames.proofs.mask.mask_all.Given as goal

abbrev pub invariant-loop-i : goal.invariant-loop-i
invariant-loop-i l = l.octets ≡ masked (take l.i l.fn.octets) l.pads ++ drop l.i l.fn.octets
