use Rattle.std.proofs.Common.{◌≡◌, ◌+◌, length}
use Rattle.turnstile.specs.Names.{knows, Fits}
use Rattle.thread_tests.proofs.turnstiles.count.Given as goal

abbrev pub invariant-loop-made : goal.invariant-loop-made
invariant-loop-made g l =
    Fits l.turnstile l.seat × ((knows l.seat).budget + l.made ≡ (knows l.initial.seat).budget) × (length (knows l.seat).mine ≡ length (knows l.initial.seat).mine + l.made)
