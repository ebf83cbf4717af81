-- A manager that keeps nothing in memory is consistent with every world.
use Rattle.std.proofs.Common.{ℕ}
use Rattle.net_model.specs.World.{Network, World, no_volatile}
use Rattle.net_model.specs.Windows.{IsVolatile}

pub nothing_kept : (net : Network) (w : World) (v : ℕ) → IsVolatile net w v no_volatile
nothing_kept net w v =
    record { entries = λ n e h. cc; places = tt; pending = λ n a h. cc; once = tt; awaiting = λ n t h. cc }
