-- If no frame is on its way to a wire, each node may note.
use Rattle.std.proofs.Common.{[]}
use Rattle.net_model.specs.World.{Network, World}
use Rattle.net_model.specs.Step.{IsRun}
use Rattle.net_model.specs.BlockOrder.{completions}
use Rattle.law_locality.proofs.Completions.{IsDone, completions_run}
use Rattle.law_parallel.specs.Remaining.{Remains}

none_remains : (net : Network) (w : World) → Remains net w [] → IsDone net w
none_remains net w h = record { orders = h.unclaimed; puts = h.outgoing }

pub all_note : (net : Network) (w : World) → Remains net w [] → IsRun net w (completions net)
all_note net w h = completions_run net w (none_remains net w h)
