-- A scenario's lines on a bench, with nothing after them.
use Rattle.std.specs.Prelude.{◌≡◌, ℕ, ◌-◌, ◌^◌, Bool, List, [], if◌then◌else◌}
use Rattle.net_model.specs.Premises.{IsNetwork}
use Rattle.net_model.specs.World.{Network, World}
use Rattle.net_model.specs.View.{View}
use Rattle.net_model.specs.Needed.{view_of}
use Rattle.net_model.specs.Fold.{view_batch}
use Rattle.declared_site.specs.SiteOf.{site_of}
use Rattle.run_types.specs.declared.scenario.Scenario.{Scenario}
use Rattle.run_model.specs.Report.{Performed}
use Rattle.run_model.specs.Bench.{Count}
use Rattle.run_model.specs.Course.{Course}

-- The network is one of the scenario.
pub record IsBenched (scenario : Scenario) (net : Network) : Type 0 where
  pub network : IsNetwork net
  pub site : net.site ≡ site_of scenario.site

-- The course from a world on in which nothing was asked for after the lines.
abbrev pub lines_alone : Network → (begin : World) → List Performed → Course
lines_alone net begin done = record { net = net; begin = begin; done = done; served = [] }

-- A counter of 64 bits that doesn't rise above its greatest value.
abbrev pub counter : (before now : ℕ) → Count
counter before now = record { old = before; new = now; greatest = 2 ^ 64 - 1 }

-- The view of a node, with the batch in doubt if that was committed.
abbrev pub kept_view : Network → World → ℕ → (committed : Bool) → View
kept_view net w v committed = if committed then view_batch (view_of net w v) (w.in_doubt v).batch else view_of net w v
