use Rattle.std.proofs.Common.{◌≡◌, min}
use Rattle.declared_site.specs.SiteOf.{site_of}
use Rattle.run_lines.proofs.AllLanes.{lanes_below}
use Rattle.run_lines.proofs.lanes.all_lanes.Given as goal

abbrev pub invariant-loop-number : goal.invariant-loop-number
invariant-loop-number l = l.lanes.items ≡ lanes_below (min l.number (site_of l.site).links)
