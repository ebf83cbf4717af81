use Rattle.std.proofs.Common.{◌≡◌, ◌<◌, ℕ, false}
use Rattle.route_table.specs.Layer.{is_reached}
use Rattle.route_table.proofs.route_table.fewest_links.Given as goal

abbrev pub invariant-loop-links : goal.invariant-loop-links
invariant-loop-links l = (fewer : ℕ) → 0 < fewer → fewer < l.links → is_reached l.layers fewer l.from ≡ false
