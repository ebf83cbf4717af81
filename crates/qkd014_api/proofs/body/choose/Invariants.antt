use Rattle.std.proofs.Common.{◌≡◌, drop}
use Rattle.serde_json.specs.View.{items_view}
use Rattle.qkd014_api.specs.Bodies.{chosen}
use Rattle.qkd014_api.proofs.body.choose.Given as goal

abbrev pub invariant-loop-item : goal.invariant-loop-item
invariant-loop-item l = chosen l.entitlements l.slaves (items_view (drop l.item-index l.items)) ≡ chosen l.entitlements l.fn.first (items_view l.items)
