use Rattle.std.proofs.Common.{◌≡◌, drop}
use Rattle.serde_json.specs.View.{items_view}
use Rattle.qkd014_api.specs.Bodies.{names_on}
use Rattle.qkd014_api.proofs.body.listed.Given as goal

abbrev pub invariant-loop-item : goal.invariant-loop-item
invariant-loop-item l = names_on l.names (items_view (drop l.item-index l.items)) ≡ names_on l.fn.first (items_view l.items)
