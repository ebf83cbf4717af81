use Rattle.std.proofs.Common.{◌≡◌, ◌++◌, map, drop}
use Rattle.serde_json.specs.View.{view}
use Rattle.report_json.specs.Objects.{key_object}
use Rattle.report_json.proofs.key_items.key_objects.Given as goal

-- The values so far and the keys that are left are all keys.
abbrev pub invariant-loop-key : goal.invariant-loop-key
invariant-loop-key l = map view l.values.items ++ map key_object (drop l.key-index l.keys) ≡ map key_object l.keys
