use Rattle.std.proofs.Common.{◌≡◌, ◌+◌, ◌≤◌, ◌++◌, drop}
use Rattle.report_json.specs.Lines.{lines_from, json_of}
use Rattle.report_json.proofs.text.json_of.Given as goal

-- The text so far and the lines of the items that are left are the whole text.
abbrev pub invariant-loop-told : goal.invariant-loop-told
invariant-loop-told l = record {
  text : l.text ++ lines_from l.nodes l.place (drop l.told-index l.items) ≡ json_of l.nodes l.items;
  near : l.place.round ≤ l.told-index + 1;
}
