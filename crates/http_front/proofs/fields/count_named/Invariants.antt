use Rattle.std.proofs.Common.{◌≡◌, ◌+◌, ◌≤◌, length, drop}
use Rattle.http_front.specs.Fields.{values_of}
use Rattle.http_front.proofs.fields.count_named.Given as goal

abbrev pub invariant-loop-field : goal.invariant-loop-field
invariant-loop-field l = record {
  counted : l.count + length (values_of l.name (drop l.field-index l.fields)) ≡ length (values_of l.name l.fields);
  few : l.count ≤ l.field-index;
}
