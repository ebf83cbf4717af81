use Rattle.std.proofs.Common.{◌≡◌, drop}
use Rattle.http_front.specs.Fields.{values_of}
use Rattle.http_front.proofs.fields.first_named.Given as goal

abbrev pub invariant-loop-field : goal.invariant-loop-field
invariant-loop-field l = values_of l.name (drop l.field-index l.fields) ≡ values_of l.name l.fields
