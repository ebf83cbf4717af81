use Rattle.std.proofs.Common.{◌≡◌, take, true}
use Rattle.qkd_base.specs.Route.{are_nodes}
use Rattle.frame_codec.proofs.fields.way_of.Given as goal

abbrev pub invariant-loop-i : goal.invariant-loop-i
invariant-loop-i l = record {
  same : take l.i l.room ≡ take l.i l.numbers;
  nodes : are_nodes (take l.i l.numbers) ≡ true;
}
