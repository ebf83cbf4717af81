use Rattle.std.proofs.Common.{length, ◌-◌}
use Rattle.relay_core.specs.Index.{IsIndex}
use Rattle.relay_core.proofs.index_entries.list_rest.Given as goal

abbrev pub invariant-loop-listed : goal.invariant-loop-listed
invariant-loop-listed l = IsIndex l.me l.acked l.facts l.index l.listed

abbrev pub decreases-loop-listed : goal.decreases-loop-listed
decreases-loop-listed l = length l.facts - l.listed
