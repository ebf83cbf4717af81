use Rattle.std.proofs.Common.{◌≡◌, ◌≤◌, ◌-◌, max, length}
use Rattle.http_front.specs.Reading.{Came}
use Rattle.http_front.proofs.request_reader.read_to.Given as goal

abbrev pub invariant-loop-source : goal.invariant-loop-source
invariant-loop-source g l = record {
  came : Came (g.S.Source.left l.initial.source) (g.S.Source.left l.source) l.initial.octets.items l.octets.items;
  limit : length l.octets.items ≤ max (length l.initial.octets.items) l.count;
  faults : g.S.Source.faults l.source ≡ g.S.Source.faults l.initial.source;
  still : l.count ≤ length l.initial.octets.items → (l.octets.items ≡ l.initial.octets.items) × (l.source ≡ l.initial.source);
}

abbrev pub decreases-loop-source : goal.decreases-loop-source
decreases-loop-source g l = l.count - length l.octets.items
