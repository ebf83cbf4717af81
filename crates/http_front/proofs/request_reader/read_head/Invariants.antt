use Rattle.std.proofs.Common.{◌≡◌, ◌≤◌, ◌-◌, max, length}
use Rattle.http_front.specs.Front.{HasSome}
use Rattle.http_front.specs.Reading.{Came}
use Rattle.http_front.proofs.request_reader.read_head.Given as goal

abbrev pub invariant-look : goal.invariant-look
invariant-look g l = record {
  came : Came (g.S.Source.left l.initial.source) (g.S.Source.left l.source) l.initial.octets.items l.octets.items;
  limit : length l.octets.items ≤ max (length l.initial.octets.items) 8193;
  faults : g.S.Source.faults l.source ≡ g.S.Source.faults l.initial.source;
  still : HasSome l.initial.octets.items → (l.octets.items ≡ l.initial.octets.items) × (l.source ≡ l.initial.source);
}

abbrev pub decreases-look : goal.decreases-look
decreases-look g l = 8193 - length l.octets.items
