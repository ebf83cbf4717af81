use Rattle.std.proofs.Common.{◌≡◌}
use Rattle.tcp_ports.proofs.peer_reader.PeerReader.next.Given as goal

abbrev pub invariant-reads : goal.invariant-reads
invariant-reads g l = l.self ≡ l.fn.self
