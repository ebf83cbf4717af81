use Rattle.std.proofs.Common.{◌≡◌, ℕ, ◌+◌, ◌%◌, ◌^◌, ◌<◌, get_or}
use Rattle.source_devices.specs.KeyStream.{stream_octet}
use Rattle.source_devices.proofs.key_stream.KeyStream.read_octets.Given as goal

abbrev pub invariant-loop-octet : goal.invariant-loop-octet
invariant-loop-octet l = record {
  letter : l.self.letter ≡ l.fn.self.letter;
  number : l.self.number ≡ l.fn.self.number;
  place : l.self.place ≡ (l.fn.self.place + l.octet-index) % 2 ^ 70;
  given : (k : ℕ) → k < l.octet-index → get_or l.into k 0 ≡ stream_octet l.fn.self.letter l.fn.self.number (l.fn.self.place + k);
}
