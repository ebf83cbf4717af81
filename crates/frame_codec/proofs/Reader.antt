-- What a reader's result says about payloads and their spelling.
use Rattle.std.proofs.Common.{◌≡◌, ℕ, List, Result, Ok, Err}
use Rattle.std.specs.Prelude.{IfOk}
use Rattle.net_model.specs.declared.payload.Payload.{Payload}
use Rattle.frame_codec.specs.declared.payload_refusal.PayloadRefusal.{PayloadRefusal}
use Rattle.frame_codec.specs.Payload.{IsPayload, AreOctets, payload_octets}
use Rattle.frame_codec.specs.Reading.{Reads, payload_of}
use Rattle.frame_codec.proofs.KindLaws.{payload_takes}

pub is_found : (octets : List ℕ) (r : Result Payload PayloadRefusal) → AreOctets octets → Reads r (payload_of octets) → IfOk r (λ p. IsPayload p × (octets ≡ payload_octets p))
is_found octets (Ok p) fits read = payload_takes octets p fits read
is_found octets (Err e) fits read = tt
