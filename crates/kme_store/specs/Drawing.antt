-- The random octets of an event.
use Rattle.std.specs.Prelude.{◌≡◌, ℕ, zero, suc, ◌<◌, List, Option, Result, Ok, Err}
use Rattle.net_model.specs.OctetSequence.{OctetSequence}
use Rattle.source_devices.specs.Telling.{Draws}
use Rattle.source_devices.specs.declared.shortage.Shortage.{Shortage}

-- what is drawn; if no octet is needed, nothing is
abbrev pub Gives : {T : Type 0} → Option OctetSequence → Option OctetSequence → Result T Shortage → ℕ → List ℕ → Type 0
Gives {T} told now (Ok done) zero octets = now ≡ told
Gives {T} told now (Ok done) (suc n) octets = Draws {T = T} told now (Ok done) (suc n) octets
Gives {T} told now (Err e) n octets = (0 < n) × Draws {T = T} told now (Err e) n octets
