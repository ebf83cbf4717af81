-- The octets that a device or an entropy gives.
use Rattle.std.proofs.Common.{◌≡◌, ℕ, zero, suc, ◌+◌, ◌*◌, ◌<◌, length, refl, ap}
use Rattle.std.specs.Prelude.{nat_lt}
use Rattle.std.proofs.lemmas.Bool.{lt-ltb}
use Rattle.net_model.specs.OctetSequence.{octets_from}
use Rattle.net_model.specs.Ranges.{IsOctets}
use Rattle.law_base.proofs.Base.{and_both}

pub length-octets_from : (octet : ℕ → ℕ) (place n : ℕ) → length (octets_from octet place n) ≡ n
unfolding octets_from
length-octets_from octet place zero = refl
length-octets_from octet place (suc n) = ap suc (length-octets_from octet (place + 1) n)

pub from_octets : (octet : ℕ → ℕ) → ((i : ℕ) → octet i < 256) → (place n : ℕ) → IsOctets (octets_from octet place n)
unfolding octets_from
from_octets octet h place zero = refl
from_octets octet h place (suc n) = and_both (nat_lt (octet place) 256) _ (lt-ltb (octet place) 256 (h place)) (from_octets octet h (place + 1) n)
