-- What a device or an entropy may answer. Its octets may be known (`Some`) or unknown (`None`).
use Rattle.std.specs.Prelude.{◌≡◌, ℕ, ◌+◌, ◌-◌, ◌*◌, true, false, List, Option, Some, None, Result, Ok, Err, option_map}
use Rattle.net_model.specs.OctetSequence.{OctetSequence, has_octets, octets_from, block_at}
use Rattle.source_devices.specs.declared.shortage.Shortage.{Shortage}
use Rattle.source_devices.specs.declared.shortage.Shortage.TheVariants.{Failed, End}

-- the rest of a sequence behind its first n octets
pub record IsRest (t : OctetSequence) (n : ℕ) (rest : OctetSequence) : Type 0 where
  pub octet : (i : ℕ) → rest.octet i ≡ t.octet (n + i)
  pub last : rest.end ≡ option_map (λ (e : ℕ). e - n) t.end

-- A draw of n octets gives the first n and leaves the rest. It finds the end exactly if fewer than n are left, and an error takes none.
-- Unknown octets have no end.
abbrev pub Draws : {T : Type 0} → Option OctetSequence → Option OctetSequence → Result T Shortage → ℕ → List ℕ → Type 0
Draws None new (Err End) n into = ⊥
Draws None new _ n into = Unit {0}
Draws (Some t) new (Ok _) n into = (has_octets t n ≡ true) × (into ≡ octets_from t.octet 0 n) × ((rest : OctetSequence) × (new ≡ Some rest) × IsRest t n rest)
Draws (Some t) new (Err Failed) n into = (has_octets t n ≡ true) × (new ≡ Some t)
Draws (Some t) new (Err End) n into = (has_octets t n ≡ false) × (new ≡ Some t)

-- Block n is the octets from 1,024 * n on. The end is found exactly if the sequence has no such whole block. Unknown octets have no
-- end.
abbrev pub GivesBlock : {T : Type 0} → Option OctetSequence → ℕ → Result T Shortage → List ℕ → Type 0
GivesBlock None n (Err End) into = ⊥
GivesBlock None n _ into = Unit {0}
GivesBlock (Some t) n (Ok _) into = (has_octets t (1024 + 1024 * n) ≡ true) × (into ≡ block_at t n)
GivesBlock (Some t) n (Err Failed) into = has_octets t (1024 + 1024 * n) ≡ true
GivesBlock (Some t) n (Err End) into = has_octets t (1024 + 1024 * n) ≡ false
