-- Parts of a new bench.
use Rattle.std.specs.Prelude.{◌≡◌, ℕ, ◌<◌, List, [], length, get_or, Option, Some, None}
use Rattle.std.specs.List.{All}
use Rattle.disk_model.specs.MemForm.{MemForm}
use Rattle.net_model.specs.OctetSequence.{OctetSequence}
use Rattle.source_devices.specs.Forms.{WireForm}

pub record IsBlank (d : MemForm) : Type 0 where
  pub first : d.first ≡ []
  pub used : d.used ≡ []
  pub armed : d.armings.count ≡ 0

-- `n` empty disks that were never used and never armed
pub record AreBlank (n : ℕ) (disks : List MemForm) : Type 0 where
  pub count : length disks ≡ n
  pub blank : All IsBlank disks

-- `n` wires without frames
pub record AreSilent (n : ℕ) (wires : List WireForm) : Type 0 where
  pub count : length wires ≡ n
  pub silent : All (λ (w : WireForm). w.frames ≡ []) wires

-- the octets that a part tells are those of this sequence, and as many
abbrev pub Tells : OctetSequence → Option OctetSequence → Type 0
Tells told None = ⊥
Tells told (Some is) = (is.end ≡ told.end) × ((i : ℕ) → is.octet i ≡ told.octet i)

-- `n` parts, of which each tells the octets of the generator of its number
pub record AreNumbered {T : Type 0} (tells : T → Option OctetSequence) (generator : ℕ → OctetSequence) (n : ℕ) (parts : List T) : Type 0 where
  pub count : length parts ≡ n
  pub each : (number : ℕ) (other : T) → number < length parts → Tells (generator number) (tells (get_or parts number other))
