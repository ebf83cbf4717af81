-- Parts of a bench that nothing was done to.
use Rattle.std.specs.Prelude.{◌≡◌, ℕ, ◌<◌, List, [], slice_index_or}
use Rattle.disk_model.specs.MemForm.{MemForm}

-- octets at each place
abbrev pub AreOctets : List ℕ → Type 0
AreOctets octets = (i : ℕ) → slice_index_or octets i 0 < 256

-- a disk without content and use, that was never armed
pub record IsBlank (d : MemForm) : Type 0 where
  pub first : d.first ≡ []
  pub used : d.used ≡ []
  pub armed : d.armings.count ≡ 0
