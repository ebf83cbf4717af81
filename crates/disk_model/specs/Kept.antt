-- A disk of which a file keeps the octets.
use Rattle.std.specs.Prelude.{◌≡◌, ℕ, Bool, true, List, Option, Some, None, Result, OnOk, OnErr}
use Rattle.disk_model.specs.Images.{overlaid}
use Rattle.disk_model.specs.declared.arm.Armings.{Armings}

-- The disk, the file, how often the disk was armed, how many calls failed, and whether one did.
pub record KeptForm (K F : Type 0) : Type 0 where
  pub disk : K
  pub file : F
  pub armings : Armings
  pub faults : ℕ
  pub broken : Bool

-- These octets were written at place `at`, where contracts know what the file has.
abbrev pub IsOverlaid : (at : ℕ) → List ℕ → (old new : Option (List ℕ)) → Type 0
IsOverlaid at bytes None new = Unit {0}
IsOverlaid at bytes (Some old) new = new ≡ Some (overlaid at bytes old)

-- A call that fails breaks the disk, and a broken disk's calls fail.
pub record Breaks {T E : Type 0} (before now : Bool) (result : Result T E) : Type 0 where
  pub whole : OnOk result (now ≡ before)
  pub broken : OnErr result (now ≡ true)
  pub ever : before ≡ true → OnErr result (now ≡ true) × (OnOk result ⊥)
