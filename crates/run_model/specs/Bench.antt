-- What the parts of the bench show after a run.
use Rattle.std.specs.Prelude.{◌≡◌, ◌⊎◌, ℕ, ◌+◌, ◌≤◌, Bool, true, false, List, [], ◌∷◌, length, Option, Some}
use Rattle.qkd_base.specs.declared.lane.Lane.{Lane}
use Rattle.net_model.specs.declared.record.Record.{Record}
use Rattle.net_model.specs.Action.{Fault}

-- which batches the octets of a disk encode, if they encode any
abbrev pub DiskBatches : Type 0
DiskBatches = List ℕ → Option (List (List Record))

-- a count of faults before and after the call, and the greatest value of its counter, at which it stays
pub record Count : Type 0 where
  pub old : ℕ
  pub new : ℕ
  pub greatest : ℕ

-- The count over one action. A fault raised it, or left it at its greatest value, and then nothing more is known. Without a fault it stayed.
abbrev pub Went : (greatest : ℕ) → (fault : Bool) → (before now : ℕ) → Type 0
Went greatest true before now = (before + 1 ≤ now) ⊎ (now ≡ greatest)
Went greatest false before now = now ≡ before

-- The count over actions in order, each with a fault or without one: there is a count after each action, which comes from the one before as that action
-- says.
abbrev pub Rises : (greatest : ℕ) → (faults : List Bool) → (before now : ℕ) → Type 0
Rises greatest [] before now = now ≡ before
Rises greatest (fault ∷ faults) before now = (mid : ℕ) × Went greatest fault before mid × Rises greatest faults mid now

-- The count rose with these faults, and with them alone.
abbrev pub RoseWith : Count → List Bool → Type 0
RoseWith c faults = Rises c.greatest faults c.old c.new

-- the count rose by at least n, or it has reached its greatest value, and then nothing is known
abbrev pub RoseBy : Count → ℕ → Type 0
RoseBy c n = (c.old + n ≤ c.new) ⊎ (c.new ≡ c.greatest)

-- how often a disk was armed in the call, and the last fault that it was armed with, before and after
pub record Arming : Type 0 where
  pub times : ℕ
  pub old : Option Fault
  pub new : Option Fault

abbrev pub last_of_both : Option Fault → List Fault → Option Fault
last_of_both old [] = old
last_of_both old (f ∷ fs) = last_of_both (Some f) fs

-- the disk was armed with exactly these faults, in order
abbrev pub IsArmedWith : Arming → List Fault → Type 0
IsArmedWith a faults = (a.times ≡ length faults) × (a.new ≡ last_of_both a.old faults)

-- What is seen after the call: the counts of faults, the armings of disks, the frames of each wire whose frames are
-- known, the content of each disk, and what is left of each entropy whose octets are known.
pub record Seen : Type 0 where
  pub disk_count : ℕ → Count
  pub entropy_count : ℕ → Count
  pub device_count : ℕ → Count
  pub wire_count : Lane → Count
  pub arming : ℕ → Arming
  pub wire : Lane → Option (List (List ℕ))
  pub disk : ℕ → List ℕ
  pub entropy : ℕ → Option (List ℕ)
