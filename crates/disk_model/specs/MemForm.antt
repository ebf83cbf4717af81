-- A disk in memory as a value.
use Rattle.std.specs.Prelude.{◌≡◌, ◌≤◌, ℕ, ◌+◌, ◌-◌, false, IsTrue, if◌then◌else◌, List, [], ◌∷◌, ◌++◌, length, take, vec_len, vec_capacity, Option, None, Some}
use Rattle.disk_model.specs.Images.{Only}
use Rattle.disk_model.specs.Record.{Used, replayed, image_of, revived, after_settle}
use Rattle.disk_model.specs.Record.Used.{Wrote}
use Rattle.disk_model.specs.Plan.{PlanForm, passage, after_call}
use Rattle.disk_model.specs.Allowance.{after_room, after_write, after_sync}
use Rattle.disk_model.specs.declared.arm.Image.{Image}
use Rattle.disk_model.specs.declared.arm.Image.TheVariants.{Kept}
use Rattle.disk_model.specs.declared.arm.Arm.{Arm}
use Rattle.disk_model.specs.declared.passage.Passage.{Passage}
use Rattle.disk_model.specs.declared.passage.Passage.TheVariants.{Passes, Fails, Cuts}
use Rattle.disk_model.specs.History.{IsHistory, used_of}
use Rattle.disk_model.specs.declared.allowance.Allowance.{Allowance}
use Rattle.disk_model.specs.declared.arm.Armings.{Armings}
use Rattle.disk_model.specs.declared.history.History.{History}

-- The content that the disk was made with, its used calls, how many of them the last sync made durable, which calls
-- fail, and the allowance and the armings, which each disk has.
pub record MemForm : Type 0 where
  pub first : List ℕ
  pub used : List Used
  pub synced : ℕ
  pub plan : PlanForm
  pub allowance : Allowance
  pub armings : Armings

abbrev pub content_of : MemForm → List ℕ
content_of d = replayed d.first d.used

abbrev pub images_of : MemForm → ℕ → List ℕ → Type 0
images_of d moment image = image_of d.first d.used moment image

-- the disk after a call that only reads
abbrev pub after_look : MemForm → MemForm
after_look d = record d { plan = after_call d.plan }

-- A write is recorded if it succeeds, or if the power is cut during it. Any other write that fails has no effect.
abbrev pub noted_in : Passage → Used → List Used → List Used
noted_in Passes u used = used ++ u ∷ []
noted_in Fails u used = used
noted_in Cuts u used = used ++ u ∷ []

abbrev pub after_write_at : ℕ → List ℕ → MemForm → MemForm
after_write_at at bytes d = record d {
  used = noted_in (passage d.plan) (Wrote at bytes (length bytes) Kept) d.used;
  plan = after_call d.plan;
  allowance = after_write (length bytes) d.allowance;
}

-- The disk after a sync. A sync that succeeds is recorded if there was a write since the last one.
abbrev pub synced_in : Passage → MemForm → MemForm
synced_in Passes d = record d {
  used = after_settle d.allowance.unsynced d.used;
  synced = if d.allowance.unsynced then length d.used + 1 else d.synced;
  plan = after_call d.plan;
  allowance = after_sync d.allowance;
}
synced_in Fails d = after_look d
synced_in Cuts d = after_look d

-- the disk after room was given up to this end
abbrev pub with_room : ℕ → MemForm → MemForm
with_room end d = record d { allowance = after_room end d.allowance }

-- the disk armed with this fault, with the calls counted from 1 again
abbrev pub with_arm : Arm → MemForm → MemForm
with_arm arm d = record d {
  plan = record d.plan { armed = Some arm; since = 0 };
  armings = record { count = d.armings.count + 1; last = Some arm };
}

-- the disk after it is revived from a cut with this image, or unchanged if there was no cut
abbrev pub left_by : Option Image → MemForm → MemForm
left_by None d = d
left_by (Some image) d = record d {
  used = revived image (length (replayed d.first (take d.synced d.used))) d.synced d.used;
  plan = record d.plan { cut = None };
}

-- the invariant of the fields
pub record IsMemory (h : History) (a : Allowance) : Type 0 where
  pub history : IsHistory h
  pub reach : a.reach ≤ vec_capacity h.content
  pub log : vec_len h.log + a.left ≤ vec_capacity h.log
  pub saved : vec_len h.saved + a.left ≤ vec_capacity h.saved
  pub list : IsTrue a.granted → vec_len h.writes + (16 - a.used) ≤ vec_capacity h.writes
  pub unsynced : IsTrue a.unsynced → IsTrue a.granted
  pub clean : a.unsynced ≡ false → Only (replayed h.first.items (used_of h)) (image_of h.first.items (used_of h) (length (used_of h)))
