-- The plan of faults: which calls of a disk in memory fail.
use Rattle.std.specs.Prelude.{ℕ, ◌+◌, ◌-◌, ◌^◌, min, ◌==◌, Bool, true, false, if◌then◌else◌, List, Option, None, Some}
use Rattle.std.specs.List.{list_any}
use Rattle.qkd_base.specs.Faults.{one_more}
use Rattle.disk_model.specs.declared.arm.Image.{Image}
use Rattle.disk_model.specs.declared.arm.Arm.{Arm}
use Rattle.disk_model.specs.declared.arm.Arm.TheVariants.{Cut, Fail}
use Rattle.disk_model.specs.declared.passage.Passage.{Passage}
use Rattle.disk_model.specs.declared.passage.Passage.TheVariants.{Passes, Fails, Cuts}

-- The numbers of the calls that fail, how many calls there were, the armed fault, how many calls there were since it
-- was armed, the image of a cut that has come, and how many calls have failed.
pub record PlanForm : Type 0 where
  pub fails : List ℕ
  pub calls : ℕ
  pub armed : Option Arm
  pub since : ℕ
  pub cut : Option Image
  pub faults : ℕ

-- the number of the next call, but at most 2^32 - 1
abbrev pub next_call : ℕ → ℕ
next_call n = min (n + 1) (2 ^ 32 - 1)

abbrev pub call_of : Arm → ℕ
call_of (Cut call image) = call
call_of (Fail call) = call

-- the armed fault, if it strikes the call of this number
abbrev pub due_at : Option Arm → ℕ → Option Arm
due_at None call = None
due_at (Some arm) call = if call_of arm == call then Some arm else None

-- how a call ends, from the fault that strikes it, the cut that has come, and whether the call is in the list of those
-- that fail
abbrev pub passage_of : Option Arm → Option Image → Bool → Passage
passage_of (Some (Cut call image)) None listed = Cuts
passage_of (Some (Cut call image)) (Some cut) listed = Fails
passage_of (Some (Fail call)) cut listed = Fails
passage_of None (Some cut) listed = Fails
passage_of None None listed = if listed then Fails else Passes

-- the image of the first cut, which later faults don't change
abbrev pub cut_after : Option Arm → Option Image → Option Image
cut_after (Some (Cut call image)) None = Some image
cut_after (Some (Cut call image)) (Some cut) = Some cut
cut_after (Some (Fail call)) cut = cut
cut_after None cut = cut

abbrev pub left_armed : Option Arm → Option Arm → Option Arm
left_armed armed None = armed
left_armed armed (Some fault) = None

abbrev pub fails_in : Passage → Bool
fails_in Passes = false
fails_in Fails = true
fails_in Cuts = true

-- the armed fault, if it strikes the next call
abbrev pub due : PlanForm → Option Arm
due p = due_at p.armed (next_call p.since)

abbrev pub passage : PlanForm → Passage
passage p = passage_of (due p) p.cut (list_any (λ f. f == one_more p.calls) p.fails)

abbrev pub after_call : PlanForm → PlanForm
after_call p = record {
  fails = p.fails;
  calls = one_more p.calls;
  armed = left_armed p.armed (due p);
  since = next_call p.since;
  cut = cut_after (due p) p.cut;
  faults = if fails_in (passage p) then one_more p.faults else p.faults;
}
