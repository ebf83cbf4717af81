-- What is true of a report that the audit finds sound.
use Rattle.std.specs.Prelude.{◌≡◌, ℕ, ◌+◌, ◌<◌, ◌≤◌, ◌⊎◌, true, List, [], take, slice_get, Some}
use Rattle.qkd_base.specs.declared.lane.Lane.{Lane}
use Rattle.net_model.specs.declared.counts.Counts4.{Counts4}
use Rattle.qkd_base.specs.Name.{Name}
use Rattle.run_types.specs.declared.payload_kind.PayloadKind.{PayloadKind}
use Rattle.run_types.specs.declared.frame_result.FrameResult.{FrameResult}
use Rattle.run_types.specs.declared.scenario.Scenario.{Scenario}
use Rattle.run_types.specs.declared.item.Item.{Item}
use Rattle.run_types.specs.declared.item.Item.TheVariants as items
use Rattle.run_types.specs.declared.item.NumberedItem.{NumberedItem}
use Rattle.run_audit.specs.declared.verdict.Verdict.TheVariants as verdicts
use Rattle.run_audit.specs.declared.takings.Taking.{Taking}
use Rattle.run_audit.specs.Contents.{told_by}
use Rattle.run_audit.specs.Tellings.{Telling, tellings, onto, may_have}
use Rattle.run_audit.specs.Takings.{taking_of}
use Rattle.run_audit.specs.Ledgers.{is_true_ledger}
use Rattle.run_audit.specs.Rules.{verdict_of}

-- The audit's verdict on the report is yes.
pub record IsSound (s : Scenario) (told : List NumberedItem) : Type 0 where
  pub first : ℕ
  pub frames : ℕ
  pub deliveries : ℕ
  pub ledgers : ℕ
  pub verdict : verdict_of s told first ≡ verdicts.Yes frames deliveries ledgers

-- The report has this item at this place.
abbrev pub IsAt : List NumberedItem → ℕ → Item → Type 0
IsAt told place item = (n : NumberedItem) × (slice_get told place ≡ Some n) × (n.item ≡ item)

-- Two frames of a lane, at two places of the report, have the same offset and length, or no byte in common.
abbrev pub FramesAreDisjoint : Type 0
FramesAreDisjoint = (s : Scenario) (told : List NumberedItem) → IsSound s told → (i j : ℕ) (l : Lane) (m n o p x y : ℕ) → i < j → IsAt told i (items.Sent l m o x) → IsAt told j (items.Sent l n p y) →
    ((p ≡ o) × (y ≡ x)) ⊎ ((o + x + 8 ≤ p) ⊎ (p + y + 8 ≤ o))

-- Two passes tell one kind and one name of two frames of a lane that have one offset and were sent before.
abbrev pub FramesCarryOne : Type 0
FramesCarryOne = (s : Scenario) (told : List NumberedItem) → IsSound s told → (a i b j : ℕ) (l : Lane) (m n o x y : ℕ) (r q : FrameResult) (kind : PayloadKind) (name : Name) (kind2 : PayloadKind) (name2 : Name) → a < i → b < j → i < j →
    IsAt told a (items.Sent l m o x) → IsAt told i (items.Passed l m r) → IsAt told b (items.Sent l n o y) → IsAt told j (items.Passed l n q) → told_by r ≡ Some (kind, name) → told_by q ≡ Some (kind2, name2) → (kind ≡ kind2) × (name ≡ name2)

-- A node takes a name at most once as a fact, and at most once as an acknowledgement.
abbrev pub NamesAreTakenOnce : Type 0
NamesAreTakenOnce = (s : Scenario) (told : List NumberedItem) → IsSound s told → (i j : ℕ) (a b : Item) (t : Taking) → i < j → IsAt told i a → IsAt told j b → taking_of s.site.routes a ≡ Some t → taking_of s.site.routes b ≡ Some t → ⊥

-- all tellings of a report, the last one first
abbrev pub all_told : Scenario → List NumberedItem → List Telling
all_told s told = tellings s (onto [] told)

-- Two tellings of one subject have the same bytes, different callers, and the same master if both name one. Each caller may have the subject.
pub record AreHandedOnce (s : Scenario) (told : List NumberedItem) : Type 0 where
  pub bytes : (i j : ℕ) (t u : Telling) → i < j → slice_get (all_told s told) i ≡ Some t → slice_get (all_told s told) j ≡ Some u → t.subject ≡ u.subject → t.bytes ≡ u.bytes
  pub callers : (i j : ℕ) (t u : Telling) (a : ℕ) → i < j → slice_get (all_told s told) i ≡ Some t → slice_get (all_told s told) j ≡ Some u → t.subject ≡ u.subject → t.caller ≡ Some a → u.caller ≡ Some a → ⊥
  pub masters : (i j : ℕ) (t u : Telling) (a b : ℕ) → i < j → slice_get (all_told s told) i ≡ Some t → slice_get (all_told s told) j ≡ Some u → t.subject ≡ u.subject → t.master ≡ Some a → u.master ≡ Some b → a ≡ b
  pub entitled : (i : ℕ) (t : Telling) → slice_get (all_told s told) i ≡ Some t → may_have s.site.entitlements t.caller t.master ≡ true

abbrev pub KeysAreHandedOnce : Type 0
KeysAreHandedOnce = (s : Scenario) (told : List NumberedItem) → IsSound s told → AreHandedOnce s told

-- In each ledger the received bytes are the unused, spent and burnt ones, and the ledger is true of the items before it.
abbrev pub LedgersAreTrue : Type 0
LedgersAreTrue = (s : Scenario) (told : List NumberedItem) → IsSound s told → (i : ℕ) (l : Lane) (c : Counts4) → IsAt told i (items.Counted l c) →
    (c.received ≡ c.unused + c.spent + c.burnt) × (is_true_ledger (onto [] (take i told)) l c ≡ true)
