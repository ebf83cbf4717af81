-- Steps with reserved memory, and why an event may have none.
use Rattle.std.specs.Prelude.{◌≡◌, ◌⊎◌, ℕ, ◌+◌, ◌<◌, ◌≤◌, true, false, Bool, List, [], ◌∷◌, ◌++◌, length, Option, Some, None, Result, Ok, Err}
use Rattle.std.specs.List.{All, list_all}
use Rattle.net_model.specs.declared.record.Record.{Record}
use Rattle.net_model.specs.declared.reply.Reply.{Reply}
use Rattle.net_model.specs.declared.reply.Reply.TheVariants.{Memory, JournalFull}
use Rattle.net_model.specs.World.{Journal}
use Rattle.net_model.specs.Journal.{added_len, journal_limit}
use Rattle.net_model.specs.Decision.{Decision, Refuses, Does}
use Rattle.net_model.specs.Handle.{is_numbered}
use Rattle.disk_model.specs.Images.{StandsStill}
use Rattle.disk_model.specs.declared.arm.Armings.{Armings}
use Rattle.journal_records.specs.Grammar.{IsLearned}
use Rattle.range_journal.specs.Header.{is_blank}
use Rattle.journal_snapshot.specs.Standing.{Holds}
use Rattle.journal_snapshot.specs.Snapshots.{SnapshotForm, journal_of}
use Rattle.kme_node.specs.Holdings.{Holdings, Fits, HasRoom}
use Rattle.kme_journal.specs.Spelled.{IsBody, added}
use Rattle.kme_journal.specs.declared.draft.Draft.{Draft}

abbrev pub HasSpare : ℕ → Option (List ℕ) → Type 0
HasSpare spare None = Unit {0}
HasSpare spare (Some octets) = length octets ≤ spare

-- the manager has room for the step; the octets of its batch are there if it isn't empty; and a step that draws octets only learns facts
pub record IsPrepared (h : Holdings) (version need : ℕ) (d : Draft) : Type 0 where
  pub fits : Fits h d.step
  pub room : HasRoom h d.step
  pub body : IsBody version d.step.batch d.body
  pub learned : 0 < need → All IsLearned d.step.batch

-- the journal has room for the body, too
pub record HasPlace {K : Type 0} (journal : SnapshotForm K) (body : Option (List ℕ)) : Type 0 where
  pub within : (journal_of journal).length' + added body ≤ journal_limit
  pub spare : HasSpare journal.spare body

-- why an event makes no step

pub record IsPast (journal : Journal) (batch : List Record) (reply : Reply) : Type 0 where
  pub numbered : list_all is_numbered batch ≡ true
  pub past : journal_limit < journal.length' + added_len journal.version batch
  pub answer : reply ≡ JournalFull journal.length' (added_len journal.version batch)

abbrev pub IsHeldBack : Journal → Decision → Reply → Type 0
IsHeldBack journal (Refuses refusal) reply = reply ≡ refusal
IsHeldBack journal (Does effect) reply = (reply ≡ Memory) ⊎ IsPast journal effect.batch reply

-- the same journal with more reserved memory, on a disk with the same content
pub record IsRoomier {K : Type 0} (is_honest : K → Bool) (content : K → List ℕ) (moment : K → ℕ) (image : K → ℕ → List ℕ → Type 0) (faults : K → ℕ) (armings : K → Armings) (old new : SnapshotForm K) : Type 0 where
  pub live : new.live ≡ old.live
  pub batches : new.batches ≡ old.batches
  pub same : content new.disk ≡ content old.disk
  pub time : StandsStill (moment old.disk) (moment new.disk) (image old.disk) (image new.disk)
  pub failed : faults new.disk ≡ faults old.disk
  pub honest : is_honest new.disk ≡ is_honest old.disk
  pub armed : armings new.disk ≡ armings old.disk

-- what is written

abbrev pub with_octets : List (List ℕ) → Option (List ℕ) → List (List ℕ)
with_octets bodies None = bodies
with_octets bodies (Some octets) = bodies ++ octets ∷ []

-- octets are in doubt until they are on the disk
abbrev pub octets_in_doubt : Option (List ℕ) → List (List ℕ)
octets_in_doubt None = []
octets_in_doubt (Some octets) = octets ∷ []

abbrev pub HasOctets : Option (List ℕ) → Type 0
HasOctets None = Unit {0}
HasOctets (Some octets) = 0 < length octets

-- the disk that is left after a call
abbrev pub disk_left : {K : Type 0} → Result (SnapshotForm K) K → K
disk_left (Ok journal) = journal.disk
disk_left (Err disk) = disk

-- a crash image is never blank: it has the old batches, with the new octets in doubt, or the old ones and the new one
abbrev pub HoldsEither : {K : Type 0} → SnapshotForm K → Option (List ℕ) → List ℕ → Type 0
HoldsEither journal body image =
    (is_blank image ≡ false) × (Holds journal.live journal.batches (octets_in_doubt body) image ⊎ Holds journal.live (with_octets journal.batches body) [] image)
