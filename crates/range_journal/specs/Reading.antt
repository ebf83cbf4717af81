-- Reading the batches of a disk.
use Rattle.std.specs.Prelude.{◌≡◌, ◌≢◌, ◌⊎◌, ◌≤◌, ◌<◌, ℕ, ◌+◌, ◌^◌, List, ◌∷◌, ◌++◌, length, drop, Bool, true, false, IsTrue, Result, Ok, Err}
use Rattle.std.specs.Int.{w32, to_be_bytes}
use Rattle.qkd_base.specs.Faults.{Rose}
use Rattle.range_journal.specs.Batches.{LacksBatch, AreShort, spelled}
use Rattle.range_journal.specs.declared.refusal.JournalRefusal.{JournalRefusal}
use Rattle.range_journal.specs.declared.refusal.JournalRefusal.TheVariants.{JournalFull, Memory, Disk, Foreign}
use Rattle.range_journal.specs.declared.batch_reader.Found.{Found}
use Rattle.range_journal.specs.declared.batch_reader.Next.{Next}
use Rattle.range_journal.specs.declared.batch_reader.Next.TheVariants.{Shut, Batch}

-- whether the disk failed, by the refusal or by the result
abbrev pub is_disk : JournalRefusal → Bool
is_disk Disk = true
is_disk Memory = false
is_disk (JournalFull size need) = false
is_disk (Foreign place) = false

abbrev pub has_failed : {T : Type 0} → Result T JournalRefusal → Bool
has_failed (Ok done) = false
has_failed (Err why) = is_disk why

-- The disk failed, and its count of faults rose, or memory ran out.
abbrev pub IsFaulty : ℕ → ℕ → JournalRefusal → Type 0
IsFaulty before now Disk = Rose before now
IsFaulty before now Memory = Unit {0}
IsFaulty before now (JournalFull size need) = ⊥
IsFaulty before now (Foreign place) = ⊥

-- what the content has at the place of a gate: a gate that isn't open, or a batch behind an open one
abbrev pub IsNext : List ℕ → ℕ → Next → Type 0
IsNext content place (Shut gate) = (gate ≢ 1) × (drop place content ≡ gate ∷ drop (place + 1) content)
IsNext content place (Batch body) = drop place content ≡ 1 ∷ to_be_bytes w32 (length body) ++ body ++ drop (place + 5 + length body) content

abbrev pub FitsNext : ℕ → ℕ → Next → Type 0
FitsNext place size (Shut gate) = (place < size) × (gate ≢ 1)
FitsNext place size (Batch body) = (place + 5 + length body ≤ size) × (length body < 2 ^ 32)

-- The content ends before a gate, or the gate is open and no whole batch follows it. The place is that of the missing gate, or of the open one.
abbrev pub IsForeignAt : List ℕ → ℕ → ℕ → Type 0
IsForeignAt content place answer = ((length content ≤ place) × (answer ≡ length content)) ⊎ (LacksBatch (drop place content) × (answer ≡ place))

-- Why no gate and no batch could be read at the place.
abbrev pub IsUnread : Bool → List ℕ → ℕ → ℕ → ℕ → JournalRefusal → Type 0
IsUnread is_honest content place before now Disk = Rose before now
IsUnread is_honest content place before now Memory = Unit {0}
IsUnread is_honest content place before now (JournalFull size need) = ⊥
IsUnread is_honest content place before now (Foreign answer) = IsTrue is_honest → IsForeignAt content place answer

-- From its start on the content has these batches, and then this gate.
pub record HasFound (content : List ℕ) (start : ℕ) (found : Found) : Type 0 where
  pub is : drop start content ≡ spelled found.batches.items ++ found.gate ∷ drop (found.place + 1) content

pub record FitsFound (start size : ℕ) (found : Found) : Type 0 where
  pub place : found.place ≡ start + length (spelled found.batches.items)
  pub within : found.place < size
  pub shut : found.gate ≢ 1
  pub short : AreShort found.batches.items

-- From its start on the content has some batches, and then no gate, or an open gate without a whole batch behind it.
pub record IsForeign (content : List ℕ) (start answer : ℕ) : Type 0 where
  pub batches : List (List ℕ)
  pub short : AreShort batches
  pub is : drop start content ≡ spelled batches ++ drop (start + length (spelled batches)) content
  pub at : IsForeignAt content (start + length (spelled batches)) answer

abbrev pub StopsReading : Bool → List ℕ → ℕ → ℕ → ℕ → JournalRefusal → Type 0
StopsReading is_honest content start before now Disk = Rose before now
StopsReading is_honest content start before now Memory = Unit {0}
StopsReading is_honest content start before now (JournalFull size need) = ⊥
StopsReading is_honest content start before now (Foreign answer) = IsTrue is_honest → IsForeign content start answer
