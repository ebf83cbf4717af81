-- Opening a journal: what must hold before, and what the result says.
use Rattle.std.specs.Prelude.{◌≡◌, ◌⊎◌, ◌≤◌, ℕ, Bool, true, false, IsTrue, List, length, Result, Ok, Err, IfOk, IfErr}
use Rattle.qkd_base.specs.Faults.{Rose}
use Rattle.disk_model.specs.Images.{Only, AtEachMoment}
use Rattle.disk_model.specs.declared.allowance.Allowance.{Allowance}
use Rattle.range_journal.specs.Journal.{JournalForm}
use Rattle.range_journal.specs.Closing.{IsReadOrClosing}
use Rattle.range_journal.specs.Header.{is_blank, IsHeaded, HasOtherHead, StandsFor}
use Rattle.range_journal.specs.Reading.{IsForeign, is_disk}
use Rattle.range_journal.specs.declared.refusal.JournalRefusal.{JournalRefusal}
use Rattle.range_journal.specs.declared.refusal.JournalRefusal.TheVariants.{JournalFull, Memory, Disk, Foreign}

-- The disk has `size` octets, all synced, and enough allowance to close a gate.
pub record MayRead (is_honest : Bool) (content : List ℕ) (images : List ℕ → Type 0) (a : Allowance) (start size : ℕ) : Type 0 where
  pub long : IsTrue is_honest → size ≡ length content
  pub durable : IsTrue is_honest → Only content images
  pub at : start ≤ size
  pub granted : IsTrue a.granted
  pub left : 1 ≤ a.left
  pub used : a.used ≤ 10

-- the disk that each result hands back
abbrev pub disk_in : {K : Type 0} → Result (JournalForm K) (JournalRefusal × K) → K
disk_in (Ok journal) = journal.disk
disk_in (Err refusal) = refusal.1

-- whether a refusal says that the disk failed
abbrev pub is_refused_by_disk : {T K : Type 0} → Result T (JournalRefusal × K) → Bool
is_refused_by_disk (Ok done) = false
is_refused_by_disk (Err refusal) = is_disk refusal.0

-- The disk has `size` octets, all synced, and enough allowance for a new head.
pub record MayOpen (is_honest : Bool) (content : List ℕ) (images : List ℕ → Type 0) (a : Allowance) (size : ℕ) : Type 0 where
  pub long : IsTrue is_honest → size ≡ length content
  pub durable : IsTrue is_honest → Only content images
  pub granted : IsTrue a.granted
  pub reach : 17 ≤ a.reach
  pub left : 17 ≤ a.left
  pub used : a.used ≤ 1

-- The content is no journal's, from this place on.
abbrev pub IsRefusedAt : List ℕ → ℕ → Type 0
IsRefusedAt content place = (is_blank content ≡ false) × (HasOtherHead content place ⊎ (IsHeaded content × IsForeign content 16 place))

abbrev pub Refuses : Bool → List ℕ → ℕ → ℕ → JournalRefusal → Type 0
Refuses is_honest content before now Disk = Rose before now
Refuses is_honest content before now Memory = Unit {0}
Refuses is_honest content before now (JournalFull size need) = ⊥
Refuses is_honest content before now (Foreign place) = IsTrue is_honest → IsRefusedAt content place

-- What a crash may leave while a blank disk gets a new head: at most 17 octets, which are blank or the new head with some gate.
pub record IsMadeNew (content image : List ℕ) : Type 0 where
  pub blank : is_blank content ≡ true
  pub short : length image ≤ 17

-- What a crash may leave while a journal is opened: its content; the content with another octet for a gate that was neither open nor
-- closed; or, if the disk was blank, at most 17 octets that are blank or the new head with some gate.
abbrev pub IsOpening : List ℕ → List ℕ → Type 0
IsOpening content image = IsReadOrClosing 16 content image ⊎ IsMadeNew content image

-- The journal is opened from one of the images that the disk might have after a crash.
pub record Opens {K : Type 0} (is_honest : K → Bool) (content : K → List ℕ) (moment : K → ℕ) (image : K → ℕ → List ℕ → Type 0) (faults : K → ℕ) (disk : K) (result : Result (JournalForm K) (JournalRefusal × K)) (read : List ℕ) : Type 0 where
  pub was : IsTrue (is_honest disk) → image disk (moment disk) read
  pub opened : IfOk result (λ j. (j.start ≡ 16) × (j.spare ≡ 0) × (IsTrue (is_honest disk) → StandsFor read j.batches))
  pub refused : IfErr result (λ e. Refuses (is_honest disk) read (faults disk) (faults e.1) e.0)
  pub moments : AtEachMoment moment image disk (disk_in result) (λ i. IsTrue (is_honest disk) → image disk (moment disk) i ⊎ IsOpening read i)
