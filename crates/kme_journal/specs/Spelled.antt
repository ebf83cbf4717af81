-- Batches as octets.
use Rattle.std.specs.Prelude.{◌≡◌, ℕ, ◌+◌, ◌≤◌, ◌==◌, List, [], ◌∷◌, ◌++◌, length, Option, Some, None, if◌then◌else◌}
use Rattle.std.specs.List.{All}
use Rattle.net_model.specs.declared.record.Record.{Record}
use Rattle.net_model.specs.declared.record.Record.TheVariants.{Block, Lease, Learned, Acked, Handed, Closed, Bare}
use Rattle.net_model.specs.Formed.{IsWellFormedRecord}
use Rattle.net_model.specs.Journal.{body_len}
use Rattle.journal_records.specs.declared.version.Version.{Version}
use Rattle.journal_records.specs.declared.version.Version.TheVariants.{First, Second}
use Rattle.journal_records.specs.Grammar.{IsLearned, IsBatch, body_octets}

-- the format version with this number
abbrev pub version_named : ℕ → Version
version_named number = if number == 1 then First else Second

-- the octets of a batch in this version
abbrev pub body : ℕ → List Record → List ℕ
body version batch = body_octets (version_named version) batch

-- the bodies on a disk and a new batch, if it isn't empty
abbrev pub with_batch : ℕ → List (List ℕ) → List Record → List (List ℕ)
with_batch version bodies [] = bodies
with_batch version bodies (r ∷ rs) = bodies ++ body version (r ∷ rs) ∷ []

-- the octets of a batch, which are in doubt until they are on the disk
abbrev pub batch_in_doubt : ℕ → List Record → List (List ℕ)
batch_in_doubt version [] = []
batch_in_doubt version (r ∷ rs) = body version (r ∷ rs) ∷ []

-- a record that an event may make; records of facts without their bytes are only in checkpoints
abbrev pub IsMade : Record → Type 0
IsMade (Block link number bytes) = IsWellFormedRecord (Block link number bytes)
IsMade (Lease lane end) = IsWellFormedRecord (Lease lane end)
IsMade (Learned f) = IsWellFormedRecord (Learned f)
IsMade (Acked n) = IsWellFormedRecord (Acked n)
IsMade (Handed n sae) = IsWellFormedRecord (Handed n sae)
IsMade (Closed n sae) = IsWellFormedRecord (Closed n sae)
IsMade (Bare f) = ⊥

-- a batch of 1 to 65,535 records, and its octets
pub record IsSpelling (version : ℕ) (batch : List Record) (octets : List ℕ) : Type 0 where
  pub some : 1 ≤ length batch
  pub few : length batch ≤ 65535
  pub formed : All IsMade batch
  pub is : octets ≡ body version batch
  pub size : length octets ≡ body_len version batch
  pub grammar : IsBatch (version_named version) batch

-- nothing is written for an empty batch
abbrev pub IsBody : ℕ → List Record → Option (List ℕ) → Type 0
IsBody version batch None = batch ≡ []
IsBody version batch (Some octets) = IsSpelling version batch octets

-- the octets are those of the batch in some version
abbrev pub HasBody : List Record → Option (List ℕ) → Type 0
HasBody batch octets = (version : ℕ) × IsBody version batch octets

-- a batch of learned facts, and as many octets as it takes
pub record IsAsLong (batch : List Record) (octets : List ℕ) : Type 0 where
  pub some : 1 ≤ length batch
  pub few : length batch ≤ 65535
  pub formed : All IsMade batch
  pub learned : All IsLearned batch
  pub as_long : length octets ≡ body_len 1 batch

abbrev pub MayRespell : List Record → Option (List ℕ) → Type 0
MayRespell batch None = batch ≡ []
MayRespell batch (Some octets) = IsAsLong batch octets

-- the number of octets that a body adds to a journal: its gate, its length and itself
abbrev pub added : Option (List ℕ) → ℕ
added None = 0
added (Some octets) = length octets + 5
