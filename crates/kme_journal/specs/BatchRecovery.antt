-- What is read from a journal.
use Rattle.std.specs.Prelude.{◌≡◌, ℕ, List, map, take, slice_get, Some}
use Rattle.std.specs.List.{All}
use Rattle.net_model.specs.declared.record.Record.{Record}
use Rattle.journal_records.specs.Grammar.{IsBatch}
use Rattle.journal_records.specs.declared.record_refusal.RecordRefusal.{RecordRefusal}
use Rattle.journal_records.specs.declared.record_refusal.RecordRefusal.TheVariants.{NotARecord, Memory}
use Rattle.kme_journal.specs.Spelled.{body, version_named}

-- the octets stand for this batch in a format version
pub record IsReadAs (version : ℕ) (octets : List ℕ) (batch : List Record) : Type 0 where
  pub is : octets ≡ body version batch
  pub grammar : IsBatch (version_named version) batch

-- the octets are no valid batch, or memory ran out
abbrev pub IsNoBatch : ℕ → List ℕ → RecordRefusal → Type 0
IsNoBatch version octets (NotARecord place) = (batch : List Record) → IsReadAs version octets batch → ⊥
IsNoBatch version octets Memory = Unit {0}

-- the bodies of a journal stand for these batches
pub record AreReadAs (version : ℕ) (bodies : List (List ℕ)) (story : List (List Record)) : Type 0 where
  pub spelled : bodies ≡ map (body version) story
  pub each : All (IsBatch (version_named version)) story

-- the bodies before this place are valid batches, and the one at this place isn't
pub record Misreads (version : ℕ) (bodies : List (List ℕ)) (why : RecordRefusal) (place : ℕ) : Type 0 where
  pub octets : List ℕ
  pub there : slice_get bodies place ≡ Some octets
  pub none : IsNoBatch version octets why
  pub before : (story : List (List Record)) × AreReadAs version (take place bodies) story
