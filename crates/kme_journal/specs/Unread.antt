-- Batches of a journal that can't be read.
use Rattle.std.specs.Prelude.{◌≡◌, ℕ, ◌+◌, List, length, take, slice_get, Some}
use Rattle.net_model.specs.declared.record.Record.{Record}
use Rattle.range_journal.specs.Batches.{spelled}
use Rattle.kme_journal.specs.BatchRecovery.{IsReadAs, AreReadAs}
use Rattle.kme_journal.specs.declared.refusal.RecoverRefusal.{RecoverRefusal}
use Rattle.kme_journal.specs.declared.refusal.RecoverRefusal.TheVariants.{Stopped, Foreign, Memory}

-- the offset of a batch's gate, which is after the batches before it
abbrev pub gate_at : ℕ → List (List ℕ) → ℕ → ℕ
gate_at start bodies place = start + length (spelled (take place bodies))

-- the batches before this gate can be read, and the one at it can't
pub record IsUnreadable (version start : ℕ) (bodies : List (List ℕ)) (gate : ℕ) : Type 0 where
  pub place : ℕ
  pub octets : List ℕ
  pub there : slice_get bodies place ≡ Some octets
  pub none : (batch : List Record) → IsReadAs version octets batch → ⊥
  pub before : (story : List (List Record)) × AreReadAs version (take place bodies) story
  pub at : gate ≡ gate_at start bodies place

abbrev pub IsUnread : ℕ → ℕ → List (List ℕ) → RecoverRefusal → Type 0
IsUnread version start bodies Stopped = ⊥
IsUnread version start bodies (Foreign gate) = IsUnreadable version start bodies gate
IsUnread version start bodies Memory = Unit {0}
