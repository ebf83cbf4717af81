-- Owed answers: responses that are encoded and not written yet.
use Rattle.std.specs.Prelude.{◌≡◌, ℕ, ◌<◌, true, List, [], ◌++◌, length, Option, Result, Ok, Err}
use Rattle.std.specs.Io.KnownBytes.{Appends}
use Rattle.edge_io.specs.Writes.{AppendsPrefix}
use Rattle.edge_io.specs.declared.ended.Ended.{Ended}
use Rattle.edge_io.specs.declared.ended.Ended.TheVariants as endings
use Rattle.kme_serve.specs.Connection.{RoseOnly}

-- `more` was added to what was owed. A prefix of all this was written, and the rest is owed.
abbrev pub Owes : (before after : Option (List ℕ)) → (owed more owed_after : List ℕ) → Type 0
Owes before after owed more owed_after = (sent : List ℕ) × Appends before after sent × (sent ++ owed_after ≡ owed ++ more)

-- The sink failed while the owed octets were written, and took a prefix of them.
abbrev pub IsUnpaid : (before after : Option (List ℕ)) → (faults_before faults_after : ℕ) → (owed : List ℕ) → Type 0
IsUnpaid before after faults_before faults_after owed = AppendsPrefix before after owed × RoseOnly true faults_before faults_after × (0 < length owed)

-- All owed octets were written.
abbrev pub IsPaid : {T E : Type 0} → (before after : Option (List ℕ)) → (faults_before faults_after : ℕ) → (owed owed_after : List ℕ) → Result T E → Type 0
IsPaid before after faults_before faults_after owed owed_after (Ok done) = Appends before after owed × (owed_after ≡ []) × (faults_after ≡ faults_before)
IsPaid before after faults_before faults_after owed owed_after (Err e) = IsUnpaid before after faults_before faults_after owed

-- These octets were added to the owed ones.
abbrev pub IsOwed : {T E : Type 0} → (before after : Option (List ℕ)) → (faults_before faults_after : ℕ) → (owed owed_after more : List ℕ) → Result T E → Type 0
IsOwed before after faults_before faults_after owed owed_after more (Ok done) = Owes before after owed more owed_after × (faults_after ≡ faults_before)
IsOwed before after faults_before faults_after owed owed_after more (Err e) = IsUnpaid before after faults_before faults_after owed

-- A connection ends because memory ran out, after what was owed was written.
abbrev pub IsGivenUp : (before after : Option (List ℕ)) → (faults_before faults_after : ℕ) → (owed : List ℕ) → Ended → Type 0
IsGivenUp before after faults_before faults_after owed endings.Memory = Appends before after owed × (faults_after ≡ faults_before)
IsGivenUp before after faults_before faults_after owed endings.WriteFault = IsUnpaid before after faults_before faults_after owed
IsGivenUp before after faults_before faults_after owed ended = ⊥
