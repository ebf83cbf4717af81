-- Random octets that are drawn for a batch.
use Rattle.std.specs.Prelude.{ℕ, Bool, false, List, [], ◌∷◌, ◌++◌, length, take, drop, if◌then◌else◌}
use Rattle.qkd_base.specs.Name.{Name, name_eq}
use Rattle.net_model.specs.declared.fact.Fact.{Fact}
use Rattle.net_model.specs.declared.fact.Fact.TheVariants.{Key, Chunk, Part}
use Rattle.net_model.specs.declared.record.Record.{Record}
use Rattle.net_model.specs.declared.record.Record.TheVariants.{Learned}
use Rattle.net_model.specs.Decision.{Decision, Refuses, Does}

-- The octets replace the first bytes, as many as both lists have.
abbrev pub over : List ℕ → List ℕ → List ℕ
over random bytes = take (length bytes) random ++ drop (length random) bytes

-- a key, chunk or part whose first bytes are replaced by the drawn octets
abbrev pub fact_over : List ℕ → Fact → Fact
fact_over random (Key name master slave route bytes) = Key name master slave route (over random bytes)
fact_over random (Chunk name stream index route bytes) = Chunk name stream index route (over random bytes)
fact_over random (Part name key master slave route bytes) = Part name key master slave route (over random bytes)
fact_over random f = f

abbrev pub record_over : List ℕ → Record → Record
record_over random (Learned f) = Learned (fact_over random f)
record_over random r = r

-- the next record tells a part of this group key
abbrev pub has_part_next : Name → List Record → Bool
has_part_next key (Learned (Part name of master slave route bytes) ∷ rs) = name_eq of key
has_part_next key _ = false

-- How many octets a fact uses up before the next records. The parts of one group key share their octets, so only the last part
-- uses them up.
abbrev pub fact_spends : Fact → List Record → ℕ
fact_spends (Key name master slave route bytes) rs = length bytes
fact_spends (Chunk name stream index route bytes) rs = length bytes
fact_spends (Part name key master slave route bytes) rs = if has_part_next key rs then 0 else length bytes
fact_spends f rs = 0

abbrev pub spends : Record → List Record → ℕ
spends (Learned f) rs = fact_spends f rs
spends r rs = 0

-- how many octets the first record uses up
abbrev pub first_spends : List Record → ℕ
first_spends [] = 0
first_spends (r ∷ rs) = spends r rs

-- a batch in which each key, each chunk and each group key (in all of its parts) has the next drawn octets of its length
abbrev pub with_random : List ℕ → List Record → List Record
with_random random [] = []
with_random random (r ∷ rs) = record_over random r ∷ with_random (drop (spends r rs) random) rs

-- the decision whose batch has the drawn octets
abbrev pub decision_over : List ℕ → Decision → Decision
decision_over random (Refuses r) = Refuses r
decision_over random (Does e) = Does (record e { batch = with_random random e.batch })
