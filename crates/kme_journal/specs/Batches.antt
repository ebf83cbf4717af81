-- Records, split into batches.
use Rattle.std.specs.Prelude.{◌≡◌, ℕ, ◌+◌, ◌/◌, ◌≤◌, List, ◌++◌, length, map}
use Rattle.std.specs.List.{All, flat_map}
use Rattle.net_model.specs.declared.record.Record.{Record}
use Rattle.net_model.specs.Formed.{IsWellFormedRecord}
use Rattle.net_model.specs.Journal.{block_records, batches_of}
use Rattle.net_model.specs.View.{Port}
use Rattle.journal_records.specs.Grammar.{IsBatch, body_octets}
use Rattle.journal_records.specs.declared.version.Version.TheVariants.{Second}

-- the bodies are these batches in format version 2, and each batch is valid
pub record AreSpelled (batches : List (List Record)) (bodies : List (List ℕ)) : Type 0 where
  pub octets : bodies ≡ map (body_octets Second) batches
  pub grammar : All (IsBatch Second) batches

-- the full batches as octets, and the records of the last one
pub record Gathered : Type 0 where
  pub full : List (List ℕ)
  pub rest : List Record

-- a batch has at most 65,535 records, and each is well formed
pub record IsRest (rest : List Record) : Type 0 where
  pub few : length rest ≤ 65535
  pub formed : All IsWellFormedRecord rest

abbrev pub IsFull : List Record → Type 0
IsFull batch = length batch ≡ 65535

-- the batches have exactly these records so far
pub record Gathers (g : Gathered) (rs : List Record) : Type 0 where
  pub batches : List (List Record)
  pub whole : All IsFull batches
  pub spelled : AreSpelled batches g.full
  pub all : flat_map (λ b. b) batches ++ g.rest ≡ rs

-- records split into batches, of which all but the last are full
abbrev pub batches_in : List Record → List (List Record)
batches_in rs = batches_of ((length rs + 65534) / 65535) rs

-- the blocks of an end, as records
abbrev pub blocks_of : Port → List Record
blocks_of p = block_records p.lane.link 0 p.blocks
