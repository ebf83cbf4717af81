-- Keys of one master and one slave.
use Rattle.std.specs.Prelude.{◌≡◌, ◌∷◌, ◌++◌, [], true, replicate}
use Rattle.qkd_base.specs.declared.lane.Way.TheVariants.{Up, Down}
use Rattle.net_model.specs.declared.held.Held.TheVariants.{Absent, Given, Ready, Made, Kept as KeptKey}
use Rattle.net_model.specs.Action.{OutOfMemory, EntropyFault}
use Rattle.net_model.specs.declared.fact.Fact.TheVariants.{Key as FactKey}
use Rattle.net_model.specs.World.{World}
use Rattle.run_types.specs.declared.command.Command.TheVariants.{Bits, Fill, Tick, Settle, Pass, Enc, Dec, Status, Show}
use Rattle.run_types.specs.declared.end.Ends.TheVariants.{Both}
use Rattle.run_types.specs.declared.frame_result.FrameResult.TheVariants.{Taken}
use Rattle.run_model.specs.Play.{Whole}
use Rattle.model_examples.specs.Networks.{lane, key, note, octets_on, two_nodes}
use Rattle.model_examples.specs.Row.{row, line, line_by, at, took, Says, ran, ran_from, no_http, reported}
use Rattle.run_types.specs.declared.item.Item.TheVariants as items
use Rattle.run_types.specs.declared.payload_kind.PayloadKind.TheVariants as kinds
use Rattle.run_types.specs.declared.refusal.Refusal.TheVariants as refusals

-- two keys: too few for a request, then handed to the master and to the slave, to each once
abbrev pub Pools : Type 0
Pools =
    row (two_nodes (octets_on 0 64))
    (line (Bits 0 Both 2) ∷
    line (Fill 0 1 256 2) ∷
    line (Settle 10) ∷
    line (Status 0 0 1) ∷
    line (Enc 0 0 1 3 256) ∷
    line (Enc 0 0 1 2 256) ∷
    line (Dec 1 1 0 ((key 1) ∷ (key 3) ∷ [])) ∷
    line (Dec 1 1 0 ((key 1) ∷ [])) ∷
    line (Dec 1 1 0 ((key 2) ∷ (key 2) ∷ [])) ∷
    line (Dec 1 1 0 ((key 1) ∷ [])) ∷
    line (Enc 0 0 1 1 256) ∷
    line (Status 0 0 1) ∷ []) ≡ (
      took 1 0 2 ++
          (at 2 (items.Made 2 (key 1)) ∷
          at 3 (items.Ticked 0 2 0) ∷
          at 3 (items.Sent (lane 0 Up) 0 8 58) ∷
          at 3 (items.Sent (lane 0 Up) 1 74 58) ∷
          at 3 (items.Passed (lane 0 Up) 0 (Taken kinds.Key (key 1))) ∷
          at 3 (items.Passed (lane 0 Up) 1 (Taken kinds.Key (key 2))) ∷
          at 3 (items.Ticked 1 4 0) ∷
          at 3 (items.Sent (lane 0 Down) 0 8 17) ∷
          at 3 (items.Sent (lane 0 Down) 1 33 17) ∷
          at 3 (items.Sent (lane 0 Down) 2 58 36) ∷
          at 3 (items.Sent (lane 0 Down) 3 102 36) ∷
          at 3 (items.Passed (lane 0 Down) 0 (Taken kinds.Ack (key 1))) ∷
          at 3 (items.Passed (lane 0 Down) 1 (Taken kinds.Ack (key 2))) ∷
          at 3 (items.Passed (lane 0 Down) 2 (Taken kinds.Stored (note 1 1))) ∷
          at 3 (items.Passed (lane 0 Down) 3 (Taken kinds.Stored (note 1 2))) ∷
          at 3 (items.Ticked 0 2 0) ∷
          at 3 (items.Sent (lane 0 Up) 2 140 17) ∷
          at 3 (items.Sent (lane 0 Up) 3 165 17) ∷
          at 3 (items.Passed (lane 0 Up) 2 (Taken kinds.Ack (note 1 1))) ∷
          at 3 (items.Passed (lane 0 Up) 3 (Taken kinds.Ack (note 1 2))) ∷
          at 4 (items.Ready 2) ∷
          at 5 (items.Refused (refusals.Few 2)) ∷
          at 6 (items.Keys (((key 1), (octets_on 0 32)) ∷ ((key 2), (octets_on 32 32)) ∷ [])) ∷
          at 7 (items.Refused (refusals.Unknown 1)) ∷
          at 8 (items.Keys (((key 1), (octets_on 0 32)) ∷ [])) ∷
          at 9 (items.Refused (refusals.Repeated 1)) ∷
          at 10 (items.Refused (refusals.Handed 0)) ∷
          at 11 (items.Refused (refusals.Few 0)) ∷
          at 12 (items.Ready 0) ∷ []),
      Whole,
      true,
    )

-- the refusal names the first faulty place, and a slave may get a key before its master
abbrev pub Faults : Type 0
Faults =
    row (two_nodes (octets_on 0 64))
    (line (Bits 0 Both 2) ∷
    line (Fill 0 1 256 2) ∷
    line (Settle 10) ∷
    line (Dec 1 1 0 ((key 2) ∷ [])) ∷
    line (Dec 1 1 0 ((key 1) ∷ (key 2) ∷ (key 1) ∷ [])) ∷
    line (Dec 1 1 0 ((key 1) ∷ (key 1) ∷ (key 2) ∷ [])) ∷
    line (Dec 1 1 0 ((key 1) ∷ (key 2) ∷ (key 3) ∷ [])) ∷
    line (Enc 0 0 1 1 256) ∷
    line (Enc 0 0 1 1 256) ∷ []) ≡ (
      took 1 0 2 ++
          (at 2 (items.Made 2 (key 1)) ∷
          at 3 (items.Ticked 0 2 0) ∷
          at 3 (items.Sent (lane 0 Up) 0 8 58) ∷
          at 3 (items.Sent (lane 0 Up) 1 74 58) ∷
          at 3 (items.Passed (lane 0 Up) 0 (Taken kinds.Key (key 1))) ∷
          at 3 (items.Passed (lane 0 Up) 1 (Taken kinds.Key (key 2))) ∷
          at 3 (items.Ticked 1 4 0) ∷
          at 3 (items.Sent (lane 0 Down) 0 8 17) ∷
          at 3 (items.Sent (lane 0 Down) 1 33 17) ∷
          at 3 (items.Sent (lane 0 Down) 2 58 36) ∷
          at 3 (items.Sent (lane 0 Down) 3 102 36) ∷
          at 3 (items.Passed (lane 0 Down) 0 (Taken kinds.Ack (key 1))) ∷
          at 3 (items.Passed (lane 0 Down) 1 (Taken kinds.Ack (key 2))) ∷
          at 3 (items.Passed (lane 0 Down) 2 (Taken kinds.Stored (note 1 1))) ∷
          at 3 (items.Passed (lane 0 Down) 3 (Taken kinds.Stored (note 1 2))) ∷
          at 3 (items.Ticked 0 2 0) ∷
          at 3 (items.Sent (lane 0 Up) 2 140 17) ∷
          at 3 (items.Sent (lane 0 Up) 3 165 17) ∷
          at 3 (items.Passed (lane 0 Up) 2 (Taken kinds.Ack (note 1 1))) ∷
          at 3 (items.Passed (lane 0 Up) 3 (Taken kinds.Ack (note 1 2))) ∷
          at 4 (items.Keys (((key 2), (octets_on 32 32)) ∷ [])) ∷
          at 5 (items.Refused (refusals.Handed 1)) ∷
          at 6 (items.Refused (refusals.Repeated 1)) ∷
          at 7 (items.Refused (refusals.Handed 1)) ∷
          at 8 (items.Keys (((key 1), (octets_on 0 32)) ∷ [])) ∷
          at 9 (items.Keys (((key 2), (octets_on 32 32)) ∷ [])) ∷ []),
      Whole,
      true,
    )

-- a pair that is not allowed, a caller that is not at home, and a size without a pool
abbrev pub Entitled : Type 0
Entitled =
    row (two_nodes (octets_on 0 64))
    (line (Bits 0 Both 2) ∷
    line (Fill 1 0 256 1) ∷
    line (Enc 0 1 0 1 256) ∷
    line (Enc 1 0 1 1 256) ∷
    line (Dec 0 1 0 ((key 1) ∷ [])) ∷
    line (Status 1 0 1) ∷
    line (Fill 0 1 256 1) ∷
    line (Settle 10) ∷
    line (Enc 0 0 1 1 128) ∷
    line (Enc 0 0 1 1 256) ∷ []) ≡ (
      took 1 0 2 ++
          (at 2 (items.Refused refusals.NotAllowed) ∷
          at 3 (items.Refused refusals.NotAllowed) ∷
          at 4 (items.Refused refusals.NotAllowed) ∷
          at 5 (items.Refused refusals.NotAllowed) ∷
          at 6 (items.Refused refusals.NotAllowed) ∷
          at 7 (items.Made 1 (key 1)) ∷
          at 8 (items.Ticked 0 1 0) ∷
          at 8 (items.Sent (lane 0 Up) 0 8 58) ∷
          at 8 (items.Passed (lane 0 Up) 0 (Taken kinds.Key (key 1))) ∷
          at 8 (items.Ticked 1 2 0) ∷
          at 8 (items.Sent (lane 0 Down) 0 8 17) ∷
          at 8 (items.Sent (lane 0 Down) 1 33 36) ∷
          at 8 (items.Passed (lane 0 Down) 0 (Taken kinds.Ack (key 1))) ∷
          at 8 (items.Passed (lane 0 Down) 1 (Taken kinds.Stored (note 1 1))) ∷
          at 8 (items.Ticked 0 1 0) ∷
          at 8 (items.Sent (lane 0 Up) 1 74 17) ∷
          at 8 (items.Passed (lane 0 Up) 1 (Taken kinds.Ack (note 1 1))) ∷
          at 9 (items.Refused (refusals.Few 0)) ∷
          at 10 (items.Keys (((key 1), (octets_on 0 32)) ∷ [])) ∷ []),
      Whole,
      true,
    )

-- `enc` does not hand out a key that its target has not confirmed
abbrev pub NotReady : Type 0
NotReady =
    row (two_nodes (octets_on 0 32))
    (line (Bits 0 Both 2) ∷
    line (Fill 0 1 256 1) ∷
    line (Tick 0) ∷
    line (Pass (lane 0 Up) 0) ∷
    line (Enc 0 0 1 1 256) ∷
    line (Status 0 0 1) ∷
    line (Tick 1) ∷
    line (Pass (lane 0 Down) 1) ∷
    line (Status 0 0 1) ∷
    line (Enc 0 0 1 1 256) ∷ []) ≡ (
      took 1 0 2 ++
          (at 2 (items.Made 1 (key 1)) ∷
          at 3 (items.Ticked 0 1 0) ∷
          at 3 (items.Sent (lane 0 Up) 0 8 58) ∷
          at 4 (items.Passed (lane 0 Up) 0 (Taken kinds.Key (key 1))) ∷
          at 5 (items.Refused (refusals.Few 0)) ∷
          at 6 (items.Ready 0) ∷
          at 7 (items.Ticked 1 2 0) ∷
          at 7 (items.Sent (lane 0 Down) 0 8 17) ∷
          at 7 (items.Sent (lane 0 Down) 1 33 36) ∷
          at 8 (items.Passed (lane 0 Down) 1 (Taken kinds.Stored (note 1 1))) ∷
          at 9 (items.Ready 1) ∷
          at 10 (items.Keys (((key 1), (octets_on 0 32)) ∷ [])) ∷ []),
      Whole,
      true,
    )

-- what an operator is shown of a key, without bytes that are no longer needed
abbrev pub ShownKeys : Type 0
ShownKeys =
    row (two_nodes (octets_on 0 32))
    (line (Bits 0 Both 2) ∷
    line (Fill 0 1 256 1) ∷
    line (Tick 0) ∷
    line (Show 1 (key 1)) ∷
    line (Pass (lane 0 Up) 0) ∷
    line (Show 1 (key 1)) ∷
    line (Show 0 (key 1)) ∷
    line (Settle 10) ∷
    line (Show 0 (key 1)) ∷
    line (Enc 0 0 1 1 256) ∷
    line (Show 0 (key 1)) ∷
    line (Dec 1 1 0 ((key 1) ∷ [])) ∷
    line (Show 1 (key 1)) ∷
    line (Show 1 (note 1 1)) ∷ []) ≡ (
      took 1 0 2 ++
          (at 2 (items.Made 1 (key 1)) ∷
          at 3 (items.Ticked 0 1 0) ∷
          at 3 (items.Sent (lane 0 Up) 0 8 58) ∷
          at 4 (items.Shown 1 (key 1) Absent []) ∷
          at 5 (items.Passed (lane 0 Up) 0 (Taken kinds.Key (key 1))) ∷
          at 6 (items.Shown 1 (key 1) KeptKey (octets_on 0 32)) ∷
          at 7 (items.Shown 0 (key 1) Made (octets_on 0 32)) ∷
          at 8 (items.Ticked 1 2 0) ∷
          at 8 (items.Sent (lane 0 Down) 0 8 17) ∷
          at 8 (items.Sent (lane 0 Down) 1 33 36) ∷
          at 8 (items.Passed (lane 0 Down) 0 (Taken kinds.Ack (key 1))) ∷
          at 8 (items.Passed (lane 0 Down) 1 (Taken kinds.Stored (note 1 1))) ∷
          at 8 (items.Ticked 0 1 0) ∷
          at 8 (items.Sent (lane 0 Up) 1 74 17) ∷
          at 8 (items.Passed (lane 0 Up) 1 (Taken kinds.Ack (note 1 1))) ∷
          at 9 (items.Shown 0 (key 1) Ready (octets_on 0 32)) ∷
          at 10 (items.Keys (((key 1), (octets_on 0 32)) ∷ [])) ∷
          at 11 (items.Shown 0 (key 1) Given []) ∷
          at 12 (items.Keys (((key 1), (octets_on 0 32)) ∷ [])) ∷
          at 13 (items.Shown 1 (key 1) Given []) ∷
          at 14 (items.Shown 1 (note 1 1) Absent []) ∷ []),
      Whole,
      true,
    )

-- too few octets, a fault of the entropy, no memory: nothing changes
abbrev pub ShortEntropy : Type 0
ShortEntropy =
    row (two_nodes (octets_on 0 31))
    (line (Bits 0 Both 2) ∷
    line (Fill 0 1 256 1) ∷
    line_by (Fill 0 1 64 1) (Says EntropyFault ∷ []) ∷
    line_by (Fill 0 1 64 1) (Says OutOfMemory ∷ []) ∷
    line (Fill 0 1 64 3) ∷
    line (Fill 0 1 64 1) ∷ []) ≡ (
      took 1 0 2 ++
          (at 2 (items.Refused refusals.NoRandom) ∷
          at 3 (items.Refused refusals.NoRandom) ∷
          at 4 (items.Refused refusals.Memory) ∷
          at 5 (items.Made 3 (key 1)) ∷
          at 6 (items.Refused refusals.NoRandom) ∷ []),
      Whole,
      true,
    )

-- a full pool: 4,096 keys of it are known, in a world that is made up for this
abbrev pub crowded : World → World
crowded w = record w { durable = record (w.durable) { facts = FactKey (key 1) 0 1 (0 ∷ 1 ∷ []) (replicate 8 0) ∷ []; known = λ v. replicate 4096 (key 1) } }

abbrev pub FullPool : Type 0
FullPool =
    reported (ran_from no_http (two_nodes (octets_on 0 16)) (crowded (ran (two_nodes (octets_on 0 16)) []).world) (line (Fill 0 1 64 1) ∷ line (Fill 0 1 128 1) ∷ [])) ≡ (
      at 1 (items.Refused refusals.PoolFull) ∷ at 2 (items.Made 1 (key 2)) ∷ [],
      Whole,
      true,
    )
