-- A key over a relay node.
use Rattle.std.specs.Prelude.{◌≡◌, ◌∷◌, ◌++◌, [], true}
use Rattle.qkd_base.specs.declared.lane.Way.TheVariants.{Up, Down}
use Rattle.net_model.specs.declared.held.Held.TheVariants.{Ready, Kept as KeptKey, Relayed}
use Rattle.run_types.specs.declared.command.Command.TheVariants.{Bits, Fill, Tick, Settle, Pass, Crash, Start, Show, Ledger}
use Rattle.run_types.specs.declared.end.Ends.TheVariants.{Both}
use Rattle.run_types.specs.declared.frame_result.FrameResult.TheVariants.{Taken, Again}
use Rattle.run_model.specs.Play.{Whole}
use Rattle.model_examples.specs.Networks.{lane, key, note, counts, octets_on, three_in_line}
use Rattle.model_examples.specs.Row.{row, line, at, took}
use Rattle.run_types.specs.declared.item.Item.TheVariants as items
use Rattle.run_types.specs.declared.payload_kind.PayloadKind.TheVariants as kinds
use Rattle.run_types.specs.declared.start_result.StartResult.TheVariants as starts

-- a key over a relay node, with the acknowledgement of each hop
abbrev pub Relay : Type 0
Relay =
    row (three_in_line (octets_on 0 32))
    (line (Bits 0 Both 2) ∷
    line (Bits 1 Both 2) ∷
    line (Fill 0 1 256 1) ∷
    line (Settle 20) ∷
    line (Ledger (lane 0 Up)) ∷
    line (Ledger (lane 0 Down)) ∷
    line (Ledger (lane 1 Up)) ∷
    line (Ledger (lane 1 Down)) ∷
    line (Show 0 (key 1)) ∷
    line (Show 1 (key 1)) ∷
    line (Show 2 (key 1)) ∷ []) ≡ (
      took 1 0 2 ++
          took 2 1 2 ++
          (at 3 (items.Made 1 (key 1)) ∷
          at 4 (items.Ticked 0 1 0) ∷
          at 4 (items.Sent (lane 0 Up) 0 8 59) ∷
          at 4 (items.Passed (lane 0 Up) 0 (Taken kinds.Key (key 1))) ∷
          at 4 (items.Ticked 1 2 0) ∷
          at 4 (items.Sent (lane 0 Down) 0 8 17) ∷
          at 4 (items.Sent (lane 1 Up) 0 8 59) ∷
          at 4 (items.Passed (lane 0 Down) 0 (Taken kinds.Ack (key 1))) ∷
          at 4 (items.Passed (lane 1 Up) 0 (Taken kinds.Key (key 1))) ∷
          at 4 (items.Ticked 2 2 0) ∷
          at 4 (items.Sent (lane 1 Down) 0 8 17) ∷
          at 4 (items.Sent (lane 1 Down) 1 33 37) ∷
          at 4 (items.Passed (lane 1 Down) 0 (Taken kinds.Ack (key 1))) ∷
          at 4 (items.Passed (lane 1 Down) 1 (Taken kinds.Stored (note 2 1))) ∷
          at 4 (items.Ticked 1 2 0) ∷
          at 4 (items.Sent (lane 0 Down) 1 33 37) ∷
          at 4 (items.Sent (lane 1 Up) 1 75 17) ∷
          at 4 (items.Passed (lane 0 Down) 1 (Taken kinds.Stored (note 2 1))) ∷
          at 4 (items.Passed (lane 1 Up) 1 (Taken kinds.Ack (note 2 1))) ∷
          at 4 (items.Ticked 0 1 0) ∷
          at 4 (items.Sent (lane 0 Up) 1 75 17) ∷
          at 4 (items.Passed (lane 0 Up) 1 (Taken kinds.Ack (note 2 1))) ∷
          at 5 (items.Counted (lane 0 Up) (counts 1024 924 100 0)) ∷
          at 6 (items.Counted (lane 0 Down) (counts 1024 946 78 0)) ∷
          at 7 (items.Counted (lane 1 Up) (counts 1024 924 100 0)) ∷
          at 8 (items.Counted (lane 1 Down) (counts 1024 946 78 0)) ∷
          at 9 (items.Shown 0 (key 1) Ready (octets_on 0 32)) ∷
          at 10 (items.Shown 1 (key 1) Relayed []) ∷
          at 11 (items.Shown 2 (key 1) KeptKey (octets_on 0 32)) ∷ []),
      Whole,
      true,
    )

-- the relay node crashes while it has the key: after its start it relays the key, and the origin sends it again
abbrev pub RelayCrash : Type 0
RelayCrash =
    row (three_in_line (octets_on 0 32))
    (line (Bits 0 Both 2) ∷
    line (Bits 1 Both 2) ∷
    line (Fill 0 1 256 1) ∷
    line (Tick 0) ∷
    line (Pass (lane 0 Up) 0) ∷
    line (Crash 1) ∷
    line (Start 1) ∷
    line (Settle 20) ∷
    line (Ledger (lane 0 Up)) ∷
    line (Ledger (lane 0 Down)) ∷
    line (Ledger (lane 1 Up)) ∷
    line (Ledger (lane 1 Down)) ∷
    line (Show 0 (key 1)) ∷ []) ≡ (
      took 1 0 2 ++
          took 2 1 2 ++
          (at 3 (items.Made 1 (key 1)) ∷
          at 4 (items.Ticked 0 1 0) ∷
          at 4 (items.Sent (lane 0 Up) 0 8 59) ∷
          at 5 (items.Passed (lane 0 Up) 0 (Taken kinds.Key (key 1))) ∷
          at 6 items.Crashed ∷
          at 7 (items.Start starts.Started) ∷
          at 8 (items.Ticked 1 1 0) ∷
          at 8 (items.Sent (lane 1 Up) 0 8 59) ∷
          at 8 (items.Passed (lane 1 Up) 0 (Taken kinds.Key (key 1))) ∷
          at 8 (items.Ticked 2 2 0) ∷
          at 8 (items.Sent (lane 1 Down) 0 8 17) ∷
          at 8 (items.Sent (lane 1 Down) 1 33 37) ∷
          at 8 (items.Passed (lane 1 Down) 0 (Taken kinds.Ack (key 1))) ∷
          at 8 (items.Passed (lane 1 Down) 1 (Taken kinds.Stored (note 2 1))) ∷
          at 8 (items.Ticked 1 2 0) ∷
          at 8 (items.Sent (lane 0 Down) 0 8 37) ∷
          at 8 (items.Sent (lane 1 Up) 1 75 17) ∷
          at 8 (items.Passed (lane 0 Down) 0 (Taken kinds.Stored (note 2 1))) ∷
          at 8 (items.Passed (lane 1 Up) 1 (Taken kinds.Ack (note 2 1))) ∷
          at 8 (items.Ticked 0 1 1) ∷
          at 8 (items.Sent (lane 0 Up) 1 8 59) ∷
          at 8 (items.Sent (lane 0 Up) 2 75 17) ∷
          at 8 (items.Passed (lane 0 Up) 1 (Again kinds.Key (key 1))) ∷
          at 8 (items.Passed (lane 0 Up) 2 (Taken kinds.Ack (note 2 1))) ∷
          at 8 (items.Ticked 1 1 0) ∷
          at 8 (items.Sent (lane 0 Down) 1 53 17) ∷
          at 8 (items.Passed (lane 0 Down) 1 (Taken kinds.Ack (key 1))) ∷
          at 9 (items.Counted (lane 0 Up) (counts 1024 924 100 0)) ∷
          at 10 (items.Counted (lane 0 Down) (counts 1024 946 78 0)) ∷
          at 11 (items.Counted (lane 1 Up) (counts 1024 924 100 0)) ∷
          at 12 (items.Counted (lane 1 Down) (counts 1024 946 78 0)) ∷
          at 13 (items.Shown 0 (key 1) Ready (octets_on 0 32)) ∷ []),
      Whole,
      true,
    )
