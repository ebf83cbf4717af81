-- Crashes, stops and starts.
use Rattle.std.specs.Prelude.{◌≡◌, ◌∷◌, ◌++◌, [], true, ℕ, ◌+◌, ◌==◌, ◌&&◌, nat_le, Bool, List, map, false}
use Rattle.qkd_base.specs.declared.lane.Way.TheVariants.{Up, Down}
use Rattle.net_model.specs.Action.{IoFault, Recovers}
use Rattle.net_model.specs.declared.reply.Reply.{Reply}
use Rattle.net_model.specs.declared.reply.Reply.TheVariants.{Counted}
use Rattle.net_model.specs.Site.{count_up, outgoing_lane}
use Rattle.net_model.specs.World.{World, first, planned}
use Rattle.net_model.specs.View.{port_of}
use Rattle.net_model.specs.Needed.{view_of}
use Rattle.net_model.specs.Show.{counted_of}
use Rattle.net_model.specs.Step.{run}
use Rattle.model_examples.specs.Runs.{restart, one_key, started, planned_only}
use Rattle.run_types.specs.declared.command.Command.TheVariants.{Bits, Fill, Tick, Settle, Pass, Crash, Start, Cut, Fail, Enc, Status, Ledger}
use Rattle.run_types.specs.declared.end.Ends.TheVariants.{Both}
use Rattle.run_types.specs.declared.image.Image.TheVariants.{Lost, Kept}
use Rattle.run_types.specs.declared.frame_result.FrameResult.TheVariants.{Taken, Again}
use Rattle.run_model.specs.Play.{Whole}
use Rattle.model_examples.specs.Networks.{lane, key, note, counts, octets_on, two_nodes}
use Rattle.model_examples.specs.Row.{row, line, line_by, at, took, Says, Finds, ran}
use Rattle.run_types.specs.declared.item.Item.TheVariants as items
use Rattle.run_types.specs.declared.payload_kind.PayloadKind.TheVariants as kinds
use Rattle.run_types.specs.declared.refusal.Refusal.TheVariants as refusals
use Rattle.run_types.specs.declared.start_result.StartResult.TheVariants as starts

-- a plan leases 4,096 bytes; after a crash they are burnt, and the lane is short of bytes
abbrev pub Leases : Type 0
Leases =
    row (two_nodes (octets_on 0 32))
    (line (Bits 0 Both 8) ∷
    line (Fill 0 1 256 1) ∷
    line (Tick 0) ∷
    line (Crash 0) ∷
    line (Crash 0) ∷
    line (Start 0) ∷
    line (Start 0) ∷
    line (Ledger (lane 0 Up)) ∷
    line (Tick 0) ∷ []) ≡ (
      took 1 0 8 ++
          (at 2 (items.Made 1 (key 1)) ∷
          at 3 (items.Ticked 0 1 0) ∷
          at 3 (items.Sent (lane 0 Up) 0 8 58) ∷
          at 4 items.Crashed ∷
          at 5 (items.Refused refusals.Down) ∷
          at 6 (items.Start starts.Started) ∷
          at 7 (items.Start starts.WasUp) ∷
          at 8 (items.Counted (lane 0 Up) (counts 4096 0 74 4022)) ∷
          at 9 (items.Ticked 0 0 0) ∷
          at 9 (items.Short (lane 0 Up) 4096 66 4096) ∷ []),
      Whole,
      true,
    )

-- the disk fails in a plan whose lease became durable: the lease is limited to the bytes received
abbrev pub PlanCommitted : Type 0
PlanCommitted =
    row (two_nodes (octets_on 0 32))
    (line (Bits 0 Both 2) ∷
    line (Fill 0 1 256 1) ∷
    line (Cut 0 4 Kept) ∷
    line_by (Tick 0) (Says IoFault ∷ []) ∷
    line (Status 0 0 1) ∷
    line (Tick 0) ∷
    line_by (Start 0) (Finds (Recovers true) ∷ []) ∷
    line (Ledger (lane 0 Up)) ∷ []) ≡ (
      took 1 0 2 ++
          (at 2 (items.Made 1 (key 1)) ∷
          at 3 items.Armed ∷
          at 4 (items.NotTicked 0 refusals.Stopped) ∷
          at 5 (items.Refused refusals.Down) ∷
          at 6 (items.NotTicked 0 refusals.Down) ∷
          at 7 (items.Start starts.Started) ∷
          at 8 (items.Counted (lane 0 Up) (counts 1024 0 8 1016)) ∷ []),
      Whole,
      true,
    )

-- the disk fails in a plan whose lease did not become durable
abbrev pub PlanLost : Type 0
PlanLost =
    row (two_nodes (octets_on 0 32))
    (line (Bits 0 Both 2) ∷
    line (Fill 0 1 256 1) ∷
    line (Cut 0 4 Lost) ∷
    line_by (Tick 0) (Says IoFault ∷ []) ∷
    line (Start 0) ∷
    line (Ledger (lane 0 Up)) ∷
    line (Tick 0) ∷ []) ≡ (
      took 1 0 2 ++
          (at 2 (items.Made 1 (key 1)) ∷
          at 3 items.Armed ∷
          at 4 (items.NotTicked 0 refusals.Stopped) ∷
          at 5 (items.Start starts.Started) ∷
          at 6 (items.Counted (lane 0 Up) (counts 1024 1016 8 0)) ∷
          at 7 (items.Ticked 0 1 0) ∷
          at 7 (items.Sent (lane 0 Up) 0 8 58) ∷ []),
      Whole,
      true,
    )

-- the disk fails in a handing that became durable: the key counts as handed, though nobody got it
abbrev pub HandingCommitted : Type 0
HandingCommitted =
    row (two_nodes (octets_on 0 32))
    (line (Bits 0 Both 2) ∷
    line (Fill 0 1 256 1) ∷
    line (Settle 10) ∷
    line (Fail 0 4) ∷
    line_by (Enc 0 0 1 1 256) (Says IoFault ∷ []) ∷
    line_by (Start 0) (Finds (Recovers true) ∷ []) ∷
    line (Enc 0 0 1 1 256) ∷ []) ≡ (
      took 1 0 2 ++
          (at 2 (items.Made 1 (key 1)) ∷
          at 3 (items.Ticked 0 1 0) ∷
          at 3 (items.Sent (lane 0 Up) 0 8 58) ∷
          at 3 (items.Passed (lane 0 Up) 0 (Taken kinds.Key (key 1))) ∷
          at 3 (items.Ticked 1 2 0) ∷
          at 3 (items.Sent (lane 0 Down) 0 8 17) ∷
          at 3 (items.Sent (lane 0 Down) 1 33 36) ∷
          at 3 (items.Passed (lane 0 Down) 0 (Taken kinds.Ack (key 1))) ∷
          at 3 (items.Passed (lane 0 Down) 1 (Taken kinds.Stored (note 1 1))) ∷
          at 3 (items.Ticked 0 1 0) ∷
          at 3 (items.Sent (lane 0 Up) 1 74 17) ∷
          at 3 (items.Passed (lane 0 Up) 1 (Taken kinds.Ack (note 1 1))) ∷
          at 4 items.Armed ∷
          at 5 (items.Refused refusals.Stopped) ∷
          at 6 (items.Start starts.Started) ∷
          at 7 (items.Refused (refusals.Few 0)) ∷ []),
      Whole,
      true,
    )

-- the disk fails in a handing that did not become durable: the key is not handed yet, and can be handed once
abbrev pub HandingLost : Type 0
HandingLost =
    row (two_nodes (octets_on 0 32))
    (line (Bits 0 Both 2) ∷
    line (Fill 0 1 256 1) ∷
    line (Settle 10) ∷
    line (Fail 0 1) ∷
    line_by (Enc 0 0 1 1 256) (Says IoFault ∷ []) ∷
    line (Start 0) ∷
    line (Enc 0 0 1 1 256) ∷
    line (Enc 0 0 1 1 256) ∷ []) ≡ (
      took 1 0 2 ++
          (at 2 (items.Made 1 (key 1)) ∷
          at 3 (items.Ticked 0 1 0) ∷
          at 3 (items.Sent (lane 0 Up) 0 8 58) ∷
          at 3 (items.Passed (lane 0 Up) 0 (Taken kinds.Key (key 1))) ∷
          at 3 (items.Ticked 1 2 0) ∷
          at 3 (items.Sent (lane 0 Down) 0 8 17) ∷
          at 3 (items.Sent (lane 0 Down) 1 33 36) ∷
          at 3 (items.Passed (lane 0 Down) 0 (Taken kinds.Ack (key 1))) ∷
          at 3 (items.Passed (lane 0 Down) 1 (Taken kinds.Stored (note 1 1))) ∷
          at 3 (items.Ticked 0 1 0) ∷
          at 3 (items.Sent (lane 0 Up) 1 74 17) ∷
          at 3 (items.Passed (lane 0 Up) 1 (Taken kinds.Ack (note 1 1))) ∷
          at 4 items.Armed ∷
          at 5 (items.Refused refusals.Stopped) ∷
          at 6 (items.Start starts.Started) ∷
          at 7 (items.Keys (((key 1), (octets_on 0 32)) ∷ [])) ∷
          at 8 (items.Refused (refusals.Few 0)) ∷ []),
      Whole,
      true,
    )

-- octets that a stopped fill drew from the entropy stay drawn
abbrev pub DrawnStays : Type 0
DrawnStays =
    row (two_nodes (octets_on 0 64))
    (line (Bits 0 Both 2) ∷
    line (Fail 0 1) ∷
    line_by (Fill 0 1 256 1) (Says IoFault ∷ []) ∷
    line (Start 0) ∷
    line (Fill 0 1 256 1) ∷
    line (Settle 10) ∷
    line (Enc 0 0 1 1 256) ∷ []) ≡ (
      took 1 0 2 ++
          (at 2 items.Armed ∷
          at 3 (items.Refused refusals.Stopped) ∷
          at 4 (items.Start starts.Started) ∷
          at 5 (items.Made 1 (key 1)) ∷
          at 6 (items.Ticked 0 1 0) ∷
          at 6 (items.Sent (lane 0 Up) 0 8 58) ∷
          at 6 (items.Passed (lane 0 Up) 0 (Taken kinds.Key (key 1))) ∷
          at 6 (items.Ticked 1 2 0) ∷
          at 6 (items.Sent (lane 0 Down) 0 8 17) ∷
          at 6 (items.Sent (lane 0 Down) 1 33 36) ∷
          at 6 (items.Passed (lane 0 Down) 0 (Taken kinds.Ack (key 1))) ∷
          at 6 (items.Passed (lane 0 Down) 1 (Taken kinds.Stored (note 1 1))) ∷
          at 6 (items.Ticked 0 1 0) ∷
          at 6 (items.Sent (lane 0 Up) 1 74 17) ∷
          at 6 (items.Passed (lane 0 Up) 1 (Taken kinds.Ack (note 1 1))) ∷
          at 7 (items.Keys (((key 1), (octets_on 32 32)) ∷ [])) ∷ []),
      Whole,
      true,
    )

-- a start empties the window: facts are sent again as new orders, and an acknowledgement only if its frame comes again
abbrev pub NewLife : Type 0
NewLife =
    row (two_nodes (octets_on 0 32))
    (line (Bits 0 Both 16) ∷
    line (Fill 0 1 256 1) ∷
    line (Tick 0) ∷
    line (Pass (lane 0 Up) 0) ∷
    line (Crash 1) ∷
    line (Start 1) ∷
    line (Tick 1) ∷
    line (Pass (lane 0 Up) 0) ∷
    line (Tick 1) ∷
    line (Crash 0) ∷
    line (Start 0) ∷
    line (Tick 0) ∷ []) ≡ (
      took 1 0 16 ++
          (at 2 (items.Made 1 (key 1)) ∷
          at 3 (items.Ticked 0 1 0) ∷
          at 3 (items.Sent (lane 0 Up) 0 8 58) ∷
          at 4 (items.Passed (lane 0 Up) 0 (Taken kinds.Key (key 1))) ∷
          at 5 items.Crashed ∷
          at 6 (items.Start starts.Started) ∷
          at 7 (items.Ticked 1 1 0) ∷
          at 7 (items.Sent (lane 0 Down) 0 8 36) ∷
          at 8 (items.Passed (lane 0 Up) 0 (Again kinds.Key (key 1))) ∷
          at 9 (items.Ticked 1 1 0) ∷
          at 9 (items.Sent (lane 0 Down) 1 52 17) ∷
          at 10 items.Crashed ∷
          at 11 (items.Start starts.Started) ∷
          at 12 (items.Ticked 0 1 0) ∷
          at 12 (items.Sent (lane 0 Up) 1 4096 58) ∷ []),
      Whole,
      true,
    )

-- A manager's ledger adds up, and the bytes that a start burnt are below the planned end. Both hold before and after starts, also those that burn a lease.

abbrev pub adds_up : Reply → Bool
adds_up (Counted c) = c.received == c.unused + c.spent + c.burnt
adds_up _ = false

abbrev pub is_counted : World → ℕ → Bool
is_counted w v =
    adds_up (counted_of (port_of (view_of (two_nodes (octets_on 0 32)) w v) 0)) && nat_le (w.recovered (outgoing_lane (two_nodes []).site v 0)) (planned w (outgoing_lane (two_nodes []).site v 0))

abbrev pub counted_after : World → List Bool
counted_after w = map (is_counted w) (count_up 2)

abbrev pub OwnCounts : Type 0
OwnCounts =
    (counted_after (ran (two_nodes (octets_on 0 32)) []).world ++ counted_after (ran (two_nodes (octets_on 0 32)) one_key).world ++
    counted_after (ran (two_nodes (octets_on 0 32)) (one_key ++ restart)).world ++ counted_after (run (two_nodes (octets_on 0 32)) first (started ++ planned_only))) ≡
    (true ∷ true ∷ true ∷ true ∷ true ∷ true ∷ true ∷ true ∷ [])
