-- Frames over one link: ticks, acknowledgements, repeats, and ticks that run short of bytes.
use Rattle.std.specs.Prelude.{◌≡◌, ◌∷◌, ◌++◌, [], true, false}
use Rattle.qkd_base.specs.declared.lane.Way.TheVariants.{Up, Down}
use Rattle.net_model.specs.Action.{IoFault, OutOfMemory}
use Rattle.run_types.specs.declared.command.Command.TheVariants.{Bits, Fill, Tick, Settle, Pass, LinkUp, LinkDown, Ledger}
use Rattle.run_types.specs.declared.end.End.TheVariants.{Low, High}
use Rattle.run_types.specs.declared.end.Ends.TheVariants.{Both}
use Rattle.run_types.specs.declared.frame_result.FrameResult.TheVariants.{Taken, Again, Refused}
use Rattle.run_model.specs.Play.{Whole}
use Rattle.model_examples.specs.Networks.{lane, key, note, counts, octets_on, two_nodes}
use Rattle.model_examples.specs.Row.{row, line, line_by, at, took, Well, Says}
use Rattle.run_types.specs.declared.unsent_cause.UnsentCause.TheVariants as causes
use Rattle.run_types.specs.declared.end.Ends.TheVariants as ends
use Rattle.run_types.specs.declared.item.Item.TheVariants as items
use Rattle.run_types.specs.declared.payload_kind.PayloadKind.TheVariants as kinds
use Rattle.run_types.specs.declared.refusal.Refusal.TheVariants as refusals

-- one key over one link, its Stored note on the way back, and the ledgers
abbrev pub OneKey : Type 0
OneKey =
    row (two_nodes (octets_on 0 32))
    (line (Bits 0 Both 2) ∷
    line (Fill 0 1 256 1) ∷
    line (Settle 10) ∷
    line (Ledger (lane 0 Up)) ∷
    line (Ledger (lane 0 Down)) ∷ []) ≡ (
      took 1 0 2 ++
          (at 2 (items.Made 1 (key 1)) ∷
          at 3 (items.Ticked 0 1 0) ∷
          at 3 (items.Sent (lane 0 Up) 0 8 58) ∷
          at 3 (items.Passed (lane 0 Up) 0 (Taken kinds.Key (key 1))) ∷
          at 3 (items.Ticked 1 2 0) ∷
          at 3 (items.Sent (lane 0 Down) 0 8 17) ∷
          at 3 (items.Sent (lane 0 Down) 1 33 36) ∷
          at 3 (items.Passed (lane 0 Down) 0 (Taken kinds.Ack (key 1))) ∷
          at 3 (items.Passed (lane 0 Down) 1 (Taken kinds.Stored (note 1 1))) ∷
          at 3 (items.Ticked 0 1 0) ∷
          at 3 (items.Sent (lane 0 Up) 1 74 17) ∷
          at 3 (items.Passed (lane 0 Up) 1 (Taken kinds.Ack (note 1 1))) ∷
          at 4 (items.Counted (lane 0 Up) (counts 1024 925 99 0)) ∷
          at 5 (items.Counted (lane 0 Down) (counts 1024 947 77 0)) ∷ []),
      Whole,
      true,
    )

-- a lane without bytes, and then with its first block
abbrev pub EmptyLanes : Type 0
EmptyLanes =
    row (two_nodes (octets_on 0 32))
    (line (Ledger (lane 0 Up)) ∷
    line (Bits 0 Both 2) ∷
    line (Ledger (lane 0 Up)) ∷ []) ≡ (
      (at 1 (items.Counted (lane 0 Up) (counts 0 0 0 0)) ∷ []) ++
          took 2 0 2 ++
          (at 3 (items.Counted (lane 0 Up) (counts 1024 1016 8 0)) ∷ []),
      Whole,
      true,
    )

-- a frame that is received again and again gets one acknowledgement, which is sent again with the same octets
abbrev pub HeardAgain : Type 0
HeardAgain =
    row (two_nodes (octets_on 0 32))
    (line (Bits 0 Both 2) ∷
    line (Fill 0 1 256 1) ∷
    line (Tick 0) ∷
    line (Pass (lane 0 Up) 0) ∷
    line (Pass (lane 0 Up) 0) ∷
    line (Pass (lane 0 Up) 0) ∷
    line (Tick 1) ∷
    line (Pass (lane 0 Up) 0) ∷
    line (Tick 1) ∷
    line (Tick 1) ∷ []) ≡ (
      took 1 0 2 ++
          (at 2 (items.Made 1 (key 1)) ∷
          at 3 (items.Ticked 0 1 0) ∷
          at 3 (items.Sent (lane 0 Up) 0 8 58) ∷
          at 4 (items.Passed (lane 0 Up) 0 (Taken kinds.Key (key 1))) ∷
          at 5 (items.Passed (lane 0 Up) 0 (Again kinds.Key (key 1))) ∷
          at 6 (items.Passed (lane 0 Up) 0 (Again kinds.Key (key 1))) ∷
          at 7 (items.Ticked 1 2 0) ∷
          at 7 (items.Sent (lane 0 Down) 0 8 17) ∷
          at 7 (items.Sent (lane 0 Down) 1 33 36) ∷
          at 8 (items.Passed (lane 0 Up) 0 (Again kinds.Key (key 1))) ∷
          at 9 (items.Ticked 1 0 1) ∷
          at 9 (items.Sent (lane 0 Down) 2 8 17) ∷
          at 10 (items.Idle 1) ∷ []),
      Whole,
      true,
    )

-- two frames that are passed in the other order
abbrev pub AnyOrder : Type 0
AnyOrder =
    row (two_nodes (octets_on 0 64))
    (line (Bits 0 Both 2) ∷
    line (Fill 0 1 256 2) ∷
    line (Tick 0) ∷
    line (Pass (lane 0 Up) 1) ∷
    line (Pass (lane 0 Up) 0) ∷ []) ≡ (
      took 1 0 2 ++
          (at 2 (items.Made 2 (key 1)) ∷
          at 3 (items.Ticked 0 2 0) ∷
          at 3 (items.Sent (lane 0 Up) 0 8 58) ∷
          at 3 (items.Sent (lane 0 Up) 1 74 58) ∷
          at 4 (items.Passed (lane 0 Up) 1 (Taken kinds.Key (key 2))) ∷
          at 5 (items.Passed (lane 0 Up) 0 (Taken kinds.Key (key 1))) ∷ []),
      Whole,
      true,
    )

-- two keys that fill a lane up to its last byte
abbrev pub FullLane : Type 0
FullLane =
    row (two_nodes (octets_on 0 948))
    (line (Bits 0 Both 2) ∷
    line (Fill 0 1 4096 1) ∷
    line (Fill 0 1 3488 1) ∷
    line (Tick 0) ∷
    line (Ledger (lane 0 Up)) ∷
    line (Pass (lane 0 Up) 1) ∷ []) ≡ (
      took 1 0 2 ++
          (at 2 (items.Made 1 (key 1)) ∷
          at 3 (items.Made 1 (key 2)) ∷
          at 4 (items.Ticked 0 2 0) ∷
          at 4 (items.Sent (lane 0 Up) 0 8 538) ∷
          at 4 (items.Sent (lane 0 Up) 1 554 462) ∷
          at 5 (items.Counted (lane 0 Up) (counts 1024 0 1024 0)) ∷
          at 6 (items.Passed (lane 0 Up) 1 (Taken kinds.Key (key 2))) ∷ []),
      Whole,
      true,
    )

-- with one octet more the lane is short: 554 bytes used, 471 needed, 1024 received
abbrev pub ShortLane : Type 0
ShortLane =
    row (two_nodes (octets_on 0 949))
    (line (Bits 0 Both 2) ∷
    line (Fill 0 1 4096 1) ∷
    line (Fill 0 1 3496 1) ∷
    line (Tick 0) ∷
    line (Ledger (lane 0 Up)) ∷ []) ≡ (
      took 1 0 2 ++
          (at 2 (items.Made 1 (key 1)) ∷
          at 3 (items.Made 1 (key 2)) ∷
          at 4 (items.Ticked 0 1 0) ∷
          at 4 (items.Short (lane 0 Up) 554 471 1024) ∷
          at 4 (items.Sent (lane 0 Up) 0 8 538) ∷
          at 5 (items.Counted (lane 0 Up) (counts 1024 470 554 0)) ∷ []),
      Whole,
      true,
    )

-- a receiver without the lane bytes, and then with them
abbrev pub FewBytes : Type 0
FewBytes =
    row (two_nodes (octets_on 0 32))
    (line (Bits 0 ends.Low 2) ∷
    line (Fill 0 1 256 1) ∷
    line (Tick 0) ∷
    line (Pass (lane 0 Up) 0) ∷
    line (Bits 0 ends.High 1) ∷
    line (Pass (lane 0 Up) 0) ∷
    line (Pass (lane 0 Up) 1) ∷ []) ≡ (
      at 1 (items.Took 0 Low 0) ∷
          at 1 (items.Took 0 Low 1) ∷
          at 2 (items.Made 1 (key 1)) ∷
          at 3 (items.Ticked 0 1 0) ∷
          at 3 (items.Sent (lane 0 Up) 0 8 58) ∷
          at 4 (items.Passed (lane 0 Up) 0 (Refused (refusals.NoBits 0))) ∷
          at 5 (items.Took 0 High 0) ∷
          at 6 (items.Passed (lane 0 Up) 0 (Taken kinds.Key (key 1))) ∷
          at 7 (items.Passed (lane 0 Up) 1 (Refused (refusals.NoFrame 1))) ∷ [],
      Whole,
      true,
    )

-- a put that the wire refuses gets no number, and is due at the next tick
abbrev pub RefusedPut : Type 0
RefusedPut =
    row (two_nodes (octets_on 0 32))
    (line (Bits 0 Both 2) ∷
    line (Fill 0 1 256 1) ∷
    line_by (Tick 0) (Well ∷ Well ∷ Says IoFault ∷ []) ∷
    line_by (Tick 0) (Well ∷ Says OutOfMemory ∷ []) ∷
    line (Tick 0) ∷
    line (Tick 0) ∷ []) ≡ (
      took 1 0 2 ++
          (at 2 (items.Made 1 (key 1)) ∷
          at 3 (items.Ticked 0 1 0) ∷
          at 3 (items.Unsent (lane 0 Up) 8 causes.WireFault) ∷
          at 4 (items.Ticked 0 0 1) ∷
          at 4 (items.Unsent (lane 0 Up) 8 causes.Memory) ∷
          at 5 (items.Ticked 0 0 1) ∷
          at 5 (items.Sent (lane 0 Up) 0 8 58) ∷
          at 6 (items.Idle 0) ∷ []),
      Whole,
      true,
    )

-- an unanswered fact is sent again at age 4, and its age begins at 0 again
abbrev pub Ages : Type 0
Ages =
    row (two_nodes (octets_on 0 32))
    (line (Bits 0 Both 2) ∷
    line (Fill 0 1 256 1) ∷
    line (Tick 0) ∷
    line (Tick 0) ∷
    line (Tick 0) ∷
    line (Tick 0) ∷
    line (Tick 0) ∷
    line (Tick 0) ∷
    line (Tick 0) ∷
    line (Tick 0) ∷
    line (Tick 0) ∷ []) ≡ (
      took 1 0 2 ++
          (at 2 (items.Made 1 (key 1)) ∷
          at 3 (items.Ticked 0 1 0) ∷
          at 3 (items.Sent (lane 0 Up) 0 8 58) ∷
          at 4 (items.Idle 0) ∷
          at 5 (items.Idle 0) ∷
          at 6 (items.Idle 0) ∷
          at 7 (items.Ticked 0 0 1) ∷
          at 7 (items.Sent (lane 0 Up) 1 8 58) ∷
          at 8 (items.Idle 0) ∷
          at 9 (items.Idle 0) ∷
          at 10 (items.Idle 0) ∷
          at 11 (items.Ticked 0 0 1) ∷
          at 11 (items.Sent (lane 0 Up) 2 8 58) ∷ []),
      Whole,
      true,
    )

-- at most 16 repeats of a lane in one tick, lowest offsets first
abbrev pub ManyRepeats : Type 0
ManyRepeats =
    row (two_nodes (octets_on 0 136))
    (line (Bits 0 Both 2) ∷
    line (Fill 0 1 64 17) ∷
    line (Tick 0) ∷
    line (Tick 0) ∷
    line (Tick 0) ∷
    line (Tick 0) ∷
    line (Tick 0) ∷
    line (Tick 0) ∷ []) ≡ (
      took 1 0 2 ++
          (at 2 (items.Made 17 (key 1)) ∷
          at 3 (items.Ticked 0 17 0) ∷
          at 3 (items.Sent (lane 0 Up) 0 8 34) ∷
          at 3 (items.Sent (lane 0 Up) 1 50 34) ∷
          at 3 (items.Sent (lane 0 Up) 2 92 34) ∷
          at 3 (items.Sent (lane 0 Up) 3 134 34) ∷
          at 3 (items.Sent (lane 0 Up) 4 176 34) ∷
          at 3 (items.Sent (lane 0 Up) 5 218 34) ∷
          at 3 (items.Sent (lane 0 Up) 6 260 34) ∷
          at 3 (items.Sent (lane 0 Up) 7 302 34) ∷
          at 3 (items.Sent (lane 0 Up) 8 344 34) ∷
          at 3 (items.Sent (lane 0 Up) 9 386 34) ∷
          at 3 (items.Sent (lane 0 Up) 10 428 34) ∷
          at 3 (items.Sent (lane 0 Up) 11 470 34) ∷
          at 3 (items.Sent (lane 0 Up) 12 512 34) ∷
          at 3 (items.Sent (lane 0 Up) 13 554 34) ∷
          at 3 (items.Sent (lane 0 Up) 14 596 34) ∷
          at 3 (items.Sent (lane 0 Up) 15 638 34) ∷
          at 3 (items.Sent (lane 0 Up) 16 680 34) ∷
          at 4 (items.Idle 0) ∷
          at 5 (items.Idle 0) ∷
          at 6 (items.Idle 0) ∷
          at 7 (items.Ticked 0 0 16) ∷
          at 7 (items.Sent (lane 0 Up) 17 8 34) ∷
          at 7 (items.Sent (lane 0 Up) 18 50 34) ∷
          at 7 (items.Sent (lane 0 Up) 19 92 34) ∷
          at 7 (items.Sent (lane 0 Up) 20 134 34) ∷
          at 7 (items.Sent (lane 0 Up) 21 176 34) ∷
          at 7 (items.Sent (lane 0 Up) 22 218 34) ∷
          at 7 (items.Sent (lane 0 Up) 23 260 34) ∷
          at 7 (items.Sent (lane 0 Up) 24 302 34) ∷
          at 7 (items.Sent (lane 0 Up) 25 344 34) ∷
          at 7 (items.Sent (lane 0 Up) 26 386 34) ∷
          at 7 (items.Sent (lane 0 Up) 27 428 34) ∷
          at 7 (items.Sent (lane 0 Up) 28 470 34) ∷
          at 7 (items.Sent (lane 0 Up) 29 512 34) ∷
          at 7 (items.Sent (lane 0 Up) 30 554 34) ∷
          at 7 (items.Sent (lane 0 Up) 31 596 34) ∷
          at 7 (items.Sent (lane 0 Up) 32 638 34) ∷
          at 8 (items.Ticked 0 0 1) ∷
          at 8 (items.Sent (lane 0 Up) 33 680 34) ∷ []),
      Whole,
      true,
    )

-- a link that is down stops plans and routes, but no passes
abbrev pub DownLink : Type 0
DownLink =
    row (two_nodes (octets_on 0 32))
    (line (Bits 0 Both 2) ∷
    line (Fill 0 1 256 1) ∷
    line (LinkDown 0) ∷
    line (Tick 0) ∷
    line (Fill 0 1 256 1) ∷
    line (LinkUp 0) ∷
    line (Tick 0) ∷
    line (LinkDown 0) ∷
    line (Pass (lane 0 Up) 0) ∷ []) ≡ (
      took 1 0 2 ++
          (at 2 (items.Made 1 (key 1)) ∷
          at 3 (items.LinkSet 0 false) ∷
          at 4 (items.Idle 0) ∷
          at 5 (items.Refused refusals.NoRoute) ∷
          at 6 (items.LinkSet 0 true) ∷
          at 7 (items.Ticked 0 1 0) ∷
          at 7 (items.Sent (lane 0 Up) 0 8 58) ∷
          at 8 (items.LinkSet 0 false) ∷
          at 9 (items.Passed (lane 0 Up) 0 (Taken kinds.Key (key 1))) ∷ []),
      Whole,
      true,
    )
