-- Changed and invented frames, and blocks of devices.
use Rattle.std.specs.Prelude.{◌≡◌, ◌∷◌, ◌++◌, [], true, replicate, map, false}
use Rattle.qkd_base.specs.declared.lane.Way.TheVariants.{Up, Down}
use Rattle.net_model.specs.Action.{DeviceFault}
use Rattle.net_model.specs.declared.reply.Reply.TheVariants as replies
use Rattle.net_model.specs.Sealing.{is_frame_refusal}
use Rattle.run_types.specs.declared.command.Command.TheVariants.{Bits, Fill, Tick, Pass, Flip, Forge, Crash, Ledger}
use Rattle.run_types.specs.declared.end.End.TheVariants.{Low, High}
use Rattle.run_types.specs.declared.end.Ends.TheVariants.{Both}
use Rattle.run_types.specs.declared.frame_result.FrameResult.TheVariants.{Taken, Refused}
use Rattle.run_model.specs.Play.{Whole, ForgedAt}
use Rattle.model_examples.specs.Networks.{lane, key, counts, octets_on, two_nodes, trusting, short_device}
use Rattle.model_examples.specs.Row.{row, line, line_by, at, took, Says}
use Rattle.run_types.specs.declared.end.Ends.TheVariants as ends
use Rattle.run_types.specs.declared.item.Item.TheVariants as items
use Rattle.run_types.specs.declared.payload_kind.PayloadKind.TheVariants as kinds
use Rattle.run_types.specs.declared.refusal.Refusal.TheVariants as refusals

-- A frame with a changed bit is refused when it is opened. If the change makes it equal to another frame of the wire, it counts as a pass of that frame.
abbrev pub Tampered : Type 0
Tampered =
    row (two_nodes (octets_on 0 60))
    (line (Bits 0 Both 2) ∷
    line (Fill 0 1 240 2) ∷
    line (Tick 0) ∷
    line (Flip (lane 0 Up) 0 639) ∷
    line (Flip (lane 0 Up) 0 640) ∷
    line (Flip (lane 0 Up) 2 0) ∷
    line (Flip (lane 0 Up) 0 1) ∷
    line (Forge (lane 0 Up) (8 ∷ replicate 79 0)) ∷
    line (Forge (lane 0 Up) (8 ∷ replicate 78 0)) ∷
    line (Crash 1) ∷
    line (Flip (lane 0 Up) 2 0) ∷
    line (Flip (lane 0 Up) 0 640) ∷
    line (Flip (lane 0 Up) 0 639) ∷
    line (Pass (lane 0 Up) 2) ∷
    line (Pass (lane 0 Up) 0) ∷ []) ≡ (
      took 1 0 2 ++
          (at 2 (items.Made 2 (key 1)) ∷
          at 3 (items.Ticked 0 2 0) ∷
          at 3 (items.Sent (lane 0 Up) 0 8 56) ∷
          at 3 (items.Sent (lane 0 Up) 1 72 56) ∷
          at 4 (items.Flipped (lane 0 Up) 0 639 (Refused (refusals.BadTag 80 1024))) ∷
          at 5 (items.Flipped (lane 0 Up) 0 640 (Refused (refusals.NoBit 640))) ∷
          at 6 (items.Flipped (lane 0 Up) 2 0 (Refused (refusals.NoFrame 2))) ∷
          at 7 (items.Flipped (lane 0 Up) 0 1 (Taken kinds.Key (key 2))) ∷
          at 8 (items.Forged (lane 0 Up) (Taken kinds.Key (key 1))) ∷
          at 9 (items.Forged (lane 0 Up) (Refused (refusals.BadTag 79 1024))) ∷
          at 10 items.Crashed ∷
          at 11 (items.Flipped (lane 0 Up) 2 0 (Refused (refusals.NoFrame 2))) ∷
          at 12 (items.Flipped (lane 0 Up) 0 640 (Refused (refusals.NoBit 640))) ∷
          at 13 (items.Flipped (lane 0 Up) 0 639 (Refused refusals.Down)) ∷
          at 14 (items.Passed (lane 0 Up) 2 (Refused (refusals.NoFrame 2))) ∷
          at 15 (items.Passed (lane 0 Up) 0 (Refused refusals.Down)) ∷ []),
      Whole,
      true,
    )

-- octets that nobody put, but that the receiver accepts, end the run if the receiver is up
abbrev pub ForgedFrames : Type 0
ForgedFrames =
    row (trusting (octets_on 0 60))
    (line (Bits 0 Both 2) ∷
    line (Forge (lane 0 Up) (1 ∷ [])) ∷
    line (Crash 1) ∷
    line (Forge (lane 0 Up) (1 ∷ [])) ∷ []) ≡ (
      took 1 0 2,
      ForgedAt 2,
      true,
    )

-- each block is the device's next one; a device that fails or has no further block, and a manager that is down, give none
abbrev pub Blocks : Type 0
Blocks =
    row (short_device (octets_on 0 0))
    (line_by (Bits 0 ends.Low 1) (Says DeviceFault ∷ []) ∷
    line (Bits 0 Both 3) ∷
    line (Bits 0 ends.Low 1) ∷
    line (Crash 0) ∷
    line (Bits 0 ends.Low 1) ∷
    line (Ledger (lane 0 Down)) ∷ []) ≡ (
      at 1 (items.TookNone 0 Low refusals.DeviceFault) ∷
          at 2 (items.Took 0 Low 0) ∷
          at 2 (items.Took 0 High 0) ∷
          at 2 (items.Took 0 Low 1) ∷
          at 2 (items.Took 0 High 1) ∷
          at 2 (items.TookNone 0 Low refusals.NoBlock) ∷
          at 2 (items.TookNone 0 High refusals.NoBlock) ∷
          at 3 (items.TookNone 0 Low refusals.NoBlock) ∷
          at 4 items.Crashed ∷
          at 5 (items.TookNone 0 Low refusals.Down) ∷
          at 6 (items.Counted (lane 0 Down) (counts 1024 1016 8 0)) ∷ [],
      Whole,
      true,
    )

-- the refusals of octets that are no frame, and replies that such octets never get
abbrev pub FrameRefusals : Type 0
FrameRefusals =
    map is_frame_refusal
    (replies.BadFrame 0 ∷ replies.WrongLane 0 1 ∷ replies.NoBits 1024 ∷ replies.BadTag 1 2 ∷ replies.Down ∷ replies.Memory ∷ replies.Stopped ∷ replies.JournalFull 17 68 ∷ replies.NoRandom ∷
    replies.Noted ∷ []) ≡
    (true ∷ true ∷ true ∷ true ∷ false ∷ false ∷ false ∷ false ∷ false ∷ false ∷ [])
