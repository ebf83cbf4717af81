-- Reports of lines when the environment fails or nodes are down, and the ends of runs.
use Rattle.std.specs.Prelude.{◌≡◌, ◌∷◌, ◌++◌, ℕ, ◌==◌, [], true, false, List, map, replicate, Some, None, if◌then◌else◌}
use Rattle.qkd_base.specs.declared.lane.Way.TheVariants.{Up, Down}
use Rattle.net_model.specs.declared.event.Event.TheVariants as events
use Rattle.net_model.specs.declared.reply.Reply.{Reply}
use Rattle.net_model.specs.declared.reply.Reply.TheVariants as replies
use Rattle.net_model.specs.Sealing.{Rejected}
use Rattle.net_model.specs.World.{Network, World, first}
use Rattle.net_model.specs.Action.{IoFault, OutOfMemory, DeviceFault, EntropyFault, Interrupted, Foreign, NoMemory as NoMemory'}
use Rattle.run_types.specs.declared.command.Command.TheVariants.{Bits, Fill, Feed, Tick, Settle, Pass, Flip, Forge, Crash, Start, Cut, Fail, LinkUp, LinkDown, Enc, Dec, Status, Http, Stream, Show, Ledger, FillGroup, EncGroup}
use Rattle.run_types.specs.declared.end.End.TheVariants.{Low, High}
use Rattle.run_types.specs.declared.end.Ends.TheVariants.{Both}
use Rattle.run_types.specs.declared.end.Ends.TheVariants as ends
use Rattle.run_types.specs.declared.image.Image.TheVariants.{Torn}
use Rattle.run_types.specs.declared.stream_call.StreamCall.TheVariants.{Open}
use Rattle.run_types.specs.declared.refusal.Refusal.TheVariants as refusals
use Rattle.run_types.specs.declared.payload_kind.PayloadKind.TheVariants as kinds
use Rattle.run_types.specs.declared.frame_result.FrameResult.TheVariants.{Taken, Again, Refused}
use Rattle.run_types.specs.declared.start_result.StartResult.TheVariants as starts
use Rattle.run_types.specs.declared.unsent_cause.UnsentCause.TheVariants as causes
use Rattle.run_types.specs.declared.item.Item.TheVariants as items
use Rattle.run_model.specs.Refusals.{refused_by}
use Rattle.run_model.specs.Turn.{HttpTexts, Request, AnswersAtOnce, Calls}
use Rattle.run_model.specs.Play.{Whole, ForgedAt, NoMemory}
use Rattle.model_examples.specs.Networks.{lane, key, note, stream, octets_on, two_nodes, two_spokes, trusting}
use Rattle.model_examples.specs.Row.{Well, Says, Finds, Begin, line, line_by, at, took, row, row_down, ran, ran_from, starting, reported, no_http}

-- The start of a node at the beginning is stopped. This is reported under the number of the `node` line. Until the node is started, requests to it are answered
-- with `down`.
abbrev pub StoppedStart : Type 0
StoppedStart =
    row_down (two_nodes (octets_on 0 32))
    (Begin 0 (Finds (Interrupted None) ∷ []) ∷
    Begin 1 [] ∷
    line (Bits 0 Both 2) ∷
    line (Fill 0 1 256 1) ∷
    line (Tick 0) ∷
    line (Enc 0 0 1 1 256) ∷
    line (Stream 0 (Open 0 1 256)) ∷
    line (Start 0) ∷
    line (Fill 0 1 256 1) ∷
    line (Crash 1) ∷
    line (Crash 1) ∷
    line (Show 1 (key 1)) ∷
    line (Ledger (lane 0 Down)) ∷ []) ≡ (
      at 0 (items.Start starts.Stopped) ∷
          at 1 (items.TookNone 0 Low refusals.Down) ∷
          at 1 (items.Took 0 High 0) ∷
          at 1 (items.Took 0 High 1) ∷
          at 2 (items.Refused refusals.Down) ∷
          at 3 (items.NotTicked 0 refusals.Down) ∷
          at 4 (items.Refused refusals.Down) ∷
          at 5 (items.Refused refusals.Down) ∷
          at 6 (items.Start starts.Started) ∷
          at 7 (items.Made 1 (key 1)) ∷
          at 8 items.Crashed ∷
          at 9 (items.Refused refusals.Down) ∷
          at 10 (items.NotShown 1 (key 1) refusals.Down) ∷
          at 11 (items.NotCounted (lane 0 Down) refusals.Down) ∷ [],
      Whole,
      true,
    )

-- after a start that was stopped, the start at the beginning finds no journal
abbrev pub ForeignStart : Type 0
ForeignStart =
    row_down (two_nodes [])
    (line_by (Start 0) (Finds (Interrupted None) ∷ []) ∷
    Begin 0 (Finds Foreign ∷ []) ∷
    line_by (Start 0) (Finds NoMemory' ∷ []) ∷
    line (Start 0) ∷ []) ≡ (
      at 1 (items.Start starts.Stopped) ∷ at 0 (items.Start (starts.Foreign 16)) ∷ at 2 (items.Start starts.Memory) ∷ at 3 (items.Start starts.Started) ∷ [],
      Whole,
      true,
    )

-- if memory runs out in a start at the beginning, the run ends
abbrev pub NoMemoryAtStart : Type 0
NoMemoryAtStart = row_down (two_nodes []) (Begin 0 (Finds NoMemory' ∷ []) ∷ Begin 1 [] ∷ line (Bits 0 Both 2) ∷ []) ≡ ([], NoMemory, true)

-- a settle skips a node that is down
abbrev pub DownInSettle : Type 0
DownInSettle =
    row (two_nodes [])
    (line (Crash 0) ∷ line (Settle 2) ∷ line (Tick 1) ∷ line (LinkDown 0) ∷ line (Cut 1 3 Torn) ∷ line (Fail 1 3) ∷ line (Start 1) ∷ []) ≡ (
      at 1 items.Crashed ∷ at 3 (items.Idle 1) ∷ at 4 (items.LinkSet 0 false) ∷ at 5 items.Armed ∷ at 6 items.Armed ∷ at 7 (items.Start starts.WasUp) ∷ [],
      Whole,
      true,
    )

-- A wire refuses a put in a settle's first round. So no frame was put, and the settle ends. The next settle puts the same frame again, as a repeat. It has two
-- rounds only, and ends after the second.
abbrev pub RefusedInSettle : Type 0
RefusedInSettle =
    row (two_nodes (octets_on 0 32))
    (line (Bits 0 Both 2) ∷
    line (Fill 0 1 256 1) ∷
    line_by (Settle 10) (Well ∷ Well ∷ Says IoFault ∷ []) ∷
    line (Settle 2) ∷ []) ≡ (
      took 1 0 2 ++
          (at 2 (items.Made 1 (key 1)) ∷
          at 3 (items.Ticked 0 1 0) ∷
          at 3 (items.Unsent (lane 0 Up) 8 causes.WireFault) ∷
          at 4 (items.Ticked 0 0 1) ∷
          at 4 (items.Sent (lane 0 Up) 0 8 58) ∷
          at 4 (items.Passed (lane 0 Up) 0 (Taken kinds.Key (key 1))) ∷
          at 4 (items.Ticked 1 2 0) ∷
          at 4 (items.Sent (lane 0 Down) 0 8 17) ∷
          at 4 (items.Sent (lane 0 Down) 1 33 36) ∷
          at 4 (items.Passed (lane 0 Down) 0 (Taken kinds.Ack (key 1))) ∷
          at 4 (items.Passed (lane 0 Down) 1 (Taken kinds.Stored (note 1 1))) ∷ []),
      Whole,
      true,
    )

-- A settle passes only frames that were put in its own rounds, so an earlier frame is not passed. When that frame is due again, its repeat is passed, and the
-- receiver's disk fails. The settle goes on, and ends with a round in which no frame is put.
abbrev pub LossInSettle : Type 0
LossInSettle =
    row (two_nodes (octets_on 0 32))
    (line (Bits 0 Both 2) ∷
    line (Fill 0 1 256 1) ∷
    line (Tick 0) ∷
    line (Settle 10) ∷
    line (Tick 0) ∷
    line (Tick 0) ∷
    line_by (Settle 10) (Well ∷ Well ∷ Well ∷ Well ∷ Well ∷ Says IoFault ∷ []) ∷
    line (Pass (lane 0 Up) 0) ∷ []) ≡ (
      took 1 0 2 ++
          (at 2 (items.Made 1 (key 1)) ∷
          at 3 (items.Ticked 0 1 0) ∷
          at 3 (items.Sent (lane 0 Up) 0 8 58) ∷
          at 5 (items.Idle 0) ∷
          at 6 (items.Idle 0) ∷
          at 7 (items.Ticked 0 0 1) ∷
          at 7 (items.Sent (lane 0 Up) 1 8 58) ∷
          at 7 (items.Passed (lane 0 Up) 1 (Refused refusals.Stopped)) ∷
          at 8 (items.Passed (lane 0 Up) 0 (Refused refusals.Down)) ∷ []),
      Whole,
      true,
    )

-- passes of missing frames, changes of missing bits, a changed frame; out of memory; faults of devices, disks and entropies
abbrev pub Refusals : Type 0
Refusals =
    row (two_nodes (octets_on 0 40))
    (line_by (Bits 0 Both 2) (Says DeviceFault ∷ Says OutOfMemory ∷ []) ∷
    line (Bits 0 Both 2) ∷
    line_by (Fill 0 1 256 1) (Says OutOfMemory ∷ []) ∷
    line_by (Fill 0 1 256 1) (Says EntropyFault ∷ []) ∷
    line (Fill 0 1 256 1) ∷
    line (Fill 0 1 256 1) ∷
    line (Fill 1 0 256 1) ∷
    line (Feed (stream 1) 1) ∷
    line_by (Tick 0) (Says OutOfMemory ∷ []) ∷
    line (Tick 0) ∷
    line (Pass (lane 0 Up) 1) ∷
    line (Flip (lane 0 Up) 0 656) ∷
    line (Flip (lane 0 Up) 1 656) ∷
    line (Flip (lane 0 Up) 0 655) ∷
    line_by (Pass (lane 0 Up) 0) (Says OutOfMemory ∷ []) ∷
    line (Pass (lane 0 Up) 0) ∷
    line (Pass (lane 0 Up) 0) ∷
    line_by (Enc 0 0 1 1 256) [] ∷
    line (Dec 1 1 0 (key 1 ∷ key 2 ∷ [])) ∷
    line (Dec 1 1 0 (key 1 ∷ key 1 ∷ [])) ∷
    line_by (Dec 1 1 0 (key 1 ∷ [])) (Says OutOfMemory ∷ []) ∷
    line (Dec 1 1 0 (key 1 ∷ [])) ∷
    line (Dec 1 1 0 (key 1 ∷ [])) ∷
    line_by (Show 0 (key 1)) (Says OutOfMemory ∷ []) ∷
    line_by (Ledger (lane 0 Up)) (Says OutOfMemory ∷ []) ∷
    line (LinkDown 0) ∷
    line (Fill 0 1 64 1) ∷
    line (LinkUp 0) ∷
    line_by (Fill 0 1 64 1) (Says IoFault ∷ []) ∷
    line (Status 0 0 1) ∷ []) ≡ (
      (at 1 (items.TookNone 0 Low refusals.DeviceFault) ∷ at 1 (items.TookNone 0 High refusals.Memory) ∷ []) ++
          took 2 0 2 ++
          (at 3 (items.Refused refusals.Memory) ∷
          at 4 (items.Refused refusals.NoRandom) ∷
          at 5 (items.Made 1 (key 1)) ∷
          at 6 (items.Refused refusals.NoRandom) ∷
          at 7 (items.Refused refusals.NotAllowed) ∷
          at 8 (items.Refused refusals.UnknownStream) ∷
          at 9 (items.NotTicked 0 refusals.Memory) ∷
          at 10 (items.Ticked 0 1 0) ∷
          at 10 (items.Sent (lane 0 Up) 0 8 58) ∷
          at 11 (items.Passed (lane 0 Up) 1 (Refused (refusals.NoFrame 1))) ∷
          at 12 (items.Flipped (lane 0 Up) 0 656 (Refused (refusals.NoBit 656))) ∷
          at 13 (items.Flipped (lane 0 Up) 1 656 (Refused (refusals.NoFrame 1))) ∷
          at 14 (items.Flipped (lane 0 Up) 0 655 (Refused (refusals.BadTag 82 1024))) ∷
          at 15 (items.Passed (lane 0 Up) 0 (Refused refusals.Memory)) ∷
          at 16 (items.Passed (lane 0 Up) 0 (Taken kinds.Key (key 1))) ∷
          at 17 (items.Passed (lane 0 Up) 0 (Again kinds.Key (key 1))) ∷
          at 18 (items.Refused (refusals.Few 0)) ∷
          at 19 (items.Refused (refusals.Unknown 1)) ∷
          at 20 (items.Refused (refusals.Repeated 1)) ∷
          at 21 (items.Refused refusals.Memory) ∷
          at 22 (items.Keys ((key 1, octets_on 0 32) ∷ [])) ∷
          at 23 (items.Refused (refusals.Handed 0)) ∷
          at 24 (items.NotShown 0 (key 1) refusals.Memory) ∷
          at 25 (items.NotCounted (lane 0 Up) refusals.Memory) ∷
          at 26 (items.LinkSet 0 false) ∷
          at 27 (items.Refused refusals.NoRoute) ∷
          at 28 (items.LinkSet 0 true) ∷
          at 29 (items.Refused refusals.Stopped) ∷
          at 30 (items.Refused refusals.Down) ∷ []),
      Whole,
      true,
    )

-- a link whose ends both have all blocks
abbrev pub filled : World → World
filled w = record w { durable = record (w.durable) { blocks = λ l. 1024 } }

abbrev pub FullLink : Type 0
FullLink =
    reported (ran_from no_http (two_nodes []) (filled (ran (two_nodes []) []).world) (line (Bits 0 Both 2) ∷ line (Bits 0 ends.High 1) ∷ [])) ≡ (
      at 1 (items.TookNone 0 Low refusals.LinkFull) ∷ at 1 (items.TookNone 0 High refusals.LinkFull) ∷ at 2 (items.TookNone 0 High refusals.LinkFull) ∷ [],
      Whole,
      true,
    )

-- the refusal of a frame's opening, by the frame's first octet
abbrev pub refused_as : List ℕ → Reply
refused_as [] = replies.BadTag 1 2
refused_as (b ∷ bs) = if b == 0 then replies.BadFrame 4 else if b == 1 then replies.WrongLane 5 1 else if b == 2 then replies.NoBits 7 else replies.BadTag 1 2

abbrev pub refusing : Network
refusing = let net = two_nodes [] in record net { sealing = record (net.sealing) { unseal = λ l bytes octets. Rejected (refused_as octets) } }

abbrev pub ForgedRefusals : Type 0
ForgedRefusals =
    row refusing
    (line (Forge (lane 0 Up) (0 ∷ [])) ∷ line (Forge (lane 0 Down) (1 ∷ [])) ∷ line (Forge (lane 0 Up) (2 ∷ [])) ∷ line (Forge (lane 0 Up) (3 ∷ [])) ∷
    line (Crash 1) ∷ line (Forge (lane 0 Up) (3 ∷ [])) ∷ []) ≡ (
      at 1 (items.Forged (lane 0 Up) (Refused (refusals.BadFrame 4))) ∷
          at 2 (items.Forged (lane 0 Down) (Refused (refusals.WrongLane 5 1))) ∷
          at 3 (items.Forged (lane 0 Up) (Refused (refusals.NoBits 7))) ∷
          at 4 (items.Forged (lane 0 Up) (Refused (refusals.BadTag 1 2))) ∷
          at 5 items.Crashed ∷
          at 6 (items.Forged (lane 0 Up) (Refused refusals.Down)) ∷ [],
      Whole,
      true,
    )

-- each refusal of a manager, as it is reported
abbrev pub RefusedReplies : Type 0
RefusedReplies =
    map refused_by
    (replies.LinkFull ∷ replies.PoolFull ∷ replies.UnknownStream ∷ replies.JournalFull 3 4 ∷ replies.BadFrame 5 ∷ replies.WrongLane 6 7 ∷ replies.NoBits 8 ∷ replies.BadTag 9 10 ∷ replies.Few 11 ∷
    replies.Unknown 12 ∷ replies.Repeated 13 ∷ replies.AlreadyHanded 14 ∷ replies.Noted ∷ replies.ReadyCount 1 ∷ []) ≡
    (Some refusals.LinkFull ∷ Some refusals.PoolFull ∷ Some refusals.UnknownStream ∷ Some (refusals.JournalFull 3 4) ∷ Some (refusals.BadFrame 5) ∷ Some (refusals.WrongLane 6 7) ∷
    Some (refusals.NoBits 8) ∷ Some (refusals.BadTag 9 10) ∷ Some (refusals.Few 11) ∷ Some (refusals.Unknown 12) ∷ Some (refusals.Repeated 13) ∷ Some (refusals.Handed 14) ∷ None ∷ None ∷ [])

-- The receiver accepts every tag. Forged octets that equal a frame of the wire count as a pass of that frame; other octets end the run.
abbrev pub ForgedRun : Type 0
ForgedRun =
    row (trusting (octets_on 0 32))
    (line (Bits 0 Both 2) ∷
    line (Fill 0 1 256 1) ∷
    line (Tick 0) ∷
    line (Forge (lane 0 Up) (8 ∷ replicate 81 0)) ∷
    line (Flip (lane 0 Up) 0 3) ∷
    line (Ledger (lane 0 Up)) ∷ []) ≡ (
      took 1 0 2 ++
          (at 2 (items.Made 1 (key 1)) ∷
          at 3 (items.Ticked 0 1 0) ∷
          at 3 (items.Sent (lane 0 Up) 0 8 58) ∷
          at 4 (items.Forged (lane 0 Up) (Taken kinds.Key (key 1))) ∷ []),
      ForgedAt 5,
      true,
    )

-- the slaves of a group may be named in any order
abbrev pub GroupOrder : Type 0
GroupOrder =
    row (two_spokes (octets_on 0 32))
    (line (FillGroup 0 256 1 (2 ∷ 1 ∷ [])) ∷ line (EncGroup 0 0 1 256 (2 ∷ 1 ∷ [])) ∷ line (Fill 0 2 256 1) ∷ []) ≡ (
      at 1 (items.Made 1 (key 1)) ∷ at 2 (items.Refused (refusals.Few 0)) ∷ at 3 (items.Refused refusals.NoRandom) ∷ [],
      Whole,
      true,
    )

-- an HTTP request is answered at once, or with any reply of the node's manager

abbrev pub request_of : ℕ → List ℕ → Request
request_of v [] = AnswersAtOnce 400 (v ∷ [])
request_of v (b ∷ bs) = Calls (events.Status 0 1)

abbrev pub with_http : HttpTexts
with_http = record { request = request_of; response = λ event reply. elim (refused_by reply) as (λ o. ℕ × List ℕ) [ None ↦ (200, 7 ∷ []) | Some refusal ↦ (503, 8 ∷ []) ] }

abbrev pub Requests : Type 0
Requests =
    reported (ran_from with_http (two_nodes []) first (starting (two_nodes []) (line (Http 1 []) ∷ line (Http 0 (5 ∷ [])) ∷ line (Http 1 (5 ∷ [])) ∷ line (Crash 0) ∷ line (Http 0 (5 ∷ [])) ∷ []))) ≡ (
      at 1 (items.Http 1 400 (1 ∷ [])) ∷ at 2 (items.Http 0 200 (7 ∷ [])) ∷ at 3 (items.Http 1 503 (8 ∷ [])) ∷ at 4 items.Crashed ∷ at 5 (items.Http 0 503 (8 ∷ [])) ∷ [],
      Whole,
      true,
    )
