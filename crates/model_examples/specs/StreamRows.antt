-- Streams.
use Rattle.std.specs.Prelude.{◌≡◌, ◌∷◌, ◌++◌, [], true, false, Some, None}
use Rattle.qkd_base.specs.declared.lane.Way.TheVariants.{Up, Down}
use Rattle.qkd_base.specs.declared.key_name.NameKind.TheVariants.{Stream as StreamKind}
use Rattle.run_types.specs.declared.command.Command.TheVariants.{Bits, Fill, Feed, Settle, LinkUp, LinkDown, Stream}
use Rattle.run_types.specs.declared.end.Ends.TheVariants.{Both}
use Rattle.run_types.specs.declared.stream_call.StreamCall.TheVariants.{Open, Join, Get, Close}
use Rattle.run_types.specs.declared.frame_result.FrameResult.TheVariants.{Taken}
use Rattle.run_types.specs.declared.stream_answer.StreamAnswer.TheVariants.{OpenConnect, GetKey}
use Rattle.run_model.specs.Play.{Whole}
use Rattle.model_examples.specs.Networks.{a_name, lane, key, note, stream, octets_on, two_nodes, with_third}
use Rattle.model_examples.specs.Row.{row, line, at, took, chunk}
use Rattle.run_types.specs.declared.stream_answer.StreamAnswer.TheVariants as answers
use Rattle.run_types.specs.declared.item.Item.TheVariants as items
use Rattle.run_types.specs.declared.payload_kind.PayloadKind.TheVariants as kinds
use Rattle.run_types.specs.declared.refusal.Refusal.TheVariants as refusals

-- a stream is opened, joined, fed, read at both ends and closed
abbrev pub Streams : Type 0
Streams =
    row (two_nodes (octets_on 0 32))
    (line (Bits 0 Both 2) ∷
    line (Stream 0 (Open 0 1 256)) ∷
    line (Stream 0 (Get 0 (stream 1) 0)) ∷
    line (Settle 10) ∷
    line (Stream 1 (Join 1 0 (stream 1) 256)) ∷
    line (Settle 10) ∷
    line (Stream 0 (Get 0 (stream 1) 0)) ∷
    line (Feed (stream 1) 1) ∷
    line (Stream 0 (Get 0 (stream 1) 0)) ∷
    line (Settle 10) ∷
    line (Stream 0 (Get 0 (stream 1) 0)) ∷
    line (Stream 1 (Get 1 (stream 1) 0)) ∷
    line (Stream 0 (Get 0 (stream 1) 0)) ∷
    line (Stream 0 (Close 0 (stream 1))) ∷
    line (Stream 0 (Get 0 (stream 1) 1)) ∷
    line (Feed (stream 1) 1) ∷
    line (Stream 1 (Get 1 (stream 1) 0)) ∷
    line (Stream 1 (Get 1 (stream 1) 1)) ∷ []) ≡ (
      took 1 0 2 ++
          (at 2 (items.Stream (OpenConnect 1 (Some (stream 1)))) ∷
          at 3 (items.Stream (GetKey 3 None)) ∷
          at 4 (items.Ticked 0 1 0) ∷
          at 4 (items.Sent (lane 0 Up) 0 8 26) ∷
          at 4 (items.Passed (lane 0 Up) 0 (Taken kinds.Open (stream 1))) ∷
          at 4 (items.Ticked 1 1 0) ∷
          at 4 (items.Sent (lane 0 Down) 0 8 17) ∷
          at 4 (items.Passed (lane 0 Down) 0 (Taken kinds.Ack (stream 1))) ∷
          at 5 (items.Stream (OpenConnect 0 (Some (stream 1)))) ∷
          at 6 (items.Ticked 1 1 0) ∷
          at 6 (items.Sent (lane 0 Down) 1 33 36) ∷
          at 6 (items.Passed (lane 0 Down) 1 (Taken kinds.Joined (note 1 1))) ∷
          at 6 (items.Ticked 0 1 0) ∷
          at 6 (items.Sent (lane 0 Up) 1 42 17) ∷
          at 6 (items.Passed (lane 0 Up) 1 (Taken kinds.Ack (note 1 1))) ∷
          at 7 (items.Stream (GetKey 2 None)) ∷
          at 8 (items.Made 1 (key 2)) ∷
          at 9 (items.Stream (GetKey 2 None)) ∷
          at 10 (items.Ticked 0 1 0) ∷
          at 10 (items.Sent (lane 0 Up) 2 67 74) ∷
          at 10 (items.Passed (lane 0 Up) 2 (Taken kinds.Chunk (key 2))) ∷
          at 10 (items.Ticked 1 2 0) ∷
          at 10 (items.Sent (lane 0 Down) 2 77 17) ∷
          at 10 (items.Sent (lane 0 Down) 3 102 36) ∷
          at 10 (items.Passed (lane 0 Down) 2 (Taken kinds.Ack (key 2))) ∷
          at 10 (items.Passed (lane 0 Down) 3 (Taken kinds.Stored (note 1 2))) ∷
          at 10 (items.Ticked 0 1 0) ∷
          at 10 (items.Sent (lane 0 Up) 3 149 17) ∷
          at 10 (items.Passed (lane 0 Up) 3 (Taken kinds.Ack (note 1 2))) ∷
          at 11 (items.Stream (GetKey 0 (Some (chunk 0 (octets_on 0 32))))) ∷
          at 12 (items.Stream (GetKey 0 (Some (chunk 0 (octets_on 0 32))))) ∷
          at 13 (items.Stream (GetKey 10 None)) ∷
          at 14 (items.Stream (answers.Close 0)) ∷
          at 15 (items.Stream (GetKey 9 None)) ∷
          at 16 (items.Refused refusals.UnknownStream) ∷
          at 17 (items.Stream (GetKey 10 None)) ∷
          at 18 (items.Stream (GetKey 2 None)) ∷ []),
      Whole,
      true,
    )

-- who may join a stream: once, with the same size, and at the right node; the other statuses of a stream
abbrev pub Joining : Type 0
Joining =
    row (with_third (octets_on 0 32))
    (line (Bits 0 Both 2) ∷
    line (Stream 0 (Open 0 1 100)) ∷
    line (Stream 0 (Open 1 0 256)) ∷
    line (LinkDown 0) ∷
    line (Stream 0 (Open 0 1 256)) ∷
    line (LinkUp 0) ∷
    line (Stream 1 (Join 1 0 (stream 1) 256)) ∷
    line (Stream 0 (Open 0 1 256)) ∷
    line (Settle 10) ∷
    line (Stream 1 (Join 2 0 (stream 1) 256)) ∷
    line (Stream 1 (Join 1 2 (stream 1) 256)) ∷
    line (Stream 1 (Join 0 1 (stream 1) 256)) ∷
    line (Stream 1 (Join 1 0 (stream 1) 128)) ∷
    line (Stream 1 (Get 1 (stream 1) 0)) ∷
    line (Stream 1 (Close 1 (stream 1))) ∷
    line (Stream 1 (Join 1 0 (stream 1) 256)) ∷
    line (Stream 1 (Join 1 0 (stream 1) 256)) ∷
    line (Stream 1 (Join 2 0 (stream 1) 256)) ∷
    line (Stream 1 (Join 1 2 (stream 1) 64)) ∷
    line (Stream 1 (Get 2 (stream 1) 0)) ∷
    line (Stream 1 (Get 1 (stream 1) 0)) ∷
    line (Feed (stream 1) 1) ∷
    line (Stream 0 (Get 0 (stream 1) 0)) ∷
    line (Stream 1 (Close 1 (stream 1))) ∷
    line (Stream 1 (Get 1 (stream 1) 0)) ∷
    line (Stream 1 (Join 1 0 (stream 1) 256)) ∷ []) ≡ (
      took 1 0 2 ++
          (at 2 (items.Stream (OpenConnect 7 None)) ∷
          at 3 (items.Stream (OpenConnect 8 None)) ∷
          at 4 (items.LinkSet 0 false) ∷
          at 5 (items.Stream (OpenConnect 4 None)) ∷
          at 6 (items.LinkSet 0 true) ∷
          at 7 (items.Stream (OpenConnect 9 None)) ∷
          at 8 (items.Stream (OpenConnect 1 (Some (stream 1)))) ∷
          at 9 (items.Ticked 0 1 0) ∷
          at 9 (items.Sent (lane 0 Up) 0 8 26) ∷
          at 9 (items.Passed (lane 0 Up) 0 (Taken kinds.Open (stream 1))) ∷
          at 9 (items.Ticked 1 1 0) ∷
          at 9 (items.Sent (lane 0 Down) 0 8 17) ∷
          at 9 (items.Passed (lane 0 Down) 0 (Taken kinds.Ack (stream 1))) ∷
          at 10 (items.Stream (OpenConnect 8 None)) ∷
          at 11 (items.Stream (OpenConnect 8 None)) ∷
          at 12 (items.Stream (OpenConnect 5 None)) ∷
          at 13 (items.Stream (OpenConnect 7 None)) ∷
          at 14 (items.Stream (GetKey 9 None)) ∷
          at 15 (items.Stream (answers.Close 9)) ∷
          at 16 (items.Stream (OpenConnect 0 (Some (stream 1)))) ∷
          at 17 (items.Stream (OpenConnect 5 None)) ∷
          at 18 (items.Stream (OpenConnect 8 None)) ∷
          at 19 (items.Stream (OpenConnect 5 None)) ∷
          at 20 (items.Stream (GetKey 8 None)) ∷
          at 21 (items.Stream (GetKey 2 None)) ∷
          at 22 (items.Made 1 (key 2)) ∷
          at 23 (items.Stream (GetKey 3 None)) ∷
          at 24 (items.Stream (answers.Close 0)) ∷
          at 25 (items.Stream (GetKey 9 None)) ∷
          at 26 (items.Stream (OpenConnect 9 None)) ∷ []),
      Whole,
      true,
    )

-- `feed` takes a name of any kind, and refuses those that are no stream here
abbrev pub FedByAnyName : Type 0
FedByAnyName =
    row (two_nodes (octets_on 0 8))
    (line (Bits 0 Both 2) ∷ line (Fill 0 1 64 1) ∷ line (Feed (key 1) 1) ∷ line (Feed (note 0 7) 128) ∷ line (Feed (a_name 1 StreamKind 1) 2) ∷ []) ≡ (
      took 1 0 2 ++
          (at 2 (items.Made 1 (key 1)) ∷
          at 3 (items.Refused refusals.UnknownStream) ∷
          at 4 (items.Refused refusals.UnknownStream) ∷
          at 5 (items.Refused refusals.UnknownStream) ∷ []),
      Whole,
      true,
    )
