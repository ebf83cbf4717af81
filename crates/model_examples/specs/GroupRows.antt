-- Group keys.
use Rattle.std.specs.Prelude.{◌≡◌, ◌∷◌, ◌++◌, [], true, false}
use Rattle.qkd_base.specs.declared.lane.Way.TheVariants.{Up, Down}
use Rattle.net_model.specs.declared.held.Held.TheVariants.{Absent, Given, Ready, Made, Kept as KeptKey}
use Rattle.run_types.specs.declared.command.Command.TheVariants.{Bits, Fill, Tick, Settle, Pass, Start, LinkDown, Dec, Show, Ledger, FillGroup, EncGroup}
use Rattle.run_types.specs.declared.end.Ends.TheVariants.{Both}
use Rattle.run_types.specs.declared.frame_result.FrameResult.TheVariants.{Taken}
use Rattle.run_model.specs.Play.{Whole}
use Rattle.model_examples.specs.Networks.{lane, key, note, counts, octets_on, two_spokes, one_spoke}
use Rattle.model_examples.specs.Row.{row, line, at, took}
use Rattle.run_types.specs.declared.item.Item.TheVariants as items
use Rattle.run_types.specs.declared.payload_kind.PayloadKind.TheVariants as kinds
use Rattle.run_types.specs.declared.refusal.Refusal.TheVariants as refusals
use Rattle.run_types.specs.declared.start_result.StartResult.TheVariants as starts

-- one key for two slaves at two nodes: its parts, its ledgers, and its handing to the master and to each slave once
abbrev pub GroupKey : Type 0
GroupKey =
    row (two_spokes (octets_on 0 32))
    (line (Bits 0 Both 2) ∷
    line (Bits 1 Both 2) ∷
    line (FillGroup 0 256 1 (1 ∷ 2 ∷ [])) ∷
    line (Show 0 (key 1)) ∷
    line (Settle 10) ∷
    line (Ledger (lane 0 Up)) ∷
    line (Ledger (lane 0 Down)) ∷
    line (Ledger (lane 1 Up)) ∷
    line (Ledger (lane 1 Down)) ∷
    line (Show 0 (key 1)) ∷
    line (Show 1 (key 1)) ∷
    line (Show 1 (key 2)) ∷
    line (EncGroup 0 0 1 256 (1 ∷ 2 ∷ [])) ∷
    line (EncGroup 0 0 1 256 (1 ∷ 2 ∷ [])) ∷
    line (Show 0 (key 1)) ∷
    line (Dec 1 1 0 ((key 1) ∷ [])) ∷
    line (Dec 2 2 0 ((key 1) ∷ [])) ∷
    line (Dec 1 1 0 ((key 2) ∷ [])) ∷
    line (Dec 1 1 0 ((key 1) ∷ [])) ∷
    line (Show 1 (key 1)) ∷ []) ≡ (
      took 1 0 2 ++
          took 2 1 2 ++
          (at 3 (items.Made 1 (key 1)) ∷
          at 4 (items.Shown 0 (key 1) Made (octets_on 0 32)) ∷
          at 5 (items.Ticked 0 2 0) ∷
          at 5 (items.Sent (lane 0 Up) 0 8 74) ∷
          at 5 (items.Sent (lane 1 Up) 0 8 74) ∷
          at 5 (items.Passed (lane 0 Up) 0 (Taken kinds.Part (key 2))) ∷
          at 5 (items.Passed (lane 1 Up) 0 (Taken kinds.Part (key 3))) ∷
          at 5 (items.Ticked 1 2 0) ∷
          at 5 (items.Sent (lane 0 Down) 0 8 17) ∷
          at 5 (items.Sent (lane 0 Down) 1 33 36) ∷
          at 5 (items.Ticked 2 2 0) ∷
          at 5 (items.Sent (lane 1 Down) 0 8 17) ∷
          at 5 (items.Sent (lane 1 Down) 1 33 36) ∷
          at 5 (items.Passed (lane 0 Down) 0 (Taken kinds.Ack (key 2))) ∷
          at 5 (items.Passed (lane 0 Down) 1 (Taken kinds.Stored (note 1 1))) ∷
          at 5 (items.Passed (lane 1 Down) 0 (Taken kinds.Ack (key 3))) ∷
          at 5 (items.Passed (lane 1 Down) 1 (Taken kinds.Stored (note 2 1))) ∷
          at 5 (items.Ticked 0 2 0) ∷
          at 5 (items.Sent (lane 0 Up) 1 90 17) ∷
          at 5 (items.Sent (lane 1 Up) 1 90 17) ∷
          at 5 (items.Passed (lane 0 Up) 1 (Taken kinds.Ack (note 1 1))) ∷
          at 5 (items.Passed (lane 1 Up) 1 (Taken kinds.Ack (note 2 1))) ∷
          at 6 (items.Counted (lane 0 Up) (counts 1024 909 115 0)) ∷
          at 7 (items.Counted (lane 0 Down) (counts 1024 947 77 0)) ∷
          at 8 (items.Counted (lane 1 Up) (counts 1024 909 115 0)) ∷
          at 9 (items.Counted (lane 1 Down) (counts 1024 947 77 0)) ∷
          at 10 (items.Shown 0 (key 1) Ready (octets_on 0 32)) ∷
          at 11 (items.Shown 1 (key 1) KeptKey (octets_on 0 32)) ∷
          at 12 (items.Shown 1 (key 2) Absent []) ∷
          at 13 (items.Keys (((key 1), (octets_on 0 32)) ∷ [])) ∷
          at 14 (items.Refused (refusals.Few 0)) ∷
          at 15 (items.Shown 0 (key 1) Given []) ∷
          at 16 (items.Keys (((key 1), (octets_on 0 32)) ∷ [])) ∷
          at 17 (items.Keys (((key 1), (octets_on 0 32)) ∷ [])) ∷
          at 18 (items.Refused (refusals.Unknown 0)) ∷
          at 19 (items.Refused (refusals.Handed 0)) ∷
          at 20 (items.Shown 1 (key 1) Given []) ∷ []),
      Whole,
      true,
    )

-- while a part is not confirmed the master can't get the group key, but each slave that has its part can
abbrev pub GroupWaits : Type 0
GroupWaits =
    row (two_spokes (octets_on 0 32))
    (line (Bits 0 Both 2) ∷
    line (Bits 1 Both 2) ∷
    line (FillGroup 0 256 1 (1 ∷ 2 ∷ [])) ∷
    line (Tick 0) ∷
    line (Pass (lane 0 Up) 0) ∷
    line (Tick 1) ∷
    line (Pass (lane 0 Down) 0) ∷
    line (Pass (lane 0 Down) 1) ∷
    line (EncGroup 0 0 1 256 (1 ∷ 2 ∷ [])) ∷
    line (Dec 1 1 0 ((key 1) ∷ [])) ∷
    line (Dec 2 2 0 ((key 1) ∷ [])) ∷ []) ≡ (
      took 1 0 2 ++
          took 2 1 2 ++
          (at 3 (items.Made 1 (key 1)) ∷
          at 4 (items.Ticked 0 2 0) ∷
          at 4 (items.Sent (lane 0 Up) 0 8 74) ∷
          at 4 (items.Sent (lane 1 Up) 0 8 74) ∷
          at 5 (items.Passed (lane 0 Up) 0 (Taken kinds.Part (key 2))) ∷
          at 6 (items.Ticked 1 2 0) ∷
          at 6 (items.Sent (lane 0 Down) 0 8 17) ∷
          at 6 (items.Sent (lane 0 Down) 1 33 36) ∷
          at 7 (items.Passed (lane 0 Down) 0 (Taken kinds.Ack (key 2))) ∷
          at 8 (items.Passed (lane 0 Down) 1 (Taken kinds.Stored (note 1 1))) ∷
          at 9 (items.Refused (refusals.Few 0)) ∷
          at 10 (items.Keys (((key 1), (octets_on 0 32)) ∷ [])) ∷
          at 11 (items.Refused (refusals.Unknown 0)) ∷ []),
      Whole,
      true,
    )

-- a group key takes one count of its origin, and its parts the next ones; the next key goes on after them
abbrev pub GroupNames : Type 0
GroupNames =
    row (two_spokes (octets_on 0 96))
    (line (FillGroup 0 256 2 (1 ∷ 2 ∷ [])) ∷
    line (Fill 0 1 256 1) ∷
    line (EncGroup 0 0 1 128 (1 ∷ 2 ∷ [])) ∷
    line (EncGroup 1 0 1 256 (1 ∷ 2 ∷ [])) ∷
    line (LinkDown 1) ∷
    line (FillGroup 0 256 1 (1 ∷ 2 ∷ [])) ∷ []) ≡ (
      at 1 (items.Made 2 (key 1)) ∷
          at 2 (items.Made 1 (key 7)) ∷
          at 3 (items.Refused (refusals.Few 0)) ∷
          at 4 (items.Refused refusals.NotAllowed) ∷
          at 5 (items.LinkSet 1 false) ∷
          at 6 (items.Refused refusals.NoRoute) ∷ [],
      Whole,
      true,
    )

-- two slaves at one node: the key is shown as kept until both have it
abbrev pub TwoAtHome : Type 0
TwoAtHome =
    row (one_spoke (octets_on 0 32))
    (line (Bits 0 Both 2) ∷
    line (FillGroup 0 256 1 (1 ∷ 2 ∷ [])) ∷
    line (Tick 0) ∷
    line (Pass (lane 0 Up) 0) ∷
    line (Show 1 (key 1)) ∷
    line (Pass (lane 0 Up) 1) ∷
    line (Dec 1 1 0 ((key 1) ∷ [])) ∷
    line (Show 1 (key 1)) ∷
    line (Dec 1 2 0 ((key 1) ∷ [])) ∷
    line (Show 1 (key 1)) ∷
    line (Start 1) ∷ []) ≡ (
      took 1 0 2 ++
          (at 2 (items.Made 1 (key 1)) ∷
          at 3 (items.Ticked 0 2 0) ∷
          at 3 (items.Sent (lane 0 Up) 0 8 74) ∷
          at 3 (items.Sent (lane 0 Up) 1 90 74) ∷
          at 4 (items.Passed (lane 0 Up) 0 (Taken kinds.Part (key 2))) ∷
          at 5 (items.Shown 1 (key 1) KeptKey (octets_on 0 32)) ∷
          at 6 (items.Passed (lane 0 Up) 1 (Taken kinds.Part (key 3))) ∷
          at 7 (items.Keys (((key 1), (octets_on 0 32)) ∷ [])) ∷
          at 8 (items.Shown 1 (key 1) KeptKey (octets_on 0 32)) ∷
          at 9 (items.Keys (((key 1), (octets_on 0 32)) ∷ [])) ∷
          at 10 (items.Shown 1 (key 1) Given []) ∷
          at 11 (items.Start starts.WasUp) ∷ []),
      Whole,
      true,
    )
