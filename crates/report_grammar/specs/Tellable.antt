-- What a line can tell: all numbers are in range, and all nodes are declared.
use Rattle.std.specs.Prelude.{◌≡◌, ℕ, ◌^◌, ◌<◌, ◌==◌, true, not, List, [], Option, Some, None, ◌∷◌}
use Rattle.std.specs.List.{list_all, position_from}
use Rattle.std.specs.Str.{bytes_eq}
use Rattle.hex.specs.Hex.{IsBytes}
use Rattle.qkd_base.specs.Name.{Name, IsName}
use Rattle.net_model.specs.declared.counts.Counts4.{Counts4}
use Rattle.net_model.specs.declared.held.Held.{Held}
use Rattle.net_model.specs.declared.held.Held.TheVariants as states
use Rattle.scenario_text.specs.Words.{is_space}
use Rattle.run_types.specs.declared.refusal.Refusal.{Refusal}
use Rattle.run_types.specs.declared.refusal.Refusal.TheVariants as refusals
use Rattle.run_types.specs.declared.frame_result.FrameResult.{FrameResult}
use Rattle.run_types.specs.declared.frame_result.FrameResult.TheVariants as results
use Rattle.run_types.specs.declared.start_result.StartResult.{StartResult}
use Rattle.run_types.specs.declared.start_result.StartResult.TheVariants as starts
use Rattle.run_types.specs.declared.stream_answer.Chunk.{Chunk}
use Rattle.run_types.specs.declared.stream_answer.StreamAnswer.{StreamAnswer}
use Rattle.run_types.specs.declared.stream_answer.StreamAnswer.TheVariants as answers
use Rattle.run_types.specs.declared.item.Item.{Item}
use Rattle.run_types.specs.declared.item.Item.TheVariants as items
use Rattle.run_types.specs.declared.item.NumberedItem.{NumberedItem}
use Rattle.run_types.specs.Words.{node_text}

-- The node is declared, and no node before it has its name. The name has no space and no line feed.
pub record HasName (nodes : List (List ℕ)) (v : ℕ) : Type 0 where
  pub small : v < 16
  pub spaceless : list_all (λ b. not (is_space b)) (node_text nodes v) ≡ true
  pub endless : list_all (λ b. not (b == 10)) (node_text nodes v) ≡ true
  pub own : position_from (λ name. bytes_eq name (node_text nodes v)) 0 nodes ≡ Some v

abbrev pub CanRefuse : Refusal → Type 0
CanRefuse (refusals.JournalFull length need) = (length < 2 ^ 64) × (need < 2 ^ 64)
CanRefuse (refusals.NoFrame count) = count < 2 ^ 64
CanRefuse (refusals.NoBit bits) = bits < 2 ^ 32
CanRefuse (refusals.BadFrame place) = place < 2 ^ 32
CanRefuse (refusals.WrongLane link way) = (link < 2 ^ 8) × (way < 2 ^ 8)
CanRefuse (refusals.NoBits have) = have < 2 ^ 64
CanRefuse (refusals.BadTag given computed) = (given < 2 ^ 64) × (computed < 2 ^ 64)
CanRefuse (refusals.Few count) = count < 2 ^ 32
CanRefuse (refusals.Unknown place) = place < 2 ^ 16
CanRefuse (refusals.Repeated place) = place < 2 ^ 16
CanRefuse (refusals.Handed place) = place < 2 ^ 16
CanRefuse _ = Unit {0}

abbrev pub CanResult : FrameResult → Type 0
CanResult (results.Taken kind name) = IsName name
CanResult (results.Again kind name) = IsName name
CanResult (results.Refused refusal) = CanRefuse refusal

abbrev pub CanStart : StartResult → Type 0
CanStart (starts.Foreign place) = place < 2 ^ 64
CanStart _ = Unit {0}

abbrev pub CanOpen : Option Name → Type 0
CanOpen None = Unit {0}
CanOpen (Some stream) = IsName stream

abbrev pub CanHand : Option Chunk → Type 0
CanHand None = Unit {0}
CanHand (Some c) = (c.index < 2 ^ 32) × IsBytes c.bytes

abbrev pub CanAnswer : StreamAnswer → Type 0
CanAnswer (answers.OpenConnect status stream) = (status < 2 ^ 8) × CanOpen stream
CanAnswer (answers.GetKey status chunk) = (status < 2 ^ 8) × CanHand chunk
CanAnswer (answers.Close status) = status < 2 ^ 8

abbrev pub AreKeys : List (Name × List ℕ) → Type 0
AreKeys [] = Unit {0}
AreKeys (k ∷ ks) = IsName k.0 × IsBytes k.1 × AreKeys ks

-- A key that is absent at a node has no bytes there.
abbrev pub CanHold : Held → List ℕ → Type 0
CanHold states.Absent bytes = bytes ≡ []
CanHold held bytes = IsBytes bytes

pub record AreCounts (c : Counts4) : Type 0 where
  pub received : c.received < 2 ^ 64
  pub unused : c.unused < 2 ^ 64
  pub spent : c.spent < 2 ^ 64
  pub burnt : c.burnt < 2 ^ 64

abbrev pub CanItem : List (List ℕ) → Item → Type 0
CanItem nodes (items.Refused refusal) = CanRefuse refusal
CanItem nodes (items.Took link end number) = (link < 32) × (number < 2 ^ 32)
CanItem nodes (items.TookNone link end refusal) = (link < 32) × CanRefuse refusal
CanItem nodes (items.Made count first) = (count < 2 ^ 16) × IsName first
CanItem nodes (items.Ticked v fresh again) = HasName nodes v × (fresh < 2 ^ 32) × (again < 2 ^ 32)
CanItem nodes (items.Idle v) = HasName nodes v
CanItem nodes (items.NotTicked v refusal) = HasName nodes v × CanRefuse refusal
CanItem nodes (items.Short l used need received) = (l.link < 32) × (used < 2 ^ 64) × (need < 2 ^ 64) × (received < 2 ^ 64)
CanItem nodes (items.Sent l number offset length) = (l.link < 32) × (number < 2 ^ 64) × (offset < 2 ^ 64) × (length < 2 ^ 16)
CanItem nodes (items.Unsent l offset cause) = (l.link < 32) × (offset < 2 ^ 64)
CanItem nodes (items.Passed l number result) = (l.link < 32) × (number < 2 ^ 32) × CanResult result
CanItem nodes (items.Flipped l number bit result) = (l.link < 32) × (number < 2 ^ 32) × (bit < 2 ^ 32) × CanResult result
CanItem nodes (items.Forged l result) = (l.link < 32) × CanResult result
CanItem nodes items.Crashed = Unit {0}
CanItem nodes (items.Start result) = CanStart result
CanItem nodes items.Armed = Unit {0}
CanItem nodes (items.LinkSet link up) = link < 32
CanItem nodes (items.Keys keys) = AreKeys keys
CanItem nodes (items.Ready count) = count < 2 ^ 32
CanItem nodes (items.Http v status body) = HasName nodes v × (status < 2 ^ 16)
CanItem nodes (items.Stream answer) = CanAnswer answer
CanItem nodes (items.Shown v name held bytes) = HasName nodes v × IsName name × CanHold held bytes
CanItem nodes (items.NotShown v name refusal) = HasName nodes v × IsName name × CanRefuse refusal
CanItem nodes (items.Counted l counts) = (l.link < 32) × AreCounts counts
CanItem nodes (items.NotCounted l refusal) = (l.link < 32) × CanRefuse refusal

abbrev pub CanTell : List (List ℕ) → NumberedItem → Type 0
CanTell nodes told = (told.number < 2 ^ 32) × CanItem nodes told.item

-- Two items may have the same text; a line is then read as the item of the first row. There is one such case: a start that ended stopped,
-- or for lack of memory, has the text of a refusal.
abbrev pub first_start : StartResult → Item
first_start starts.Stopped = items.Refused refusals.Stopped
first_start starts.Memory = items.Refused refusals.Memory
first_start result = items.Start result

abbrev pub first_item : Item → Item
first_item (items.Start result) = first_start result
first_item item = item

abbrev pub first_told : NumberedItem → NumberedItem
first_told told = record { number = told.number; item = first_item told.item }
