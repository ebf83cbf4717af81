-- The refusal that a report gives for a manager's reply, and for an outcome of the network.
use Rattle.std.specs.Prelude.{ℕ, List, [], ◌∷◌, slice_get, Option, Some, None, ◌-◌}
use Rattle.net_model.specs.declared.reply.Reply.{Reply}
use Rattle.net_model.specs.declared.reply.Reply.TheVariants as replies
use Rattle.net_model.specs.Action.{Outcome}
use Rattle.net_model.specs.Action as outcomes
use Rattle.run_types.specs.declared.refusal.Refusal.{Refusal}
use Rattle.run_types.specs.declared.refusal.Refusal.TheVariants.{Down, Stopped, Memory, LinkFull, NoBlock, DeviceFault, NotAllowed, NoRoute, PoolFull, UnknownStream, JournalFull, NoRandom, NoFrame, NoBit, BadFrame, WrongLane, NoBits, BadTag, Few, Unknown, Repeated, Handed}
use Rattle.run_types.specs.declared.item.Item.{Item}
use Rattle.run_types.specs.declared.payload_kind.PayloadKind.{PayloadKind}
use Rattle.run_types.specs.declared.payload_kind.PayloadKind.TheVariants as kinds

abbrev pub refused_by : Reply → Option Refusal
refused_by replies.Down = Some Down
refused_by replies.Stopped = Some Stopped
refused_by replies.Memory = Some Memory
refused_by replies.LinkFull = Some LinkFull
refused_by replies.NotAllowed = Some NotAllowed
refused_by replies.NoRoute = Some NoRoute
refused_by replies.PoolFull = Some PoolFull
refused_by replies.UnknownStream = Some UnknownStream
refused_by (replies.JournalFull length need) = Some (JournalFull length need)
refused_by replies.NoRandom = Some NoRandom
refused_by (replies.BadFrame place) = Some (BadFrame place)
refused_by (replies.WrongLane link way) = Some (WrongLane link way)
refused_by (replies.NoBits have) = Some (NoBits have)
refused_by (replies.BadTag given computed) = Some (BadTag given computed)
refused_by (replies.Few count) = Some (Few count)
refused_by (replies.Unknown place) = Some (Unknown place)
refused_by (replies.Repeated place) = Some (Repeated place)
refused_by (replies.AlreadyHanded place) = Some (Handed place)
refused_by _ = None

abbrev pub refused_in : Outcome → Option Refusal
refused_in (outcomes.Replies reply) = refused_by reply
refused_in outcomes.WasDown = Some Down
refused_in outcomes.NoBlock = Some NoBlock
refused_in outcomes.DeviceFailed = Some DeviceFault
refused_in (outcomes.NoFrame count) = Some (NoFrame count)
refused_in (outcomes.NoBit bits) = Some (NoBit bits)
refused_in _ = None

-- how a refusal is reported; an outcome that the line never has is not reported
abbrev pub reported_by : (Refusal → Item) → Option Refusal → List Item
reported_by item None = []
reported_by item (Some refusal) = item refusal ∷ []

-- the kind of a payload, from its kind octet, which is at least 1
abbrev pub kind_of_octet : ℕ → Option PayloadKind
kind_of_octet octet = slice_get (kinds.Key ∷ kinds.Stored ∷ kinds.Ack ∷ kinds.Open ∷ kinds.Joined ∷ kinds.Chunk ∷ kinds.Part ∷ []) (octet - 1)
