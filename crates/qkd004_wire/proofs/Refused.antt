-- The item that a report has for a refused call.
use Rattle.std.proofs.Common.{◌≡◌, ℕ, List, Option, Some, None, is_some, refl}
use Rattle.std.specs.Prelude.{if◌then◌else◌}
use Rattle.std.specs.Option.{option_map}
use Rattle.qkd_base.specs.Name.{Name}
use Rattle.net_model.specs.declared.reply.Reply.{Reply}
use Rattle.net_model.specs.declared.reply.Reply.TheVariants as replies
use Rattle.net_model.specs.Action.{Replies}
use Rattle.run_types.specs.declared.stream_call.StreamCall.{StreamCall}
use Rattle.run_types.specs.declared.item.Item.TheVariants as items
use Rattle.run_model.specs.Refusals.{refused_by}
use Rattle.run_model.specs.Outcomes.{stream_items}
use Rattle.qkd004_wire.specs.Answer.{first_item, told_of}

abbrev IsNoAnswer : Reply → Type 0
IsNoAnswer reply = (status : ℕ) (stream : Option Name) (index : ℕ) (bytes : List ℕ) → reply ≡ replies.Stream status stream index bytes → ⊥

by_reply : (call : StreamCall) (reply : Reply) → IsNoAnswer reply → option_map items.Refused (refused_by reply) ≡ first_item (stream_items call (Replies reply))
by_reply call (replies.Took number) none = refl
by_reply call (replies.MadeKeys count first) none = refl
by_reply call (replies.Planned orders repeats shorts) none = refl
by_reply call (replies.HeardFact fresh kind name) none = refl
by_reply call (replies.Handed keys) none = refl
by_reply call (replies.ReadyCount count) none = refl
by_reply call (replies.Shown held bytes) none = refl
by_reply call (replies.Counted counts) none = refl
by_reply call replies.Noted none = refl
by_reply call replies.Down none = refl
by_reply call replies.Stopped none = refl
by_reply call replies.Memory none = refl
by_reply call replies.LinkFull none = refl
by_reply call replies.NotAllowed none = refl
by_reply call replies.NoRoute none = refl
by_reply call replies.PoolFull none = refl
by_reply call replies.UnknownStream none = refl
by_reply call (replies.JournalFull length need) none = refl
by_reply call replies.NoRandom none = refl
by_reply call (replies.BadFrame place) none = refl
by_reply call (replies.WrongLane link way) none = refl
by_reply call (replies.NoBits have) none = refl
by_reply call (replies.BadTag given computed) none = refl
by_reply call (replies.Few count) none = refl
by_reply call (replies.Unknown place) none = refl
by_reply call (replies.Repeated place) none = refl
by_reply call (replies.AlreadyHanded place) none = refl
by_reply call (replies.Stream status stream index bytes) none = absurd (none status stream index bytes refl)

pub refused_told : (call : Option StreamCall) (reply : Reply) → IsNoAnswer reply → (if is_some call then option_map items.Refused (refused_by reply) else None) ≡ told_of reply call
refused_told None reply none = refl
refused_told (Some call) reply none = by_reply call reply none
