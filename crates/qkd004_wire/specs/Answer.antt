-- The line that answers a stream call (ETSI GS QKD 004 V2.1.1, clause 6).
use Rattle.std.specs.Prelude.{ℕ, List, [], ◌∷◌, Option, Some, None}
use Rattle.std.specs.Option.{option_map}
use Rattle.net_model.specs.declared.event.Event.{Event}
use Rattle.net_model.specs.declared.event.Event.TheVariants as events
use Rattle.net_model.specs.declared.reply.Reply.{Reply}
use Rattle.net_model.specs.Action.{Replies}
use Rattle.run_types.specs.declared.stream_call.StreamCall.{StreamCall}
use Rattle.run_types.specs.declared.stream_call.StreamCall.TheVariants.{Open, Join, Get, Close}
use Rattle.run_types.specs.declared.item.Item.{Item}
use Rattle.run_types.specs.Texts.{item_text}
use Rattle.run_model.specs.Outcomes.{stream_items}

-- The stream call of an event. Other events have none.
abbrev pub call_of : Event → Option StreamCall
call_of (events.Open source peer bits) = Some (Open source peer bits)
call_of (events.Join caller other stream bits) = Some (Join caller other stream bits)
call_of (events.Get caller stream index) = Some (Get caller stream index)
call_of (events.Close caller stream) = Some (Close caller stream)
call_of _ = None

abbrev pub first_item : List Item → Option Item
first_item [] = None
first_item (item ∷ others) = Some item

abbrev pub told_of : Reply → Option StreamCall → Option Item
told_of reply None = None
told_of reply (Some call) = first_item (stream_items call (Replies reply))

-- The item that a report has for the reply to a call. Other events, and other replies, have none.
unfoldable pub told : Event → Reply → Option Item
told event reply = told_of reply (call_of event)

-- The text of that item. It names no node.
abbrev pub answer_line : Event → Reply → Option (List ℕ)
answer_line event reply = option_map (item_text []) (told event reply)
