-- Lists with empty slots, whose items are removed and changed in place.
use Rattle.std.specs.Prelude.{◌==◌, ◌&&◌, is_none, Bool, true, false, Option, Some, None, if◌then◌else◌}
use Rattle.qkd_base.specs.Lane.{lane_eq}
use Rattle.net_model.specs.Item.{item_of, is_data_of}
use Rattle.net_model.specs.Window.{offset_eq}
use Rattle.resend_window.specs.declared.held.Held.{Held}
use Rattle.resend_window.specs.declared.edit.Query.{Query}
use Rattle.resend_window.specs.declared.edit.Query.TheVariants.{At, Answering, DataOf, SentAt}
use Rattle.resend_window.specs.declared.edit.Edit.{Edit}
use Rattle.resend_window.specs.declared.edit.Edit.TheVariants.{MarkDue, Renew, Renumber, Ripen, Remove}

-- the slot has an item that passes the test
abbrev pub passes : {A : Type 0} → (A → Bool) → Option A → Bool
passes t None = false
passes t (Some x) = t x

abbrev pub is_asked : Query → Held → Bool
is_asked (At l x) h = lane_eq h.lane l && (h.offset == x)
is_asked (Answering l x) h = lane_eq h.lane l && offset_eq h.ack_of (Some x)
is_asked (DataOf l n) h = lane_eq h.lane l && is_data_of n (item_of h.ack_of h.name)
is_asked (SentAt tick) h = is_none h.ack_of && (h.sent == tick)

abbrev pub edit : Edit → Held → Option Held
edit MarkDue h = Some (record h { due = true })
edit (Renew now) h = Some (record h { sent = now; due = false; ripe = false })
edit (Renumber n) h = Some (record h { number = Some n })
edit Ripen h = Some (record h { ripe = true })
edit Remove h = None

-- the slot after a change, if the query finds its frame
abbrev pub edited : Query → Edit → Option Held → Option Held
edited q e None = None
edited q e (Some h) = if is_asked q h then edit e h else Some h

-- the slot after its item is removed, if the item passes the test
abbrev pub removed : {A : Type 0} → (A → Bool) → Option A → Option A
removed t None = None
removed t (Some x) = if t x then None else Some x
