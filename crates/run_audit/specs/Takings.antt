-- The names that nodes took. A taking is one such event: a node took a name as a fact or as an acknowledgement.
use Rattle.std.specs.Prelude.{ℕ, Bool, true, false, not, ◌&&◌, ◌==◌, List, Option, Some, None}
use Rattle.std.specs.List.{list_any, filter_map}
use Rattle.qkd_base.specs.declared.lane.Way.{Way}
use Rattle.qkd_base.specs.declared.lane.Way.TheVariants.{Up, Down}
use Rattle.qkd_base.specs.declared.lane.Lane.{Lane}
use Rattle.qkd_base.specs.Name.{Name, name_eq}
use Rattle.route_table.specs.Table.{Table}
use Rattle.declared_site.specs.SiteOf.{ends_or_none}
use Rattle.run_types.specs.declared.payload_kind.PayloadKind.{PayloadKind}
use Rattle.run_types.specs.declared.payload_kind.PayloadKind.TheVariants as payloads
use Rattle.run_types.specs.declared.frame_result.FrameResult.{FrameResult}
use Rattle.run_types.specs.declared.frame_result.FrameResult.TheVariants as results
use Rattle.run_types.specs.declared.item.Item.{Item}
use Rattle.run_types.specs.declared.item.Item.TheVariants as items
use Rattle.run_types.specs.declared.item.NumberedItem.{NumberedItem}
use Rattle.run_audit.specs.declared.frames.Frame.{Frame}
use Rattle.run_audit.specs.declared.takings.Taking.{Taking}
use Rattle.run_audit.specs.Rows.{same}
use Rattle.run_audit.specs.Frames.{was_sent}

abbrev pub end_at : Way → ℕ × ℕ → ℕ
end_at Up ends = ends.1
end_at Down ends = ends.0

-- the receiver of a lane: the link's higher node for the lane up, the lower node for the lane down
abbrev pub receiver : Table → Lane → ℕ
receiver t l = end_at l.way (ends_or_none t l.link)

abbrev pub is_ack : PayloadKind → Bool
is_ack payloads.Ack = true
is_ack _ = false

abbrev pub taken_on : Table → Lane → FrameResult → Option Taking
taken_on t l (results.Taken kind name) = Some (record { node = receiver t l; is_ack = is_ack kind; name = name })
taken_on t l _ = None

abbrev pub taking_of : Table → Item → Option Taking
taking_of t (items.Passed l number result) = taken_on t l result
taking_of t (items.Flipped l number bit result) = taken_on t l result
taking_of t (items.Forged l result) = taken_on t l result
taking_of t _ = None

-- all takings of the items, the last one first
abbrev pub takings : Table → List NumberedItem → List Taking
takings t told = filter_map (λ (n : NumberedItem). taking_of t n.item) told

abbrev pub taking_eq : Taking → Taking → Bool
taking_eq a b = (a.node == b.node) && same a.is_ack b.is_ack && name_eq a.name b.name

-- The taking is new: the node has not taken this name in the same role, as a fact or as an acknowledgement.
abbrev pub is_first : Option Taking → List Taking → Bool
is_first None before = true
is_first (Some t) before = not (list_any (λ e. taking_eq e t) before)

-- A frame that was taken had been sent before.
abbrev pub frame_is_there : Lane → (number : ℕ) → FrameResult → List Frame → Bool
frame_is_there l number (results.Taken kind name) fs = was_sent l number fs
frame_is_there l number _ fs = true

abbrev pub was_there : Item → List Frame → Bool
was_there (items.Passed l number result) fs = frame_is_there l number result fs
was_there (items.Flipped l number bit result) fs = frame_is_there l number result fs
was_there _ fs = true
