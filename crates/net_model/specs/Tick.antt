-- A tick: a plan, then its frames, lane by lane in order of link, and then the note of what became of them.
use Rattle.std.specs.Prelude.{List, ◌++◌, map, filter}
use Rattle.std.specs.List.{flat_map}
use Rattle.qkd_base.specs.Lane.{lane_eq}
use Rattle.qkd_base.specs.declared.lane.Lane.{Lane}
use Rattle.net_model.specs.declared.order.Order.{Order}
use Rattle.net_model.specs.declared.repeat.Repeat.{Repeat}
use Rattle.net_model.specs.declared.payload.Payload.{Payload}
use Rattle.net_model.specs.declared.payload.Payload.TheVariants.{Data, Ack}
use Rattle.net_model.specs.Table.{name_of}
use Rattle.net_model.specs.Item.{Item, DataItem, AckItem}
use Rattle.net_model.specs.World.{Transmission}

-- a frame that a plan wants to be put on a wire
pub data Emission : Type 0 where
  Again : (repeat : Repeat) → Emission
  New : (order : Order) → Emission

-- for each lane the repeats first, and then the new orders
unfoldable pub tick_order : List Lane → List Repeat → List Order → List Emission
tick_order lanes repeats orders =
    flat_map (λ l. map Again (filter (λ (r : Repeat). lane_eq r.lane l) repeats) ++ map New (filter (λ (o : Order). lane_eq o.lane l) orders)) lanes

abbrev pub item_in : Payload → Item
item_in (Data f) = DataItem (name_of f)
item_in (Ack n) = AckItem n

-- the transmission that an order asks for
abbrev pub ordered : Order → Transmission
ordered o = record { lane = o.lane; item = item_in o.payload; received_offset = o.ack_of }
