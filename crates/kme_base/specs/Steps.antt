-- What it means that a step is the manager's decision.
use Rattle.std.specs.Prelude.{◌≡◌, ◌==◌, ◌&&◌, false, List, [], ◌++◌, map, Result, Ok, Err, if◌then◌else◌}
use Rattle.std.specs.List.{list_any}
use Rattle.qkd_base.specs.Name.{Name}
use Rattle.qkd_base.specs.Lane.{lane_eq}
use Rattle.net_model.specs.declared.event.Event.{Event}
use Rattle.net_model.specs.declared.event.Event.TheVariants.{Note}
use Rattle.net_model.specs.declared.order.Order.{Order}
use Rattle.net_model.specs.declared.payload.Payload.{Payload}
use Rattle.net_model.specs.declared.payload.Payload.TheVariants.{Data, Ack}
use Rattle.net_model.specs.declared.placing.Placing.{Placing}
use Rattle.net_model.specs.declared.repeat.Repeat.{Repeat}
use Rattle.net_model.specs.declared.reply.Reply.{Reply}
use Rattle.net_model.specs.declared.reply.Reply.TheVariants.{Planned as PlannedReply, Memory}
use Rattle.net_model.specs.Table.{name_of}
use Rattle.net_model.specs.Item.{Item, DataItem, AckItem}
use Rattle.net_model.specs.World.{Entry, Transmission, Volatile}
use Rattle.net_model.specs.View.{View}
use Rattle.net_model.specs.Window.{acknowledge, cleared, age, complete}
use Rattle.net_model.specs.Decision.{Decision, Effect, Refuses, Does}
use Rattle.kme_base.specs.declared.change.Change.{Change}
use Rattle.kme_base.specs.declared.change.Change.TheVariants.{Same, Received, Acknowledged, Planned, Noted}
use Rattle.kme_base.specs.declared.step.Step.{Step}

-- the transmission that an order asks for

abbrev pub item_of_payload : Payload → Item
item_of_payload (Data f) = DataItem (name_of f)
item_of_payload (Ack n) = AckItem n

abbrev pub transmission_of_order : Order → Transmission
transmission_of_order o = record { lane = o.lane; item = item_of_payload o.payload; received_offset = o.ack_of }

abbrev pub orders_of : Reply → List Transmission
orders_of (PlannedReply orders repeats shorts) = map transmission_of_order orders
orders_of _ = []

abbrev pub placings_of : Event → List Placing
placings_of (Note placings) = placings
placings_of _ = []

-- An entry that is repeated begins anew: its age is 0.
abbrev pub repeated_by : List Repeat → Entry → Entry
repeated_by repeats e =
    if list_any (λ (x : Repeat). lane_eq x.lane e.transmission.lane && (x.offset == e.offset)) repeats then record e { age = 0; due = false } else e

-- After a plan all entries are a tick older, the repeated ones begin anew, and the orders await their placings.
abbrev pub planned : List Order → List Repeat → Volatile → Volatile
planned orders repeats vol =
    record vol { window = map (repeated_by repeats) (map age vol.window); awaiting = vol.awaiting ++ map transmission_of_order orders }

abbrev pub planned_by : Reply → Volatile → Volatile
planned_by (PlannedReply orders repeats shorts) vol = planned orders repeats vol
planned_by _ vol = vol

-- the volatile state after a change, given the names acknowledged before, the event's placings and the reply
abbrev pub changed : List Name → List Placing → Reply → Change → Volatile → Volatile
changed acked placings reply Same vol = vol
changed acked placings reply (Received lane offset name) vol = acknowledge vol lane offset name
changed acked placings reply (Acknowledged lane name) vol = record vol { window = cleared lane name vol.window }
changed acked placings reply Planned vol = planned_by reply vol
changed acked placings reply Noted vol = complete acked vol placings

-- The step has the whole effect that its manager keeps. (The repeats of an effect stand in its reply.)
pub record IsEffect (v : View) (placings : List Placing) (e : Effect) (s : Step) : Type 0 where
  pub batch : s.batch ≡ e.batch
  pub reply : s.reply ≡ e.reply
  pub orders : orders_of s.reply ≡ e.orders
  pub volatile : changed v.acked placings s.reply s.change v.volatile ≡ e.volatile

-- The step is the decision. Out of memory may be the answer in place of an effect, never in place of a refusal.
abbrev pub IsStep : View → List Placing → Decision → Result Step Reply → Type 0
IsStep v placings (Refuses r) (Ok s) = ⊥
IsStep v placings (Refuses r) (Err q) = q ≡ r
IsStep v placings (Does e) (Ok s) = IsEffect v placings e s
IsStep v placings (Does e) (Err q) = q ≡ Memory
