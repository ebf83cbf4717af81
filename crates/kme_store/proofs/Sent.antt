-- Each type in a manager can be sent to another thread, from key names up to the manager at its post.
use denote.Struct.Declared.{shape}
use denote.Param.Send.{IsSend, sendable, view_send, struct_send, recorded_send}
use Rattle.std.proofs.Crossing.{crosses, Vec-send}
use Rattle.std.specs.contracts.option.Option as option
use Rattle.std.proofs.MapsCrossing as maps
use Rattle.qkd_base.specs.contracts.key_name.KeyName as KeyName
use Rattle.qkd_base.specs.contracts.lane.Lane as Lane
use Rattle.qkd_base.specs.contracts.route.Route as Route
use Rattle.qkd_base.specs.contracts.frame_octets.FrameOctets as FrameOctets
use Rattle.qkd_base.specs.contracts.text.Text as Text
use Rattle.net_model.specs.contracts.payload.Payload as Payload
use Rattle.net_model.specs.contracts.order.Order as Order
use Rattle.net_model.specs.contracts.repeat.Repeat as Repeat
use Rattle.net_model.specs.contracts.short_of.ShortOf as ShortOf
use Rattle.net_model.specs.contracts.counts.Counts4 as Counts4
use Rattle.net_model.specs.contracts.held.Held as Held
use Rattle.net_model.specs.contracts.fact.Fact as Fact
use Rattle.net_model.specs.contracts.reply.Reply as Reply
use Rattle.ordered_set.specs.contracts.entries.Entries as Entries
use Rattle.relay_core.specs.contracts.known.Known as Known
use Rattle.end_store.specs.contracts.marks.Marks as Marks
use Rattle.end_store.specs.contracts.stocks.Stocks as Stocks
use Rattle.end_store.specs.contracts.store.EndStore as EndStore
use Rattle.stream_core.specs.contracts.tallies.Tallies as Tallies
use Rattle.stream_core.specs.contracts.streams.Streams as Streams
use Rattle.kme_facts.specs.contracts.kept.Kept as Kept
use Rattle.kme_base.specs.contracts.link_end.LinkEnd as LinkEnd
use Rattle.kme_base.specs.contracts.ports.Ports as Ports
use Rattle.resend_window.specs.contracts.catalogue.Catalogue as Catalogue
use Rattle.resend_window.specs.contracts.due_set.DueSet as DueSet
use Rattle.resend_window.specs.contracts.arrival.Arrival as Arrival
use Rattle.resend_window.specs.contracts.arrival_list.ArrivalList as ArrivalList
use Rattle.resend_window.specs.contracts.awaited.Awaited as Awaited
use Rattle.resend_window.specs.contracts.awaited_list.AwaitedList as AwaitedList
use Rattle.resend_window.specs.contracts.held.Held as Slot
use Rattle.resend_window.specs.contracts.held_list.HeldList as HeldList
use Rattle.resend_window.specs.contracts.window.Window as Window
use Rattle.sae_entitlements.specs.contracts.entitlements.Entitlements as Entitlements
use Rattle.route_table.specs.contracts.route_table.RouteTable as RouteTable
use Rattle.declared_site.specs.contracts.site.Site as Site
use Rattle.kme_relay.specs.contracts.fronts.Fronts as Fronts
use Rattle.kme_node.specs.contracts.node.Node as Node
use Rattle.resend_window.specs.contracts.arrival_list.ArrivalList.TheInside as ArrivalsInside
use Rattle.resend_window.specs.contracts.awaited_list.AwaitedList.TheInside as AwaitedInside
use Rattle.resend_window.specs.contracts.held_list.HeldList.TheInside as SlotsInside
use Rattle.kme_node.specs.contracts.node.Node.TheInside as NodeInside
use denote.RattleType.{RattleType}
use Rattle.std.specs.contracts.alloc.Global as Global
use Rattle.disk_model.specs.declared.disk.Disk as Disk
use Rattle.source_devices.specs.declared.entropy.Entropy as Entropy
use Rattle.range_journal.specs.contracts.journal.Journal as Journal
use Rattle.range_journal.specs.contracts.journal.Journal.TheInside as JournalInside
use Rattle.journal_snapshot.specs.contracts.live.Live as Live
use Rattle.journal_snapshot.specs.contracts.snapshots.Snapshots as Snapshots
use Rattle.journal_snapshot.specs.contracts.snapshots.Snapshots.TheInside as SnapshotsInside
use Rattle.kme_store.specs.contracts.manager_state.Standing as Standing
use Rattle.kme_store.specs.contracts.manager.Manager as Manager
use Rattle.kme_store.specs.contracts.manager.Manager.TheInside as ManagerInside
use Rattle.kme_store.specs.contracts.post.Post as Post

name_send : IsSend KeyName.the_row
name_send = search (sendable, crosses) depth 100 fits 100000

lane_send : IsSend Lane.the_row
lane_send = search (sendable, crosses) depth 100 fits 100000

route_send : IsSend Route.the_row
route_send = search (sendable, crosses) depth 100 fits 100000

frame_send : IsSend FrameOctets.the_row
frame_send = search (sendable, crosses) depth 100 fits 100000

text_send : IsSend Text.the_row
text_send = search (sendable, crosses) depth 100 fits 100000

payload_send : IsSend Payload.the_row
payload_send = search (name_send, route_send, sendable, crosses) depth 100 fits 100000

order_send : IsSend Order.the_row
order_send = search (name_send, lane_send, payload_send, sendable, crosses) depth 100 fits 100000

repeat_send : IsSend Repeat.the_row
repeat_send = search (name_send, lane_send, frame_send, sendable, crosses) depth 100 fits 100000

short_send : IsSend ShortOf.the_row
short_send = search (lane_send, name_send, sendable, crosses) depth 100 fits 100000

counts_send : IsSend Counts4.the_row
counts_send = search (sendable, crosses) depth 100 fits 100000

held_send : IsSend Held.the_row
held_send = search (name_send, sendable, crosses) depth 100 fits 100000

fact_send : IsSend Fact.the_row
fact_send = search (name_send, route_send, sendable, crosses) depth 100 fits 100000

pub reply_field : IsSend (Reply.the_field).row
reply_field = search (name_send, order_send, repeat_send, short_send, counts_send, held_send, sendable, crosses) depth 100 fits 100000

entries_send : IsSend Entries.the_row
entries_send = search (sendable, crosses, maps.crosses) depth 100 fits 100000

known_send : IsSend Known.the_row
known_send = search (fact_send, name_send, entries_send, sendable, crosses) depth 100 fits 100000

marks_send : IsSend Marks.the_row
marks_send = search (name_send, entries_send, sendable, crosses) depth 100 fits 100000

stocks_send : IsSend Stocks.the_row
stocks_send = search (sendable, crosses, maps.crosses) depth 100 fits 100000

store_send : IsSend EndStore.the_row
store_send = search (known_send, marks_send, entries_send, stocks_send, sendable, crosses) depth 100 fits 100000

tallies_send : IsSend Tallies.the_row
tallies_send = search (sendable, crosses, maps.crosses) depth 100 fits 100000

streams_send : IsSend Streams.the_row
streams_send = search (store_send, marks_send, tallies_send, sendable, crosses) depth 100 fits 100000

kept_send : IsSend Kept.the_row
kept_send = search (streams_send, sendable, crosses) depth 100 fits 100000

link_end_send : IsSend LinkEnd.the_row
link_end_send = search (sendable, crosses) depth 100 fits 100000

ports_send : IsSend Ports.the_row
ports_send = search (link_end_send, sendable, crosses) depth 100 fits 100000

catalogue_send : IsSend Catalogue.the_row
catalogue_send = search (entries_send, sendable, crosses) depth 100 fits 100000

dues_send : IsSend DueSet.the_row
dues_send = search (entries_send, sendable, crosses) depth 100 fits 100000

arrival_send : IsSend Arrival.the_row
arrival_send = search (name_send, lane_send, sendable, crosses) depth 100 fits 100000

awaited_send : IsSend Awaited.the_row
awaited_send = search (name_send, lane_send, sendable, crosses) depth 100 fits 100000

sent_send : IsSend Slot.the_row
sent_send = search (name_send, lane_send, frame_send, sendable, crosses) depth 100 fits 100000

entitlements_send : IsSend Entitlements.the_row
entitlements_send = search (text_send, sendable, crosses, maps.crosses) depth 100 fits 100000

routes_send : IsSend RouteTable.the_row
routes_send = search (sendable, crosses) depth 100 fits 100000

site_send : IsSend Site.the_row
site_send = search (text_send, entitlements_send, routes_send, sendable, crosses) depth 100 fits 100000

catalogue_field : IsSend (Catalogue.the_field).row
catalogue_field = search (entries_send, sendable) depth 100 fits 100000

dues_field : IsSend (DueSet.the_field).row
dues_field = search (entries_send, sendable) depth 100 fits 100000

maybe_arrival : IsSend (option.the_row Arrival.the_row)
maybe_arrival = search (arrival_send, sendable) depth 100 fits 100000

maybe_awaited : IsSend (option.the_row Awaited.the_row)
maybe_awaited = search (awaited_send, sendable) depth 100 fits 100000

maybe_slot : IsSend (option.the_row Slot.the_row)
maybe_slot = search (sent_send, sendable) depth 100 fits 100000

arrivals_inside : IsSend ArrivalsInside.the_row
arrivals_inside = recorded_send _ _ (ArrivalsInside.the_type).to (ArrivalsInside.the_type).to_one (struct_send (shape ArrivalsInside.the_type) (Vec-send _ maybe_arrival, (catalogue_field, tt)))

arrivals_send : IsSend ArrivalList.the_row
arrivals_send = view_send _ _ _ _ _ arrivals_inside

awaiting_inside : IsSend AwaitedInside.the_row
awaiting_inside = recorded_send _ _ (AwaitedInside.the_type).to (AwaitedInside.the_type).to_one (struct_send (shape AwaitedInside.the_type) (Vec-send _ maybe_awaited, (catalogue_field, tt)))

awaiting_send : IsSend AwaitedList.the_row
awaiting_send = view_send _ _ _ _ _ awaiting_inside

slots_inside : IsSend SlotsInside.the_row
slots_inside = recorded_send _ _ (SlotsInside.the_type).to (SlotsInside.the_type).to_one (struct_send (shape SlotsInside.the_type) (Vec-send _ maybe_slot, (catalogue_field, (dues_field, tt))))

slots_send : IsSend HeldList.the_row
slots_send = view_send _ _ _ _ _ slots_inside

window_send : IsSend Window.the_row
window_send = search (slots_send, arrivals_send, awaiting_send, sendable) depth 100 fits 100000

fronts_send : IsSend Fronts.the_row
fronts_send = search (sendable, crosses) depth 100 fits 100000

site_field : IsSend (Site.the_field).row
site_field = search (text_send, entitlements_send, routes_send, sendable, crosses) depth 100 fits 100000

node_inside : IsSend NodeInside.the_row
node_inside = recorded_send _ _ (NodeInside.the_type).to (NodeInside.the_type).to_one (struct_send (shape NodeInside.the_type) (site_field, (kept_send, (ports_send, (window_send, (fronts_send, tt))))))

node_send : IsSend Node.the_row
node_send = view_send _ _ _ _ _ node_inside

global_field : IsSend (Global.the_field).row
global_field = search (sendable, crosses) depth 100 fits 100000

module _ (K : RattleType) (disk : Disk.Ghosts K.Denot) (disk_send : IsSend K) where
  journal_inside : IsSend (JournalInside.the_row K disk)
  journal_inside = recorded_send _ _ (JournalInside.the_type K disk).to (JournalInside.the_type K disk).to_one (struct_send (shape (JournalInside.the_type K disk))
      (global_field, (disk_send, (search sendable, (search sendable, (search (sendable, crosses) depth 100 fits 100000, (search (sendable, crosses) depth 100 fits 100000, (search (sendable, crosses) depth 100 fits 100000, (search sendable, tt)))))))))

  journal_send : IsSend (Journal.the_row K disk)
  journal_send = view_send _ _ _ _ _ journal_inside

  live_field : IsSend (Live.the_field).row
  live_field = search sendable depth 100 fits 100000

  snapshots_inside : IsSend (SnapshotsInside.the_row K disk)
  snapshots_inside = search (journal_send, live_field, sendable, crosses) depth 100 fits 100000

  snapshots_send : IsSend (Snapshots.the_row K disk)
  snapshots_send = view_send _ _ _ _ _ snapshots_inside

  standing_field : IsSend (Standing.the_field K disk).row
  standing_field = search (snapshots_send, disk_send, sendable) depth 100 fits 100000

  module _ (E : RattleType) (entropy : Entropy.Ghosts E.Denot) (entropy_send : IsSend E) where
    manager_inside : IsSend (ManagerInside.the_row K E disk entropy)
    manager_inside = recorded_send _ _ (ManagerInside.the_type K E disk entropy).to (ManagerInside.the_type K E disk entropy).to_one (struct_send (shape (ManagerInside.the_type K E disk entropy))
        (global_field, (node_send, (standing_field, (entropy_send, tt)))))

    manager_send : IsSend (Manager.the_row K E disk entropy)
    manager_send = view_send _ _ _ _ _ manager_inside

    pub post_field : IsSend (Post.the_field K E disk entropy).row
    post_field = search (manager_send, disk_send, entropy_send, sendable) depth 100 fits 100000
