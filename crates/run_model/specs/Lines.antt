-- The script of each line, and of the start of each node at the beginning of a run.
use Rattle.std.specs.Prelude.{ℕ, zero, suc, ◌+◌, ◌-◌, nat_lt, Bool, true, false, List, [], ◌∷◌, length, sum_by, if◌then◌else◌}
use Rattle.std.specs.List.{flat_map}
use Rattle.qkd_base.specs.declared.lane.Lane.{Lane}
use Rattle.qkd_base.specs.declared.lane.Way.TheVariants.{Up, Down}
use Rattle.net_model.specs.declared.event.Event.TheVariants as events
use Rattle.net_model.specs.declared.reply.Reply.TheVariants as replies
use Rattle.net_model.specs.Facts.{payload_len}
use Rattle.net_model.specs.Site.{Site, lane_of, sender, count_up, outgoing_lanes}
use Rattle.net_model.specs.World.{World}
use Rattle.net_model.specs.Handle.{frame_at}
use Rattle.net_model.specs.Tick.{Emission, Again, New, tick_order, ordered}
use Rattle.net_model.specs.Action.{Outcome, Ok, Recovers, Start, TakeBlock, Ask, Allocate, Transmit, Complete, Deliver, Replies, Allocated, StartStopped, StartMemory, ForeignAt}
use Rattle.run_types.specs.declared.end.End.{End}
use Rattle.run_types.specs.declared.end.End.TheVariants.{Low, High}
use Rattle.run_types.specs.declared.end.Ends.{Ends}
use Rattle.run_types.specs.declared.end.Ends.TheVariants as ends
use Rattle.run_types.specs.declared.command.Command.{Command}
use Rattle.run_types.specs.declared.command.Command.TheVariants as commands
use Rattle.run_types.specs.declared.item.Item.TheVariants as items
use Rattle.run_model.specs.Script.{Script, Ends as Ended, Reports, Looks, Asks, GivesUp, then_comes, reports, asks}
use Rattle.run_model.specs.Outcomes.{block_items, plan_items, put_items, frame_items, ledger_items, start_items}
use Rattle.run_model.specs.Turn.{HttpTexts, Turn, Unasked, Asked, turn_of}

-- ---- Blocks of link bytes, for the low end first. An end that takes no block is left out for the rest of the line.

abbrev pub node_at : Site → ℕ → End → ℕ
node_at site link Low = site.low link
node_at site link High = site.high link

abbrev pub is_taken : Outcome → Bool
is_taken (Replies (replies.Took number)) = true
is_taken _ = false

-- one block at one end, unless the end is left out; `next` is told whether the end goes on
abbrev pub block_at_end : Site → ℕ → End → (goes_on : Bool) → (Bool → Script) → Script
block_at_end site link end false next = next false
block_at_end site link end true next = Asks (TakeBlock (node_at site link end) link Ok) (λ out. Reports (block_items link end out) (next (is_taken out)))

unfoldable pub blocks : Site → ℕ → (low high : Bool) → (count : ℕ) → Script
blocks site link low high zero = Ended
blocks site link low high (suc n) = block_at_end site link Low low (λ l. block_at_end site link High high (λ h. blocks site link l h n))

abbrev pub has_low : Ends → Bool
has_low ends.High = false
has_low _ = true

abbrev pub has_high : Ends → Bool
has_high ends.Low = false
has_high _ = true

-- ---- a tick: a plan, its frames lane by lane, and then their note

abbrev pub offset_in : Outcome → ℕ
offset_in (Allocated offset) = offset
offset_in _ = 0

-- A repeat is put again. A new frame is claimed and then put, so it is the one that was claimed last. A frame has 24
-- octets more than its payload.
unfoldable pub emitted : ℕ → List Emission → Script
emitted v [] = Asks (Complete v) (λ out. Ended)
emitted v (Again r ∷ rest) =
    Looks (λ w. Asks (Transmit r.lane (frame_at (w.frames r.lane) r.offset) Ok) (λ out. Reports (put_items r.lane r.offset (r.length - 24) out) (emitted v rest)))
emitted v (New o ∷ rest) =
    Asks (Allocate (ordered o)) (λ claimed.
    Looks (λ w. Asks (Transmit o.lane (length (w.frames o.lane) - 1) Ok) (λ out. Reports (put_items o.lane (offset_in claimed) (payload_len o.payload) out) (emitted v rest))))

-- if a plan is refused, nothing is ordered and nothing is noted
abbrev pub after_plan : Site → ℕ → Outcome → Script
after_plan site v (Replies (replies.Planned orders repeats shorts)) = emitted v (tick_order (outgoing_lanes site v) repeats orders)
after_plan site v _ = Ended

unfoldable pub ticked : Site → (quiet : Bool) → ℕ → Script
ticked site quiet v = Asks (Ask v events.Plan Ok) (λ out. Reports (plan_items quiet v out) (after_plan site v out))

-- ---- a settle: rounds of ticks and passes

-- all lanes in order of link, up before down
abbrev pub all_lanes : Site → List Lane
all_lanes site = flat_map (λ link. lane_of link Up ∷ lane_of link Down ∷ []) (count_up site.links)

-- each of these nodes that is up ticks; the tick of an idle node isn't reported
abbrev pub ticks : Site → List ℕ → Script
ticks site [] = Ended
ticks site (v ∷ vs) = Looks (λ w. then_comes (if w.up v then ticked site true v else Ended) (ticks site vs))

-- passes `count` frames of a wire, from a number on
abbrev pub passes : Lane → (number count : ℕ) → Script
passes l number zero = Ended
passes l number (suc more) = Asks (Deliver l number Ok) (λ out. Reports (frame_items (items.Passed l number) out) (passes l (number + 1) more))

-- The passes of a round: all frames that were put on wires in the round. Earlier rounds of the settle passed what they
-- put.
abbrev pub all_passes : (before now : World) → List Lane → Script
all_passes before now [] = Ended
all_passes before now (l ∷ ls) = then_comes (passes l (length (before.wire l)) (length (now.wire l) - length (before.wire l))) (all_passes before now ls)

abbrev pub on_wires : Site → World → ℕ
on_wires site w = sum_by (λ l. length (w.wire l)) (all_lanes site)

-- at most this many rounds; a round in which nothing was put is the last one
unfoldable pub settle : Site → (rounds : ℕ) → Script
settle site zero = Ended
settle site (suc rounds) =
    Looks (λ before. then_comes (ticks site (count_up site.nodes)) (
    Looks (λ now. then_comes (all_passes before now (all_lanes site)) (if nat_lt (on_wires site before) (on_wires site now) then settle site rounds else Ended))))

-- ---- all lines

abbrev pub script_of_turn : Turn → Script
script_of_turn (Unasked reported) = reports reported
script_of_turn (Asked action reported) = asks action reported

abbrev pub script_of : HttpTexts → Site → Command → Script
script_of http site (commands.Bits link at count) = blocks site link (has_low at) (has_high at) count
script_of http site (commands.Tick v) = ticked site false v
script_of http site (commands.Settle rounds) = settle site rounds
script_of http site (commands.Ledger l) = Asks (Ask (sender site l) (events.Ledger l) Ok) (λ out. Looks (λ w. reports (ledger_items l w out)))
script_of http site line = script_of_turn (turn_of http site line)

-- ---- The start of a node at the beginning of a run. If it succeeds, nothing is reported. If memory runs out, the run
-- ends.

abbrev pub begun : Outcome → Script
begun StartStopped = reports (start_items StartStopped)
begun (ForeignAt place) = reports (start_items (ForeignAt place))
begun StartMemory = GivesUp
begun _ = Ended

abbrev pub begins : ℕ → Script
begins v = Asks (Start v (Recovers false)) begun
