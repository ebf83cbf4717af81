-- Turns: lines that ask for one action.
use Rattle.std.specs.Prelude.{ℕ, nat_le, true, false, List, [], ◌∷◌, if◌then◌else◌}
use Rattle.net_model.specs.declared.event.Event.{Event}
use Rattle.net_model.specs.declared.event.Event.TheVariants as events
use Rattle.net_model.specs.declared.reply.Reply.{Reply}
use Rattle.net_model.specs.Site.{Site}
use Rattle.net_model.specs.Action.{Action, Outcome, Ok, Recovers, Image}
use Rattle.net_model.specs.Action as actions
use Rattle.run_types.specs.declared.image.Image.{Image as CutImage}
use Rattle.run_types.specs.declared.image.Image.TheVariants as images
use Rattle.run_types.specs.declared.stream_call.StreamCall.{StreamCall}
use Rattle.run_types.specs.declared.stream_call.StreamCall.TheVariants as calls
use Rattle.run_types.specs.declared.command.Command.{Command}
use Rattle.run_types.specs.declared.command.Command.TheVariants as commands
use Rattle.run_types.specs.declared.item.Item.{Item}
use Rattle.run_types.specs.declared.item.Item.TheVariants as items
use Rattle.run_model.specs.Outcomes.{made_items, handed_items, status_items, stream_items, http_items, show_items, frame_items, crash_items, start_items, arm_items, link_items, plan_items}

-- The meaning of the octets of an HTTP request at a node: they are answered at once by a status and a body, or they ask
-- for an event of the manager. A reply to this event is again answered by a status and a body. The texts of GS QKD 014
-- are not defined here; they are a parameter.
pub data Request : Type 0 where
  AnswersAtOnce : (status : ℕ) (body : List ℕ) → Request
  Calls : (event : Event) → Request

pub record HttpTexts : Type 0 where
  pub request : ℕ → List ℕ → Request
  pub response : Event → Reply → ℕ × List ℕ

-- a line that asks nobody, or one that asks for an action and reports its outcome
pub data Turn : Type 0 where
  Unasked : (items : List Item) → Turn
  Asked : (action : Action) (items : Outcome → List Item) → Turn

-- a line that asks the manager of a node to handle an event
abbrev pub at_node : ℕ → Event → (Outcome → List Item) → Turn
at_node v event reported = Asked (actions.Ask v event Ok) reported

-- the slaves of a group in order of number
abbrev pub placed_in : ℕ → List ℕ → List ℕ
placed_in s [] = s ∷ []
placed_in s (t ∷ ts) = if nat_le s t then s ∷ t ∷ ts else t ∷ placed_in s ts

abbrev pub in_order : List ℕ → List ℕ
in_order [] = []
in_order (s ∷ ss) = placed_in s (in_order ss)

abbrev pub event_of : StreamCall → Event
event_of (calls.Open source peer bits) = events.Open source peer bits
event_of (calls.Join caller source stream bits) = events.Join caller source stream bits
event_of (calls.Get caller stream index) = events.Get caller stream index
event_of (calls.Close caller stream) = events.Close caller stream

abbrev pub image_of : CutImage → Image
image_of images.Lost = actions.Lost
image_of images.Kept = actions.Kept
image_of images.Torn = actions.Torn

abbrev pub http_turn : ℕ → (Event → Reply → ℕ × List ℕ) → Request → Turn
http_turn v response (AnswersAtOnce status body) = Unasked (items.Http v status body ∷ [])
http_turn v response (Calls event) = at_node v event (http_items v (response event))

-- Keys are made at their master's home, and chunks at the first node of their stream. Lines for link bytes, settles and
-- ledgers take more than one action, or none, so they have no turn.
unfoldable pub turn_of : HttpTexts → Site → Command → Turn
turn_of http site (commands.Fill master slave bits count) = at_node (site.home master) (events.Fill master slave bits count) made_items
turn_of http site (commands.Feed stream count) = at_node stream.node (events.Feed stream count) made_items
turn_of http site (commands.Tick v) = at_node v events.Plan (plan_items false v)
turn_of http site (commands.Pass lane number) = Asked (actions.Deliver lane number Ok) (frame_items (items.Passed lane number))
turn_of http site (commands.Flip lane number bit) = Asked (actions.Flip lane number bit Ok) (frame_items (items.Flipped lane number bit))
turn_of http site (commands.Forge lane octets) = Asked (actions.Forge lane octets Ok) (frame_items (items.Forged lane))
turn_of http site (commands.Crash v) = Asked (actions.Crash v) crash_items
turn_of http site (commands.Start v) = Asked (actions.Start v (Recovers false)) start_items
turn_of http site (commands.Cut v call image) = Asked (actions.Arm v (actions.Cut call (image_of image))) arm_items
turn_of http site (commands.Fail v call) = Asked (actions.Arm v (actions.Fail call)) arm_items
turn_of http site (commands.LinkUp link) = Asked (actions.SetLink link true) (link_items link true)
turn_of http site (commands.LinkDown link) = Asked (actions.SetLink link false) (link_items link false)
turn_of http site (commands.Enc v master slave count bits) = at_node v (events.Enc master slave count bits) handed_items
turn_of http site (commands.Dec v slave master names) = at_node v (events.Dec slave master names) handed_items
turn_of http site (commands.Status v master slave) = at_node v (events.Status master slave) status_items
turn_of http site (commands.Http v octets) = http_turn v http.response (http.request v octets)
turn_of http site (commands.Stream v call) = at_node v (event_of call) (stream_items call)
turn_of http site (commands.Show v name) = at_node v (events.Show name) (show_items v name)
turn_of http site (commands.FillGroup master bits count slaves) = at_node (site.home master) (events.FillGroup master (in_order slaves) bits count) made_items
turn_of http site (commands.EncGroup v master count bits slaves) = at_node v (events.EncGroup master (in_order slaves) count bits) handed_items
turn_of http site (commands.Bits link ends count) = Unasked []
turn_of http site (commands.Settle rounds) = Unasked []
turn_of http site (commands.Ledger lane) = Unasked []
