-- One manager followed through a run: each next view is computed from its own view and decisions.
use Rattle.std.specs.Prelude.{ℕ, ◌==◌, Bool, true, false, List, [], ◌∷◌, slice_get, Option, Some, None, if◌then◌else◌}
use Rattle.qkd_base.specs.declared.lane.Lane.{Lane}
use Rattle.net_model.specs.declared.event.Event.{Event}
use Rattle.net_model.specs.declared.event.Event.TheVariants.{Block, Note}
use Rattle.net_model.specs.declared.reply.Reply.TheVariants.{Stopped, Memory, NoRandom, JournalFull, Down, NoBits, LinkFull}
use Rattle.net_model.specs.Item.{payload}
use Rattle.net_model.specs.Site.{receiver}
use Rattle.net_model.specs.OctetSequence.{octets_from, block_at}
use Rattle.net_model.specs.World.{Network, World, Allocation, first, no_volatile}
use Rattle.net_model.specs.View.{View}
use Rattle.net_model.specs.Needed.{view_of}
use Rattle.net_model.specs.Decision.{Decision, Refuses, Does, Effect}
use Rattle.net_model.specs.Decide.{decide, random_need}
use Rattle.net_model.specs.Relay.{receive}
use Rattle.net_model.specs.Fold.{view_after, view_batch, view_restarted, empty_view}
use Rattle.net_model.specs.Handle.{blocks_at}
use Rattle.net_model.specs.Action.{Action, Start, Crash, TakeBlock, Ask, Complete, Deliver, Recovers, Resumes, Outcome, Replies, Started, Crashed}
use Rattle.net_model.specs.Step.{step, run}

-- whether an effect took place, by the outcome
abbrev pub is_done : Outcome → Bool
is_done (Replies Stopped) = false
is_done (Replies Memory) = false
is_done (Replies NoRandom) = false
is_done (Replies (JournalFull length' need)) = false
is_done (Replies Down) = false
is_done (Replies LinkFull) = false
is_done (Replies (NoBits have)) = false
is_done (Replies reply) = true
is_done _ = false

abbrev pub is_stopped : Outcome → Bool
is_stopped (Replies Stopped) = true
is_stopped _ = false

abbrev pub after_effect : View → Effect → Outcome → View
after_effect view effect outcome =
    if is_done outcome then view_after view effect else if is_stopped outcome then record view { volatile = no_volatile } else view

abbrev pub after_decision : View → Outcome → Decision → View
after_decision view outcome (Refuses reply) = view
after_decision view outcome (Does effect) = after_effect view effect outcome

abbrev pub asked : Network → World → View → Event → Outcome → View
asked net w view event outcome =
    after_decision view outcome (decide net.site net.sealing w.link_up view (octets_from (net.entropy view.me).octet (w.drawn view.me) (random_need view event)) event)

abbrev pub frame_of : World → Lane → Option ℕ → Option Allocation
frame_of w l None = None
frame_of w l (Some j) = slice_get (w.frames l) j

abbrev pub passed_frame : Network → World → View → Lane → Outcome → Option Allocation → View
passed_frame net w view l outcome None = view
passed_frame net w view l outcome (Some a) = elim (payload w.durable.facts a.item) as (λ p. View) [ None ↦ view | Some p ↦ after_effect view (receive net.site view l a.offset p) outcome ]

unfoldable pub follow : Network → World → View → Action → Outcome → View
follow net w view (Start v (Recovers committed)) Started =
    if v == view.me then view_restarted (if committed then view_batch view (w.in_doubt v).batch else view) else view
follow net w view (Start v (Resumes committed)) Started =
    if v == view.me then view_restarted (if committed then view_batch view (w.in_doubt v).batch else view) else view
follow net w view (Crash v) Crashed = if v == view.me then record view { volatile = no_volatile } else view
follow net w view (TakeBlock v link environment) outcome =
    if v == view.me then asked net w view (Block link (blocks_at net w v link) (block_at (net.device link) (blocks_at net w v link))) outcome else view
follow net w view (Ask v event environment) outcome = if v == view.me then asked net w view event outcome else view
follow net w view (Complete v) outcome = if v == view.me then asked net w view (Note (w.placings v)) outcome else view
follow net w view (Deliver l number environment) outcome =
    if receiver net.site l == view.me then passed_frame net w view l outcome (frame_of w l (slice_get (w.wire l) number)) else view
follow net w view _ outcome = view

abbrev pub follows : Network → World → View → List Action → View
follows net w view [] = view
follows net w view (a ∷ rest) = let out = step net w a in follows net out.0 (follow net w view a out.1) rest

-- a manager's view followed from its first start through a run, and its view in the world at the end
unfoldable pub followed : Network → ℕ → List Action → View × View
followed net v actions = (follows net first (empty_view net.site v) actions, view_of net (run net first actions) v)
