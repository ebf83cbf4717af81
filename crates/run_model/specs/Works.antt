-- The works of a block: what the workers do for its lines.
use Rattle.std.specs.Prelude.{◌≡◌, ℕ, ◌+◌, ◌%◌, ◌==◌, ◌&&◌, not, nat_lt, Bool, true, false, List, [], ◌∷◌, ◌++◌, length, map, slice_get, count_by, Option, Some, None, if◌then◌else◌}
use Rattle.std.specs.List.{list_all, list_any, flat_map}
use Rattle.qkd_base.specs.Lane.{lane_eq}
use Rattle.qkd_base.specs.declared.lane.Lane.{Lane}
use Rattle.net_model.specs.declared.reply.Reply.TheVariants as replies
use Rattle.net_model.specs.Site.{Site, count_up}
use Rattle.net_model.specs.World.{Network, World, Outgoing}
use Rattle.net_model.specs.Window.{transmission_eq}
use Rattle.net_model.specs.Frames.{offset_or_zero, outgoing_of}
use Rattle.net_model.specs.Tick.{Emission, Again, New, ordered}
use Rattle.net_model.specs.Action.{Action, Transmit, Outcome, Replies}
use Rattle.net_model.specs.Step.{step, run}
use Rattle.net_model.specs.BlockOrder.{IsMerge, Parts, IsBlock, is_turn_of, block_actions}
use Rattle.run_types.specs.declared.command.Command.{Command}
use Rattle.run_types.specs.declared.command.Command.TheVariants as commands
use Rattle.run_types.specs.declared.line.Line.{Line}
use Rattle.run_types.specs.declared.frame_result.FrameResult.TheVariants.{Refused}
use Rattle.run_types.specs.declared.refusal.Refusal.TheVariants.{NoFrame}
use Rattle.run_types.specs.declared.item.Item.TheVariants as items
use Rattle.run_model.specs.Turn.{HttpTexts, Turn, Unasked, Asked, turn_of}
use Rattle.run_model.specs.Play.{plain}

-- the lines that may be in a block
abbrev pub may_stand_in_block : Command → Bool
may_stand_in_block (commands.Fill master slave bits count) = true
may_stand_in_block (commands.Feed stream count) = true
may_stand_in_block (commands.Tick v) = true
may_stand_in_block (commands.Pass lane number) = true
may_stand_in_block (commands.Enc v master slave count bits) = true
may_stand_in_block (commands.Dec v slave master names) = true
may_stand_in_block (commands.Status v master slave) = true
may_stand_in_block (commands.Http v octets) = true
may_stand_in_block (commands.Stream v call) = true
may_stand_in_block (commands.FillGroup master bits count slaves) = true
may_stand_in_block (commands.EncGroup v master count bits slaves) = true
may_stand_in_block _ = false

-- an action, and the place of its line among the lines of the block, counted from 0
pub record Work : Type 0 where
  pub place : ℕ
  pub action : Action

-- What was done in a block: the history of each manager, in order of node; the claims; and the puts, each for a tick of
-- a line. If the run itself ran out of memory in the block, `left_out` has the places of the lines for which nobody was
-- asked. All other lines are done, and then the run ends.
pub record Works : Type 0 where
  pub histories : List (List Work)
  pub claims : List Action
  pub puts : List Work
  pub left_out : Option (List ℕ)

abbrev pub actions_in : List Work → List Action
actions_in works = map (λ (x : Work). x.action) works

abbrev pub parts : Works → Parts
parts b = record { histories = map actions_in b.histories; claims = b.claims; puts = actions_in b.puts }

-- the concatenation of lists
abbrev pub flat : {A : Type 0} → List (List A) → List A
flat xss = flat_map (λ xs. xs) xss

unfoldable pub block_run : Network → Works → List Action
block_run net b = block_actions net (parts b)

-- ---- what the lines ask for, in the world at the block's start

-- a frame that isn't on the wire at the block's start is reported as missing, and nobody is asked
abbrev pub block_turn : HttpTexts → Site → World → Command → Turn
block_turn http site w (commands.Pass lane number) =
    if nat_lt number (length (w.wire lane)) then turn_of http site (commands.Pass lane number)
    else Unasked (items.Passed lane number (Refused (NoFrame (length (w.wire lane)))) ∷ [])
block_turn http site w command = turn_of http site command

abbrev pub turn_at : HttpTexts → Site → World → Option Line → Turn
turn_at http site w None = Unasked []
turn_at http site w (Some line) = block_turn http site w line.command

abbrev pub is_left_out : ℕ → Option (List ℕ) → Bool
is_left_out place None = false
is_left_out place (Some places) = list_any (λ p. p == place) places

abbrev pub asked_of : Site → ℕ → (place : ℕ) → Turn → List Work
asked_of site v place (Unasked reported) = []
asked_of site v place (Asked action reported) = if is_turn_of site v action then record { place = place; action = action } ∷ [] else []

-- What worker k asks of the manager of node v, from a place on. The worker does, in order, the lines whose place leaves
-- the remainder k when it is divided by the number of workers.
unfoldable pub asked_by : HttpTexts → Site → World → Option (List ℕ) → (workers k v place : ℕ) → List Line → List Work
asked_by http site w left_out workers k v place [] = []
asked_by http site w left_out workers k v place (line ∷ rest) =
    (if (place % workers == k) && not (is_left_out place left_out) then asked_of site v place (block_turn http site w line.command) else []) ++
    asked_by http site w left_out workers k v (place + 1) rest

abbrev pub plain_work : Work → Work
plain_work x = record x { action = plain x.action }

-- ---- the outcomes of works that are done in order

pub record Done : Type 0 where
  pub work : Work
  pub before : World
  pub outcome : Outcome

unfoldable pub done_from : Network → World → List Work → List Done
done_from net w [] = []
done_from net w (x ∷ rest) = let out = step net w x.action in record { work = x; before = w; outcome = out.1 } ∷ done_from net out.0 rest

-- The turns of the managers. Each history is a run of its own from the block's start, since no manager changes what
-- another one sees.
abbrev pub turns_done : Network → World → Works → List (List Done)
turns_done net w b = map (done_from net w) b.histories

-- the world after the histories and the claims
abbrev pub claimed : Network → World → Works → World
claimed net w b = let p = parts b in run net w (flat p.histories ++ p.claims)

-- ---- the works that are possible for a block

-- the frame that is put is one that a plan ordered to be sent, for the first time or again
abbrev pub is_frame_of : World → Emission → Lane → ℕ → Option Outgoing → Bool
is_frame_of w e l j None = false
is_frame_of w (Again r) l j (Some o) = not o.fresh && lane_eq r.lane l && (offset_or_zero (slice_get (w.frames l) j) == r.offset)
is_frame_of w (New order) l j (Some o) = o.fresh && transmission_eq (ordered order) o.transmission

abbrev pub is_put_by : World → Emission → Action → Bool
is_put_by w e (Transmit l j environment) = is_frame_of w e l j (outgoing_of j (w.outgoing l))
is_put_by w e _ = false

abbrev pub is_put_of : World → (place : ℕ) → Emission → Work → Bool
is_put_of w place e x = (x.place == place) && is_put_by w e x.action

abbrev pub wanted_put : Outcome → List Emission
wanted_put (Replies (replies.Planned orders repeats shorts)) = map Again repeats ++ map New orders
wanted_put _ = []

-- each frame that the tick of a line wants to be put is put exactly once for this line
abbrev pub are_put : World → List Done → List Work → Bool
are_put w done puts = list_all (λ (d : Done). list_all (λ e. count_by (is_put_of w d.work.place e) puts == 1) (wanted_put d.outcome)) done

-- The works are possible for these lines and this number of workers. The lines may be in a block, and the works are a
-- block of the network. Each manager's history is a merge of what the workers ask of this manager, except for the
-- outside's answers. Each put is for its line.
pub record IsBlockOf (http : HttpTexts) (net : Network) (workers : ℕ) (w : World) (lines : List Line) (b : Works) : Type 0 where
  pub may_stand : list_all (λ (line : Line). may_stand_in_block line.command) lines ≡ true
  pub block : IsBlock net w (parts b)
  pub merged : (v : ℕ) (h : List Work) → slice_get b.histories v ≡ Some h →
      IsMerge (map (λ k. asked_by http net.site w b.left_out workers k v 0 lines) (count_up workers)) (map plain_work h)
  pub put : are_put (claimed net w b) (flat (turns_done net w b)) b.puts ≡ true
