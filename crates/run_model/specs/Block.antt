-- The report of a block: first the lines for which no manager was asked, then the managers' turns, and last the frames.
use Rattle.std.specs.Prelude.{ℕ, ◌-◌, ◌==◌, ◌&&◌, ◌||◌, not, nat_lt, nat_le, Bool, true, false, List, [], ◌∷◌, ◌++◌, filter, slice_get, Option, Some, None, if◌then◌else◌}
use Rattle.std.specs.List.{flat_map}
use Rattle.qkd_base.specs.Lane.{lane_eq}
use Rattle.qkd_base.specs.declared.lane.Lane.{Lane}
use Rattle.net_model.specs.Item.{need}
use Rattle.net_model.specs.Site.{Site}
use Rattle.net_model.specs.World.{Network, World, Allocation}
use Rattle.net_model.specs.Frames.{offset_or_zero}
use Rattle.net_model.specs.Action.{Action, Transmit, Outcome, Put}
use Rattle.net_model.specs.Step.{run}
use Rattle.run_types.specs.declared.line.Line.{Line}
use Rattle.run_types.specs.declared.item.Item.{Item}
use Rattle.run_types.specs.declared.item.NumberedItem.{NumberedItem}
use Rattle.run_model.specs.Outcomes.{put_items}
use Rattle.run_model.specs.Turn.{HttpTexts, Turn, Unasked, Asked}
use Rattle.run_model.specs.Lines.{all_lanes}
use Rattle.run_model.specs.Play.{numbered, Played, Whole, NoMemory, stopped_at}
use Rattle.run_model.specs.Works.{Works, Done, flat, turn_at, block_run, done_from, turns_done, claimed}

abbrev pub number_of : Option Line → ℕ
number_of None = 0
number_of (Some line) = line.number

abbrev pub number_at : List Line → (place : ℕ) → ℕ
number_at lines place = number_of (slice_get lines place)

-- ---- lines for which no manager is asked, in order

abbrev pub unasked_items : Turn → List Item
unasked_items (Unasked reported) = reported
unasked_items (Asked action reported) = []

abbrev pub all_unasked : HttpTexts → Site → World → List Line → List NumberedItem
all_unasked http site w lines = flat_map (λ (line : Line). numbered line.number (unasked_items (turn_at http site w (Some line)))) lines

-- ---- the managers' turns, in order of node and of history

abbrev pub outcome_items : Turn → Outcome → List Item
outcome_items (Unasked reported) out = reported
outcome_items (Asked action reported) out = reported out

abbrev pub turn_items : HttpTexts → Site → World → List Line → List Done → List NumberedItem
turn_items http site w lines done =
    flat_map (λ (d : Done). numbered (number_at lines d.work.place) (outcome_items (turn_at http site w (slice_get lines d.work.place)) d.outcome)) done

-- ---- The frames, lane by lane. Those on the wire come first, in order of number. Then come those that the wire
-- refused, in order of offset, and at the same offset in order of line.

-- a put as it is reported: its lane, its frame's offset, the place of its line, whether the wire took it, and its items
pub record PutDone : Type 0 where
  pub lane : Lane
  pub offset : ℕ
  pub place : ℕ
  pub took : Bool
  pub reported : List Item

-- how many octets the payload of a frame has
abbrev pub payload_size : World → Option Allocation → ℕ
payload_size w None = 0
payload_size w (Some a) = need w.durable.facts a.item - 8

abbrev pub is_put : Outcome → Bool
is_put (Put number) = true
is_put _ = false

abbrev pub put_of : World → (place : ℕ) → Action → Outcome → List PutDone
put_of w place (Transmit l j environment) out =
    let a = slice_get (w.frames l) j in
    record { lane = l; offset = offset_or_zero a; place = place; took = is_put out; reported = put_items l (offset_or_zero a) (payload_size w a) out } ∷ []
put_of w place _ out = []

abbrev pub puts_of : List Done → List PutDone
puts_of done = flat_map (λ (d : Done). put_of d.before d.work.place d.work.action d.outcome) done

abbrev pub is_before : PutDone → PutDone → Bool
is_before a b = nat_lt a.offset b.offset || ((a.offset == b.offset) && nat_le a.place b.place)

abbrev pub put_in : PutDone → List PutDone → List PutDone
put_in p [] = p ∷ []
put_in p (q ∷ qs) = if is_before p q then p ∷ q ∷ qs else q ∷ put_in p qs

abbrev pub sorted : List PutDone → List PutDone
sorted [] = []
sorted (p ∷ ps) = put_in p (sorted ps)

abbrev pub puts_on : List PutDone → Lane → List PutDone
puts_on puts l = filter (λ (p : PutDone). lane_eq p.lane l && p.took) puts ++ sorted (filter (λ (p : PutDone). lane_eq p.lane l && not p.took) puts)

abbrev pub frame_items : Site → List Line → List PutDone → List NumberedItem
frame_items site lines puts = flat_map (λ (p : PutDone). numbered (number_at lines p.place) p.reported) (flat_map (puts_on puts) (all_lanes site))

-- ---- the whole block

unfoldable pub block_items : HttpTexts → Network → World → List Line → Works → List NumberedItem
block_items http net w lines b =
    all_unasked http net.site w lines ++ turn_items http net.site w lines (flat (turns_done net w b)) ++
    frame_items net.site lines (puts_of (done_from net (claimed net w b) b.puts))

-- The play of a block. If the run ran out of memory in it, nothing of the block is reported, and the run ends.
abbrev pub play_block : HttpTexts → Network → World → List Line → Works → Played
play_block http net w lines b =
    let after = run net w (block_run net b) in
    elim b.left_out as (λ o. Played) [
      | None ↦ record { items = block_items http net w lines b; world = after; ending = Whole }
      | Some places ↦ stopped_at after NoMemory
    ]
