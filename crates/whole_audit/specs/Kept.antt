-- What the audit's tables stand for: the items so far.
use Rattle.std.specs.Prelude.{◌≡◌, ℕ, ◌==◌, nat_le, Bool, not, if◌then◌else◌, List, [], ◌∷◌, drop, slice_get, Option, Some, None, unwrap_or}
use Rattle.std.specs.List.{flat_map}
use Rattle.std.specs.Ordering.{nat_cmp}
use Rattle.std.specs.BTreeMap.{BTreeMap, get}
use Rattle.ordered_set.specs.Entries.{has_entry}
use Rattle.qkd_base.specs.declared.lane.Lane.{Lane}
use Rattle.qkd_base.specs.Lane.{lane_place}
use Rattle.qkd_base.specs.Name.{kind_number}
use Rattle.run_types.specs.declared.line.Line.{Line}
use Rattle.run_types.specs.declared.entry.Entry.{Entry}
use Rattle.run_types.specs.declared.entry.Entry.TheVariants as entries
use Rattle.run_types.specs.declared.scenario.Scenario.{Scenario}
use Rattle.run_types.specs.declared.item.NumberedItem.{NumberedItem}
use Rattle.whole_audit.specs.declared.order.Walk.{Walk}
use Rattle.whole_audit.specs.declared.lines.Spot.{Spot}
use Rattle.whole_audit.specs.declared.lines.Spots.{Spots}
use Rattle.whole_audit.specs.Lines.{lines_in, line_with, command_at}
use Rattle.whole_audit.specs.declared.tables.Tables.{Tables}
use Rattle.whole_audit.specs.declared.judge.Judge.{Judge}
use Rattle.whole_audit.specs.declared.blocks.Count.{Count}
use Rattle.whole_audit.specs.declared.blocks.Counts.{Counts}
use Rattle.run_audit.specs.Table.{at}
use Rattle.whole_audit.specs.Blocks.{count_of}
use Rattle.whole_audit.specs.Claims.{is_up}
use Rattle.whole_audit.specs.declared.names.Names.{Names}
use Rattle.whole_audit.specs.declared.knowledge.Heard.{Heard}
use Rattle.whole_audit.specs.declared.knowledge.Knowledge.{Knowledge}
use Rattle.whole_audit.specs.Knowledge.{has_heard}
use Rattle.whole_audit.specs.Managers.{is_node_up, was_started, was_stopped}
use Rattle.whole_audit.specs.Names.{names_of}
use Rattle.whole_audit.specs.declared.rests.Rest.{Rest}
use Rattle.whole_audit.specs.declared.rests.Rests.{Rests}
use Rattle.whole_audit.specs.Rests.{asked_if, rest_of}
use Rattle.whole_audit.specs.declared.tracks.Track.{Track}
use Rattle.whole_audit.specs.declared.tracks.Tracks.{Tracks}
use Rattle.whole_audit.specs.Tracks.{no_track, track_of}
use Rattle.item_audit.specs.declared.stocks.Pool.{Pool}
use Rattle.whole_audit.specs.declared.frames.Put.{Put}
use Rattle.whole_audit.specs.declared.frames.Frames.{Frames}
use Rattle.whole_audit.specs.Frames.{frame_at}
use Rattle.run_types.specs.declared.command.Command.{Command}
use Rattle.qkd_base.specs.Name.{Name}
use Rattle.whole_audit.specs.declared.arrivals.Arrivals.{Arrivals}
use Rattle.whole_audit.specs.Arrivals.{has_arrived}
use Rattle.whole_audit.specs.declared.handings.Handings.{Handings}
use Rattle.whole_audit.specs.Handings.{node_if, sae_if, was_handed, has_unnamed}
use Rattle.whole_audit.specs.declared.pools.Stock.{Stock}
use Rattle.whole_audit.specs.declared.pools.Pools.{Pools}
use Rattle.whole_audit.specs.Pools.{no_stock, stock_of}
use Rattle.whole_audit.specs.Order.{left, has_come, owing, is_above}

abbrev pub number_entry : ℕ → List ℕ
number_entry number = number ∷ 0 ∷ 0 ∷ 0 ∷ 0 ∷ []

-- The set of entries has the number.
abbrev pub has_number : List (List ℕ) → ℕ → Bool
has_number entries number = has_entry entries (number_entry number)

-- A place in a scenario, the numbers of the items that came, and those of lines that have to give more.
pub record IsWalkOf (s : Scenario) (w : Walk) (before : List NumberedItem) : Type 0 where
  pub left : left s before ≡ Some (drop w.place s.entries)
  pub came : (number : ℕ) → has_number w.came number ≡ has_come before number
  pub owing : (number : ℕ) → has_number w.owing number ≡ owing s before number
  pub next : (number : ℕ) → nat_le w.next number ≡ is_above number before

-- ---- lines

abbrev pub line_in : Entry → (place : ℕ) → Option Line
line_in (entries.Line l) place = if place == 0 then Some l else None
line_in (entries.Block ls) place = slice_get ls place

abbrev pub line_in_any : Option Entry → (place : ℕ) → Option Line
line_in_any None place = None
line_in_any (Some e) place = line_in e place

-- the line at a spot
abbrev pub line_at : List Entry → Spot → Option Line
line_at es spot = line_in_any (slice_get es spot.entry) spot.line

-- the line at the spot that was found for a number, or else the first of these lines with this number
abbrev pub found_or : List Entry → Option Spot → (number : ℕ) → List Line → Option Line
found_or es None number lines = line_with number lines
found_or es (Some spot) number lines = line_at es spot

-- The new table is the old one with lines added. An earlier line of the same number stays in force.
abbrev pub Adds : List Entry → BTreeMap ℕ Spot → BTreeMap ℕ Spot → (List Line → List Line) → Type 0
Adds es old new put = (number : ℕ) (behind : List Line) → found_or es (get nat_cmp new number) number behind ≡ found_or es (get nat_cmp old number) number (put behind)

-- The table has the spots of the scenario's lines.
abbrev pub AreSpots : Scenario → Spots → Type 0
AreSpots s spots = (number : ℕ) → found_or s.entries (get nat_cmp spots.by_number number) number [] ≡ line_with number (flat_map lines_in s.entries)

-- ---- blocks

abbrev pub no_count : Count
no_count = record { least = 0; most = 0 }

abbrev pub end_key : Lane → List ℕ
end_key l = lane_place l ∷ []

abbrev pub count_at : Counts → Lane → Count
count_at c l = unwrap_or (at c.ends (end_key l)) no_count

abbrev pub AreCounted : Counts → List NumberedItem → Type 0
AreCounted c before = (l : Lane) → count_at c l ≡ count_of l before

-- ---- lanes

abbrev pub track_at : Tracks → Lane → Track
track_at k l = unwrap_or (at k.lanes (end_key l)) no_track

abbrev pub AreTracks : Tracks → List NumberedItem → Type 0
AreTracks k before = (l : Lane) → track_at k l ≡ track_of l before

-- ---- links

-- The set has the links that are down.
abbrev pub AreDown : List (List ℕ) → List NumberedItem → Type 0
AreDown down before = (link : ℕ) → has_number down link ≡ not (is_up link before)

-- ---- managers

-- The set has the nodes whose managers are down.
abbrev pub AreDownNodes : Scenario → List (List ℕ) → List NumberedItem → Type 0
AreDownNodes s down before = (node : ℕ) → has_number down node ≡ not (is_node_up s node before)

-- The set has the nodes whose managers were started.
abbrev pub AreStarted : Scenario → List (List ℕ) → List NumberedItem → Type 0
AreStarted s started before = (node : ℕ) → has_number started node ≡ was_started s node before

-- The set has the nodes whose managers stopped.
abbrev pub AreStopped : Scenario → List (List ℕ) → List NumberedItem → Type 0
AreStopped s stopped before = (node : ℕ) → has_number stopped node ≡ was_stopped s node before

-- ---- what nodes know

abbrev pub bool_number : Bool → ℕ
bool_number b = if b then 1 else 0

abbrev pub heard_entry : Heard → List ℕ
heard_entry h = h.name.count ∷ h.name.node ∷ kind_number h.name.kind ∷ h.node ∷ bool_number h.is_ack ∷ []

-- The set has what nodes took.
abbrev pub AreHeard : Scenario → Knowledge → List NumberedItem → Type 0
AreHeard s k before = (h : Heard) → has_entry k.heard (heard_entry h) ≡ has_heard s before h

-- ---- what lines have to give

abbrev pub rest_at : Rests → (number : ℕ) → (first : Rest) → Rest
rest_at r number first = unwrap_or (at r.lines (number ∷ [])) first

abbrev pub AreRests : Scenario → Rests → List NumberedItem → Type 0
AreRests s r before = (number : ℕ) → rest_at r number (asked_if (command_at s number)) ≡ rest_of s number before

-- ---- names

abbrev pub named_at : Names → (node : ℕ) → Count
named_at n node = unwrap_or (at n.nodes (node ∷ [])) no_count

abbrev pub AreNamed : Scenario → Names → List NumberedItem → Type 0
AreNamed s n before = (node : ℕ) → named_at n node ≡ names_of s node before

-- ---- frames

abbrev pub frame_key : Lane → (number : ℕ) → List ℕ
frame_key l number = lane_place l ∷ number ∷ []

abbrev pub frame_kept : Frames → Lane → (number : ℕ) → Option Put
frame_kept f l number = at f.wires (frame_key l number)

abbrev pub AreFrames : Frames → List NumberedItem → Type 0
AreFrames f before = (l : Lane) (number : ℕ) → frame_kept f l number ≡ frame_at l number before

-- ---- handings

abbrev pub key_entry : Name → (place : ℕ) → List ℕ
key_entry n place = n.count ∷ n.node ∷ kind_number n.kind ∷ place ∷ 0 ∷ []

-- The set has the keys that were handed out, and where.
abbrev pub AreHanded : (Option Command → Option ℕ) → Scenario → List (List ℕ) → List NumberedItem → Type 0
AreHanded place s set before = (n : Name) (there : ℕ) → has_entry set (key_entry n there) ≡ was_handed place s before n there

-- The set has the nodes that handed out keys without their names.
abbrev pub AreUnnamed : Scenario → List (List ℕ) → List NumberedItem → Type 0
AreUnnamed s set before = (node : ℕ) → has_number set node ≡ has_unnamed s node before

pub record AreHandings (s : Scenario) (h : Handings) (before : List NumberedItem) : Type 0 where
  pub at : AreHanded node_if s h.at before
  pub to : AreHanded sae_if s h.to before
  pub unnamed : AreUnnamed s h.unnamed before

-- ---- arrivals

-- The set has the facts that lanes' receivers took.
abbrev pub AreArrived : Arrivals → List NumberedItem → Type 0
AreArrived a before = (l : Lane) (n : Name) → has_entry a.came (key_entry n (lane_place l)) ≡ has_arrived before l n

-- ---- pools

abbrev pub pool_key : Pool → List ℕ
pool_key p = p.master ∷ p.slave ∷ p.bits ∷ []

abbrev pub stock_at : Pools → Pool → Stock
stock_at ps p = unwrap_or (at ps.stocks (pool_key p)) no_stock

abbrev pub AreStocked : Scenario → Pools → List NumberedItem → Type 0
AreStocked s ps before = (p : Pool) → stock_at ps p ≡ stock_of s p before

-- ---- all together

pub record AreTablesOf (s : Scenario) (t : Tables) (before : List NumberedItem) : Type 0 where
  pub spots : AreSpots s t.spots
  pub counts : AreCounted t.counts before
  pub down : AreDown t.down before
  pub managers : AreDownNodes s t.down_nodes before
  pub started : AreStarted s t.started before
  pub stopped : AreStopped s t.stopped before
  pub names : AreNamed s t.names before
  pub rests : AreRests s t.rests before
  pub tracks : AreTracks t.tracks before
  pub knowledge : AreHeard s t.knowledge before
  pub frames : AreFrames t.frames before
  pub pools : AreStocked s t.pools before
  pub handings : AreHandings s t.handings before
  pub arrivals : AreArrived t.arrivals before

pub record IsJudgeOf (s : Scenario) (j : Judge) (before : List NumberedItem) : Type 0 where
  pub walk : IsWalkOf s j.walk before
  pub tables : AreTablesOf s j.tables before
