-- What the audit's tables stand for: the items so far.
use Rattle.std.specs.Prelude.{◌≡◌, ℕ, suc, ◌+◌, ◌*◌, ◌-◌, ◌^◌, ◌<◌, min, Bool, true, false, not, ◌&&◌, ◌||◌, ◌==◌, if◌then◌else◌, List, [], ◌∷◌, Option, Some, None, is_some, unwrap_or}
use Rattle.std.specs.Map.{lookup}
use Rattle.std.specs.List.{list_any, list_all}
use Rattle.std.specs.Ordering.{nat_cmp}
use Rattle.std.specs.BTreeMap.{BTreeMap, get}
use Rattle.std.specs.Str.{bytes_eq}
use Rattle.qkd_base.specs.declared.lane.Lane.{Lane}
use Rattle.qkd_base.specs.Lane.{lane_eq, lane_place}
use Rattle.qkd_base.specs.Name.{Name, kind_number}
use Rattle.ordered_set.specs.Entries.{has_entry}
use Rattle.run_types.specs.declared.item.Item.{Item}
use Rattle.run_types.specs.declared.item.Item.TheVariants as items
use Rattle.run_types.specs.declared.item.NumberedItem.{NumberedItem}
use Rattle.run_types.specs.declared.scenario.Scenario.{Scenario}
use Rattle.run_audit.specs.declared.line_kind.LineKind.{LineKind}
use Rattle.run_audit.specs.declared.subject.Subject.{Subject}
use Rattle.run_audit.specs.declared.subject.Subject.TheVariants as subjects
use Rattle.run_audit.specs.declared.frames.Frame.{Frame}
use Rattle.run_audit.specs.declared.frames.Places.{Places}
use Rattle.run_audit.specs.declared.contents.Content.{Content}
use Rattle.run_audit.specs.declared.contents.Contents.{Contents}
use Rattle.run_audit.specs.declared.sums.LaneSum.{LaneSum}
use Rattle.run_audit.specs.declared.sums.Sums.{Sums}
use Rattle.run_audit.specs.declared.tellings.Told.{Told}
use Rattle.run_audit.specs.declared.takings.Taking.{Taking}
use Rattle.run_audit.specs.declared.takings.Takings.{Takings}
use Rattle.run_audit.specs.declared.record.Record.{Record}
use Rattle.run_audit.specs.Table.{at}
use Rattle.run_audit.specs.Frames.{how_many, frames, sent_on, agrees, is_placed, places}
use Rattle.run_audit.specs.Contents.{offset_of, contents, matches}
use Rattle.run_audit.specs.Tellings.{Telling, tellings, subject_eq, is_same, fits_with}
use Rattle.run_audit.specs.Takings.{takings, taking_eq}
use Rattle.run_audit.specs.Ledgers.{lane_from, is_stop, sum_of}
use Rattle.run_audit.specs.Rules.{is_delivery, ledgers}

-- ---- lines of the scenario

-- the kind that was found for a number, or else that of the first line with this number
abbrev pub found_or : Option LineKind → ℕ → List (ℕ × LineKind) → Option LineKind
found_or (Some kind) number lines = Some kind
found_or None number lines = lookup (λ n. n == number) lines

-- The new table is the old one with lines added. An earlier line of the same number stays in force.
abbrev pub Adds : BTreeMap ℕ LineKind → BTreeMap ℕ LineKind → (List (ℕ × LineKind) → List (ℕ × LineKind)) → Type 0
Adds old new put = (number : ℕ) (behind : List (ℕ × LineKind)) → found_or (get nat_cmp new number) number behind ≡ found_or (get nat_cmp old number) number (put behind)

-- ---- frames

abbrev pub place_key : Lane → ℕ → List ℕ
place_key l x = lane_place l ∷ x ∷ 0 ∷ 0 ∷ 0 ∷ 0 ∷ []

abbrev pub last_entry : Lane → ℕ → List ℕ
last_entry l x = lane_place l ∷ 0 ∷ 0 ∷ 0 ∷ x ∷ []

-- the last byte that a frame covers, or 2^64 - 1 if that is less
abbrev pub last_of : Frame → ℕ
last_of f = min (f.offset + (f.length + 7)) (2 ^ 64 - 1)

abbrev pub length_at : Lane → ℕ → List Frame → Option ℕ
length_at l offset [] = None
length_at l offset (f ∷ fs) = if lane_eq f.lane l && (f.offset == offset) then Some f.length else length_at l offset fs

abbrev pub offset_at : Lane → (last : ℕ) → List Frame → Option ℕ
offset_at l last [] = None
offset_at l last (f ∷ fs) = if lane_eq f.lane l && (last_of f == last) then Some f.offset else offset_at l last fs

abbrev pub is_last : Lane → ℕ → List Frame → Bool
is_last l last fs = list_any (λ (f : Frame). lane_eq f.lane l && (last_of f == last)) fs

-- Each frame agrees with those before it.
abbrev pub AreApart : List Frame → Type 0
AreApart [] = Unit {0}
AreApart (f ∷ fs) = (f.offset < 2 ^ 64) × (f.length < 2 ^ 16) × (list_all (agrees f) fs ≡ true) × AreApart fs

pub record ArePlaced (p : Places) (fs : List Frame) : Type 0 where
  pub lengths : (l : Lane) (offset : ℕ) → at p.lengths (place_key l offset) ≡ length_at l offset fs
  pub offsets : (l : Lane) (last : ℕ) → at p.offsets (place_key l last) ≡ offset_at l last fs
  pub lasts : (l : Lane) (last : ℕ) → has_entry p.lasts (last_entry l last) ≡ is_last l last fs
  pub count : p.count ≡ min (places fs) (2 ^ 32 - 1)
  pub apart : AreApart fs

-- Each frame has the next number of its lane.
abbrev pub AreNumbered : List Frame → Type 0
AreNumbered [] = Unit {0}
AreNumbered (f ∷ fs) = (f.number ≡ sent_on f.lane fs) × AreNumbered fs

-- `is_new` says whether the frame's place is a new one.
abbrev pub IsNew : (is_new : Bool) → Option Frame → List Frame → Type 0
IsNew is_new None fs = Unit {0}
IsNew is_new (Some f) fs = is_new ≡ not (is_placed f.lane f.offset fs)

-- ---- what frames carry

abbrev pub known_at : Lane → (offset : ℕ) → List Content → Option Content
known_at l offset [] = None
known_at l offset (c ∷ cs) = if lane_eq c.lane l && (c.offset == offset) then Some c else known_at l offset cs

-- Each content matches those before it.
abbrev pub AreMatching : List Content → Type 0
AreMatching [] = Unit {0}
AreMatching (c ∷ cs) = (list_all (matches c) cs ≡ true) × AreMatching cs

pub record AreCarried (k : Contents) (fs : List Frame) (cs : List Content) : Type 0 where
  pub offsets : (l : Lane) (number : ℕ) → at k.offsets (place_key l number) ≡ offset_of l number fs
  pub known : (l : Lane) (offset : ℕ) → at k.known (place_key l offset) ≡ known_at l offset cs
  pub matching : AreMatching cs

-- ---- sums of lanes

abbrev pub no_sum : LaneSum
no_sum = record { sent = 0; used = 0; blocks = 0; is_doubted = false; has_unsent = false }

-- The lane whose sums an item changes. Other items have none.
abbrev pub lane_of : Item → Option Lane
lane_of (items.Took link end number) = Some (lane_from link end)
lane_of (items.TookNone link end refusal) = Some (lane_from link end)
lane_of (items.Sent l number offset length) = Some l
lane_of (items.Unsent l offset cause) = Some l
lane_of _ = None

abbrev pub used_by : (is_new : Bool) → (length used : ℕ) → ℕ
used_by is_new length used = if is_new then length + 8 + used else used

abbrev pub with_item : Item → (is_new : Bool) → LaneSum → LaneSum
with_item (items.Took link end number) is_new s = record s { blocks = suc s.blocks }
with_item (items.TookNone link end refusal) is_new s = record s { is_doubted = is_stop refusal || s.is_doubted }
with_item (items.Sent l number offset length) is_new s = record s { sent = suc s.sent; used = used_by is_new length s.used }
with_item (items.Unsent l offset cause) is_new s = record s { has_unsent = true }
with_item _ is_new s = s

abbrev pub sum_at : Sums → Lane → LaneSum
sum_at s l = unwrap_or (at s.lanes (place_key l 0)) no_sum

abbrev pub AreSummed : Sums → List NumberedItem → Type 0
AreSummed s before = (l : Lane) → sum_at s l ≡ sum_of l before

-- ---- tellings

abbrev pub subject_key : Subject → List ℕ
subject_key (subjects.Key n) = 0 ∷ n.node ∷ kind_number n.kind ∷ n.count ∷ 0 ∷ 0 ∷ []
subject_key (subjects.Chunk s index) = 1 ∷ s.node ∷ kind_number s.kind ∷ s.count ∷ index ∷ 0 ∷ []

-- A name's node and kind as one number. The kind is below 4. Fewer numbers in an entry make comparisons of entries faster.
abbrev pub origin_number : Name → ℕ
origin_number n = kind_number n.kind + 4 * n.node

-- The third number of an entry is 0 for a key, and the index plus 1 for a chunk.
abbrev pub caller_entry : Subject → ℕ → List ℕ
caller_entry (subjects.Key n) caller = n.count ∷ origin_number n ∷ 0 ∷ caller ∷ 0 ∷ []
caller_entry (subjects.Chunk s index) caller = s.count ∷ origin_number s ∷ (index + 1) ∷ caller ∷ 0 ∷ []

abbrev pub told_of : Subject → List ℕ → (caller master : Option ℕ) → Telling
told_of subject bytes caller master = record { subject = subject; bytes = bytes; caller = caller; master = master }

abbrev pub bytes_of : Subject → List Telling → Option (List ℕ)
bytes_of s [] = None
bytes_of s (t ∷ ts) = if subject_eq t.subject s then Some t.bytes else bytes_of s ts

abbrev pub master_of : Subject → List Telling → Option ℕ
master_of s [] = None
master_of s (t ∷ ts) = if subject_eq t.subject s && is_some t.master then t.master else master_of s ts

abbrev pub was_given : Subject → ℕ → List Telling → Bool
was_given s caller ts = list_any (λ (t : Telling). subject_eq t.subject s && is_same t.caller (Some caller)) ts

abbrev pub may_be_bytes : Option (List ℕ) → List ℕ → Bool
may_be_bytes None bytes = true
may_be_bytes (Some known) bytes = bytes_eq known bytes

-- The set of entries has this caller for this subject.
abbrev pub is_listed : List (List ℕ) → Subject → Option ℕ → Bool
is_listed entries s None = false
is_listed entries s (Some caller) = has_entry entries (caller_entry s caller)

abbrev pub was_given_to : Subject → Option ℕ → List Telling → Bool
was_given_to s None ts = false
was_given_to s (Some caller) ts = was_given s caller ts

-- Each telling fits those before it.
abbrev pub AreFitting : List Telling → Type 0
AreFitting [] = Unit {0}
AreFitting (t ∷ ts) = (list_all (fits_with t) ts ≡ true) × AreFitting ts

pub record AreTold (told : Told) (ts : List Telling) : Type 0 where
  pub bytes : (s : Subject) → at told.bytes (subject_key s) ≡ bytes_of s ts
  pub masters : (s : Subject) → at told.masters (subject_key s) ≡ master_of s ts
  pub callers : (s : Subject) (caller : ℕ) → has_entry told.callers (caller_entry s caller) ≡ was_given s caller ts
  pub deliveries : told.deliveries ≡ min (how_many is_delivery ts) (2 ^ 32 - 1)
  pub fitting : AreFitting ts

-- ---- names that nodes took

abbrev pub bool_number : Bool → ℕ
bool_number true = 1
bool_number false = 0

abbrev pub taking_entry : Taking → List ℕ
taking_entry t = t.name.count ∷ origin_number t.name ∷ t.node ∷ bool_number t.is_ack ∷ 0 ∷ []

abbrev pub AreTaken : Takings → List Taking → Type 0
AreTaken k ts = (t : Taking) → has_entry k.entries (taking_entry t) ≡ list_any (λ e. taking_eq e t) ts

-- ---- all tables together

pub record IsRecordOf (s : Scenario) (r : Record) (before : List NumberedItem) : Type 0 where
  pub placed : ArePlaced r.places (frames before)
  pub numbered : AreNumbered (frames before)
  pub carried : AreCarried r.contents (frames before) (contents before)
  pub summed : AreSummed r.sums before
  pub told : AreTold r.told (tellings s before)
  pub taken : AreTaken r.takings (takings s.site.routes before)
  pub ledgers : r.ledgers ≡ min (ledgers before) (2 ^ 32 - 1)
