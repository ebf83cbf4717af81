-- The record of a disk in memory, computed from its fields.
use Rattle.std.specs.Prelude.{◌≡◌, ◌≤◌, ℕ, ◌+◌, ◌-◌, min, List, [], ◌∷◌, ◌++◌, length, map, take, drop, replicate, vec_len, vec_capacity}
use Rattle.disk_model.specs.Images.{overlaid}
use Rattle.disk_model.specs.Record.{Used, replayed}
use Rattle.disk_model.specs.Record.Used.{Wrote, Synced}
use Rattle.disk_model.specs.declared.arm.Image.{Image}
use Rattle.disk_model.specs.declared.arm.Image.TheVariants.{Lost, Kept, Torn as Filled}
use Rattle.disk_model.specs.declared.history.Range.{Range}
use Rattle.disk_model.specs.declared.history.History.{History}

-- the writes with their octets, which follow one another in the log
abbrev pub with_octets : List Range → List ℕ → List Used
with_octets [] log = []
with_octets (r ∷ writes) log = Wrote r.at (take r.len log) r.inside r.state ∷ with_octets writes (drop r.len log)

-- how many octets of the log belong to these writes
abbrev pub octets_of : List Range → ℕ
octets_of [] = 0
octets_of (r ∷ writes) = r.len + octets_of writes

-- the range of each write ends at `end` or before it
abbrev pub EndWithin : ℕ → List Range → Type 0
EndWithin end [] = Unit {0}
EndWithin end (r ∷ writes) = (r.at + r.len ≤ end) × (r.inside ≤ r.len) × EndWithin end writes

-- the calls up to the last sync, from the writes before each sync
abbrev pub calls_past : List (List Range × List ℕ) → List Used
calls_past [] = []
calls_past ((writes, log) ∷ rounds) = with_octets writes log ++ Synced ∷ calls_past rounds

abbrev pub past_of : History → List Used
past_of h = calls_past (map (λ round. (round.0.items, round.1.items)) h.past.items)

abbrev pub used_of : History → List Used
used_of h = past_of h ++ with_octets h.writes.items h.log.items

abbrev pub newest : List (List ℕ) → List ℕ
newest [] = []
newest (content ∷ contents) = content

-- the content at the last sync
abbrev pub base_of : History → List ℕ
base_of h = newest (map (λ kept. kept.0.items) h.base.items)

-- the octets of a content from place `at` on, filled up with zeros
abbrev pub kept_of : (at len : ℕ) → List ℕ → List ℕ
kept_of at len content = take len (drop at content) ++ replicate (len - length (take len (drop at content))) 0

-- The content before a write, from the content after it and what was kept of the range. A lost write left nothing.
abbrev pub restored : Range → List ℕ → List ℕ → List ℕ
restored r saved content = overlaid r.at (take (min r.len (r.before - r.at)) saved) (take r.before content)

abbrev pub back_from : Image → Range → List ℕ → List ℕ → List ℕ
back_from Lost r saved content = content
back_from Kept r saved content = restored r saved content
back_from Filled r saved content = restored r saved content

abbrev pub laid_back : Range → List ℕ → List ℕ → List ℕ
laid_back r saved content = back_from r.state r saved content

-- the content before all of these writes
abbrev pub undone : List Range → (saved content : List ℕ) → List ℕ
undone [] saved content = content
undone (r ∷ writes) saved content = laid_back r saved (undone writes (drop r.len saved) content)

pub record IsHistory (h : History) : Type 0 where
  pub log : length h.log.items ≡ octets_of h.writes.items
  pub saved : length h.saved.items ≡ octets_of h.writes.items
  pub past : base_of h ≡ replayed h.first.items (past_of h)
  pub content : h.content.items ≡ replayed h.first.items (used_of h)
  pub behind : h.content.items ≡ replayed (base_of h) (with_octets h.writes.items h.log.items)
  pub back : undone h.writes.items h.saved.items h.content.items ≡ base_of h
  pub ends : EndWithin (vec_capacity h.content) h.writes.items

-- there is memory for a content up to `end`, for this many octets of writes, and for this many calls
pub record HasRoom (h : History) (end octets calls : ℕ) : Type 0 where
  pub content : end ≤ vec_capacity h.content
  pub log : vec_len h.log + octets ≤ vec_capacity h.log
  pub saved : vec_len h.saved + octets ≤ vec_capacity h.saved
  pub list : vec_len h.writes + calls ≤ vec_capacity h.writes

-- at most this many octets and calls were added to the record, and no memory was given back
pub record GrowsFrom (old new : History) (octets calls : ℕ) : Type 0 where
  pub content : vec_capacity old.content ≤ vec_capacity new.content
  pub log : vec_capacity old.log ≤ vec_capacity new.log
  pub saved : vec_capacity old.saved ≤ vec_capacity new.saved
  pub list : vec_capacity old.writes ≤ vec_capacity new.writes
  pub log_long : vec_len new.log ≤ vec_len old.log + octets
  pub saved_long : vec_len new.saved ≤ vec_len old.saved + octets
  pub list_long : vec_len new.writes ≤ vec_len old.writes + calls

-- a write as it is recorded after a cut with this image, on a disk that then has `size` octets
abbrev pub marked_write : Image → ℕ → Range → Range
marked_write Lost size r = record r { inside = min r.inside (size - r.at); state = Lost }
marked_write Kept size r = r
marked_write Filled size r = record r { state = Filled }
