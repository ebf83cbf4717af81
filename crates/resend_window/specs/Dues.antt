-- The set of frames that are sent again at the next plan, by lane and offset.
use Rattle.std.specs.Prelude.{◌≡◌, ℕ, ◌<◌, ◌^◌, ◌==◌, ◌&&◌, Bool, true, false, List, map, Option, Some, None}
use Rattle.std.specs.List.{list_any}
use Rattle.ordered_set.specs.Entries.{has_entry, entry_at}
use Rattle.qkd_base.specs.Lane.{lane_eq}
use Rattle.qkd_base.specs.declared.lane.Lane.{Lane}
use Rattle.resend_window.specs.declared.held.Held.{Held}
use Rattle.resend_window.specs.declared.catalogue.Catalogue.{Catalogue}
use Rattle.resend_window.specs.declared.due_set.DueSet.{DueSet}
use Rattle.resend_window.specs.Kept.{somes}
use Rattle.resend_window.specs.Held.{is_ready}
use Rattle.resend_window.specs.Repeating.{is_above}
use Rattle.resend_window.specs.Catalogued.{Catalogues}
use Rattle.resend_window.specs.Groups.{offset_group, held_groups}

-- whether the frame is at this offset of this lane, and whether it is also sent again at the next plan

abbrev pub stands : Lane → ℕ → Held → Bool
stands l x h = lane_eq h.lane l && (h.offset == x)

abbrev pub goes_at : Lane → ℕ → Held → Bool
goes_at l x h = stands l x h && is_ready h

abbrev pub due_entry : Lane → ℕ → List ℕ
due_entry l x = entry_at (offset_group 0 l 0) x

-- the entries are exactly those of the frames that are sent again
pub record AreDues (slots : List (Option Held)) (entries : List (List ℕ)) : Type 0 where
  pub has : (l : Lane) (x : ℕ) → has_entry entries (due_entry l x) ≡ list_any (goes_at l x) (somes slots)

-- a set that is whole has exactly these frames
abbrev pub HasDues : List (Option Held) → DueSet → Type 0
HasDues slots d = d.is_whole ≡ true → AreDues slots d.entries

-- the index and the set of due frames are right for these slots
pub record IsListed (slots : List (Option Held)) (index : Catalogue) (dues : DueSet) : Type 0 where
  pub grouped : Catalogues (map held_groups slots) index
  pub going : HasDues slots dues

-- two lists have the same frames, except for those at this offset of this lane
abbrev pub AreAlikeBut : Lane → ℕ → List (Option Held) → List (Option Held) → Type 0
AreAlikeBut l x before after = (t : Held → Bool) → ((h : Held) → stands l x h ≡ true → t h ≡ false) → list_any t (somes after) ≡ list_any t (somes before)

-- two lists have the same frames, except for those at the lane and offset of this frame
abbrev pub AreAlike : Option Held → List (Option Held) → List (Option Held) → Type 0
AreAlike None before after = (t : Held → Bool) → list_any t (somes after) ≡ list_any t (somes before)
AreAlike (Some k) before after = AreAlikeBut k.lane k.offset before after

-- the least offset above `after` at which a frame of the lane is sent again
pub record IsNextDue (es : List (List ℕ)) (l : Lane) (after : Option ℕ) (x : ℕ) : Type 0 where
  pub above : is_above after x ≡ true
  pub there : has_entry es (due_entry l x) ≡ true
  pub first : (y : ℕ) → is_above after y ≡ true → y < x → has_entry es (due_entry l y) ≡ false

-- no frame of the lane above `after` is sent again
abbrev pub IsLastDue : List (List ℕ) → Lane → Option ℕ → Type 0
IsLastDue es l after = (y : ℕ) → is_above after y ≡ true → y < 2 ^ 64 → has_entry es (due_entry l y) ≡ false
