-- The first octets of a disk: where the live area starts, its generation, and the version of its records.
use Rattle.std.specs.Prelude.{ℕ, ◌+◌, ◌==◌, nat_lt, nat_le, ◌&&◌, ◌||◌, if◌then◌else◌, Bool, true, false, List, [], ◌∷◌, ◌++◌, drop, slice_index}
use Rattle.std.specs.Int.{w64, from_be_bytes, to_be_bytes}
use Rattle.journal_snapshot.specs.declared.area.Area.{Area}
use Rattle.journal_snapshot.specs.declared.area.Area.TheVariants.{Header, Field, First, Second}
use Rattle.journal_snapshot.specs.declared.live.Live.{Live}

-- the number in the eight octets from a place on; octets that the disk doesn't have count as 0
unfoldable pub word : List ℕ → ℕ → ℕ
word c at =
    from_be_bytes w64
    (slice_index c at ∷ slice_index c (at + 1) ∷ slice_index c (at + 2) ∷ slice_index c (at + 3) ∷ slice_index c (at + 4) ∷ slice_index c (at + 5) ∷ slice_index c (at + 6) ∷ slice_index c (at + 7) ∷ [])

-- the number in the last seven of eight octets, of which the first is a version
unfoldable pub tail_word : List ℕ → ℕ → ℕ
tail_word c at =
    from_be_bytes w64
    (0 ∷ slice_index c (at + 1) ∷ slice_index c (at + 2) ∷ slice_index c (at + 3) ∷ slice_index c (at + 4) ∷ slice_index c (at + 5) ∷ slice_index c (at + 6) ∷ slice_index c (at + 7) ∷ [])

-- the number in octets 10 to 15
unfoldable pub field_word : List ℕ → ℕ
field_word c =
    from_be_bytes w64
    (0 ∷ 0 ∷ slice_index c 10 ∷ slice_index c 11 ∷ slice_index c 12 ∷ slice_index c 13 ∷ slice_index c 14 ∷ slice_index c 15 ∷ [])

-- where the start is said, by whether a checkpoint was made, which slots are open, and whether the second slot is newer
abbrev pub chosen : Bool → Bool → Bool → Bool → Area
chosen moved first second newer =
    if moved then (if first then (if second && newer then Second else First) else (if second then Second else Field)) else Header

-- Where the start of the live area is said. Octet 8 is 1 once a checkpoint was made. Octets 16 and 17 are the marks of the two
-- slots; a mark of 3 is open. Each slot begins with its generation.
abbrev pub area_of : List ℕ → Area
area_of c = chosen (slice_index c 8 == 1) (slice_index c 16 == 3) (slice_index c 17 == 3) (nat_lt (word c 18) (word c 34))

-- where the next checkpoint says its start: octets 9 to 15 the first time, then the first slot, and then always the slot that
-- isn't live
abbrev pub next_area : Area → Area
next_area Header = Field
next_area Field = First
next_area First = Second
next_area Second = First

abbrev pub is_moved : Area → Bool
is_moved Header = false
is_moved Field = true
is_moved First = true
is_moved Second = true

abbrev pub is_slot : Area → Bool
is_slot Header = false
is_slot Field = false
is_slot First = true
is_slot Second = true

-- the place of the version, which is the first octet of a start field
abbrev pub version_place : Area → ℕ
version_place Header = 7
version_place Field = 9
version_place First = 26
version_place Second = 42

-- the mark: the octet that makes an area the live one, and its value when it is open
abbrev pub mark_place : Area → ℕ
mark_place Header = 8
mark_place Field = 8
mark_place First = 16
mark_place Second = 17

abbrev pub open_mark : Area → ℕ
open_mark Header = 0
open_mark Field = 1
open_mark First = 3
open_mark Second = 3

abbrev pub fields_place : Area → ℕ
fields_place Header = 9
fields_place Field = 9
fields_place First = 18
fields_place Second = 34

abbrev pub start_of : List ℕ → Area → ℕ
start_of c Header = 16
start_of c Field = field_word c
start_of c First = tail_word c 26
start_of c Second = tail_word c 42

-- The first two areas have no generation field.
abbrev pub generation_of : List ℕ → Area → ℕ
generation_of c Header = 0
generation_of c Field = 0
generation_of c First = word c 18
generation_of c Second = word c 34

-- An octet of 0 in a start field means version 1.
abbrev pub spelled_version : ℕ → ℕ
spelled_version octet = if octet == 0 then 1 else 2

abbrev pub version_of : List ℕ → Area → ℕ
version_of c Header = slice_index c 7
version_of c Field = spelled_version (slice_index c 9)
version_of c First = spelled_version (slice_index c 26)
version_of c Second = spelled_version (slice_index c 42)

abbrev pub live_in : List ℕ → Area → Live
live_in c a = record { area = a; start = start_of c a; generation = generation_of c a; version = version_of c a }

abbrev pub live_of : List ℕ → Live
live_of c = live_in c (area_of c)

abbrev pub is_version : ℕ → Bool
is_version octet = (octet == 0) || (octet == 2)

-- A start field has a known version, and a start that is after both slots and on the disk.
abbrev pub is_field : ℕ → ℕ → ℕ → Bool
is_field octet start size = (is_version octet && nat_le 50 start) && nat_lt start size

abbrev pub is_placed_in : List ℕ → Area → ℕ → Bool
is_placed_in c Header size = true
is_placed_in c Field size = is_field (slice_index c 9) (start_of c Field) size
is_placed_in c First size = is_field (slice_index c 26) (start_of c First) size
is_placed_in c Second size = is_field (slice_index c 42) (start_of c Second) size

-- On a disk of this size, an area can start where the disk says.
abbrev pub is_placed : List ℕ → ℕ → Bool
is_placed c size = is_placed_in c (area_of c) size

-- Whether the slot of the next checkpoint has an open mark.
abbrev pub has_open_mark : List ℕ → Area → Bool
has_open_mark c Header = false
has_open_mark c Field = slice_index c 16 == 3
has_open_mark c First = slice_index c 17 == 3
has_open_mark c Second = slice_index c 16 == 3

-- the fields that say this start, with version 2
unfoldable pub fields_of : Area → ℕ → ℕ → List ℕ
fields_of Header generation start = 2 ∷ drop 2 (to_be_bytes w64 start)
fields_of Field generation start = 2 ∷ drop 2 (to_be_bytes w64 start)
fields_of First generation start = to_be_bytes w64 generation ++ 2 ∷ drop 1 (to_be_bytes w64 start)
fields_of Second generation start = to_be_bytes w64 generation ++ 2 ∷ drop 1 (to_be_bytes w64 start)
