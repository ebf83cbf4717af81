-- Lists of keys, and the keys in them that repeat an earlier one.
use Rattle.std.specs.Prelude.{◌≡◌, ℕ, ◌<◌, List, length, slice_index}

-- the key at this place is at an earlier place, too
abbrev pub IsRepeat : List ℕ → ℕ → Type 0
IsRepeat keys place = (place < length keys) × ((earlier : ℕ) × (earlier < place) × (slice_index keys earlier ≡ slice_index keys place))

abbrev pub IsFirstRepeat : List ℕ → ℕ → Type 0
IsFirstRepeat keys place = IsRepeat keys place × ((before : ℕ) → before < place → ¬ (IsRepeat keys before))

abbrev pub AreDistinct : List ℕ → Type 0
AreDistinct keys = (place : ℕ) → ¬ (IsRepeat keys place)
