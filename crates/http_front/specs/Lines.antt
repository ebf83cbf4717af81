-- The lines of a text that is part of a head.
use Rattle.std.specs.Prelude.{ℕ, ◌-◌, Bool, ◌&&◌, ◌||◌, not, ◌==◌, nat_lt, if◌then◌else◌, List, [], ◌∷◌, length, count_by, slice_index}
use Rattle.httparse.specs.Pieces.{is_newline}

-- the text without the line ends at its front
abbrev pub after_blank : List ℕ → List ℕ
after_blank [] = []
after_blank (b ∷ text) = if is_newline b then after_blank text else b ∷ text

-- how many lines end in a text
abbrev pub lines : List ℕ → ℕ
lines text = count_by (λ b. b == 10) text

-- The text ends right after a line end, or after a line end and a CR.
abbrev pub ends_line : List ℕ → Bool
ends_line text =
    slice_index text (length text - 1) == 10
    || (slice_index text (length text - 1) == 13 && slice_index text (length text - 2) == 10)

-- A part of a head has more than a request line and 32 fields.
abbrev pub begins_field_33 : List ℕ → Bool
begins_field_33 text = nat_lt 33 (lines (after_blank text)) || (lines (after_blank text) == 33 && not (ends_line text))
