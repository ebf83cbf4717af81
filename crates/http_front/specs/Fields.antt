-- Header fields by name (RFC 9110, section 5), and decimal numbers in their values.
use Rattle.std.specs.Prelude.{ℕ, ◌+◌, ◌*◌, ◌-◌, Bool, ◌&&◌, nat_le, if◌then◌else◌, List, [], ◌∷◌, length, Option, Some, None}
use Rattle.std.specs.List.{list_any, list_all}
use Rattle.std.specs.Char.{is_ascii_digit}
use Rattle.std.specs.Str.{str_eq_ignore_ascii_case}

-- a header field: its name and its value
abbrev pub Pair : Type 0
Pair = List ℕ × List ℕ

-- Names are compared without regard to ASCII case.
abbrev pub is_named : List ℕ → Pair → Bool
is_named name f = str_eq_ignore_ascii_case f.0 name

-- the values of the fields of this name, in order
abbrev pub values_of : List ℕ → List Pair → List (List ℕ)
values_of name [] = []
values_of name (f ∷ fields) = if is_named name f then f.1 ∷ values_of name fields else values_of name fields

-- the only value, if there is exactly one
abbrev pub only_of : List (List ℕ) → Option (List ℕ)
only_of [] = None
only_of (v ∷ []) = Some v
only_of (v ∷ w ∷ vs) = None

-- Some field of this name has this value, both without regard to ASCII case.
abbrev pub has_value : (name value : List ℕ) → List Pair → Bool
has_value name value fields = list_any (λ (f : Pair). is_named name f && str_eq_ignore_ascii_case f.1 value) fields

-- the number that all digits spell, if the digits before these spell n
abbrev pub number_on : ℕ → List ℕ → ℕ
number_on n [] = n
number_on n (c ∷ cs) = number_on (10 * n + (c - 48)) cs

-- the number that digits spell
abbrev pub digits_of : List ℕ → Option ℕ
digits_of text = if list_all is_ascii_digit text then Some (number_on 0 text) else None

-- the number that 1 to 10 digits spell
unfoldable pub decimal_of : List ℕ → Option ℕ
decimal_of text = if nat_le 1 (length text) && nat_le (length text) 10 then digits_of text else None
