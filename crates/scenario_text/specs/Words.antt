-- The words of a line, and the numbers and names that they may be.
use Rattle.std.specs.Prelude.{ℕ, ◌+◌, ◌-◌, ◌*◌, ◌^◌, Bool, false, not, ◌&&◌, ◌||◌, ◌==◌, nat_lt, nat_le, if◌then◌else◌, List, [], ◌∷◌, length, filter, Option, Some, None}
use Rattle.std.specs.Option.{option_and_then}
use Rattle.std.specs.List.{list_all, slice_split, prefix_len}

infixl 10 ◌>>=◌
abbrev pub ◌>>=◌ : {A B : Type 0} → Option A → (A → Option B) → Option B
o >>= f = option_and_then f o

abbrev pub is_space : ℕ → Bool
is_space b = b == 32

-- how many octets are before the first `stop`
abbrev pub len_to : ℕ → List ℕ → ℕ
len_to stop bytes = prefix_len (λ b. not (b == stop)) bytes

-- a part that isn't empty
abbrev pub is_word : List ℕ → Bool
is_word part = not (length part == 0)

-- the parts between spaces that aren't empty
unfoldable pub words_of : List ℕ → List (List ℕ)
words_of line = filter is_word (slice_split is_space line)

-- ---- exactly one word, two words, and so on

abbrev pub Word : Type 0
Word = List ℕ

-- the first word, and the others
abbrev pub first_of : List Word → Option (Word × List Word)
first_of [] = None
first_of (w ∷ ws) = Some (w, ws)

abbrev pub one_of : List Word → Option Word
one_of ws = do
  w ← first_of ws
  if length w.1 == 0 then Some w.0 else None

abbrev pub two_of : List Word → Option (Word × Word)
two_of ws = do
  w ← first_of ws
  last ← one_of w.1
  Some (w.0, last)

abbrev pub three_of : List Word → Option (Word × Word × Word)
three_of ws = do
  w ← first_of ws
  rest ← two_of w.1
  Some (w.0, rest.0, rest.1)

abbrev pub four_of : List Word → Option (Word × Word × Word × Word)
four_of ws = do
  w ← first_of ws
  rest ← three_of w.1
  Some (w.0, rest.0, rest.1, rest.2)

abbrev pub five_of : List Word → Option (Word × Word × Word × Word × Word)
five_of ws = do
  w ← first_of ws
  rest ← four_of w.1
  Some (w.0, rest.0, rest.1, rest.2, rest.3)

-- ---- names and numbers

abbrev pub is_name_octet : ℕ → Bool
is_name_octet b = (nat_le 97 b && nat_le b 122) || (nat_le 65 b && nat_le b 90) || (nat_le 48 b && nat_le b 57) || b == 95 || b == 45 || b == 46

-- a name of at most `most` characters
unfoldable pub is_name : ℕ → Word → Bool
is_name most word = nat_le (length word) most && list_all is_name_octet word

abbrev pub is_digit : ℕ → Bool
is_digit b = nat_le 48 b && nat_le b 57

-- the number that more digits give, after the number n of the digits before them
abbrev pub number_on : ℕ → Word → ℕ
number_on n [] = n
number_on n (c ∷ cs) = number_on (10 * n + (c - 48)) cs

-- one or more digits, of which the first is 0 only if it is the only one
abbrev pub is_numeral : Word → Bool
is_numeral [] = false
is_numeral (c ∷ cs) = list_all is_digit (c ∷ cs) && (length cs == 0 || not (c == 48))

-- a decimal number below 2 ^ 32
unfoldable pub number_of : Word → Option ℕ
number_of word = if is_numeral word && nat_lt (number_on 0 word) (2 ^ 32) then Some (number_on 0 word) else None

-- a number from `least` to `most`
unfoldable pub number_in : (least most : ℕ) → Word → Option ℕ
number_in least most word = do
  n ← number_of word
  if nat_le least n && nat_le n most then Some n else None
