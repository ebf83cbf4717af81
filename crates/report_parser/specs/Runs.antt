-- Prefixes of a text: how many leading octets have a property, or are shared with another text.
use Rattle.std.specs.Prelude.{ℕ, ◌+◌, ◌-◌, ◌*◌, max, Bool, true, false, not, ◌&&◌, ◌||◌, ◌==◌, nat_le, if◌then◌else◌, List, [], ◌∷◌}
use Rattle.std.specs.List.{prefix_len, common_prefix_len}
use Rattle.scenario_text.specs.Words.{Word, is_digit}

-- the length of the longest common prefix of two texts
abbrev pub common : (text other : List ℕ) → ℕ
common text other = common_prefix_len (λ a b. a == b) text other

abbrev pub greatest : List ℕ → ℕ
greatest [] = 0
greatest (n ∷ ns) = max n (greatest ns)

-- The octet is neither a space nor a line feed.
abbrev pub is_plain : ℕ → Bool
is_plain b = not (b == 32) && not (b == 10)

abbrev pub plain_len : List ℕ → ℕ
plain_len text = prefix_len is_plain text

-- The octet is a hexadecimal digit, in lower case.
abbrev pub is_figure : ℕ → Bool
is_figure b = (nat_le 48 b && nat_le b 57) || (nat_le 97 b && nat_le b 102)

abbrev pub figures_fit : Word → ℕ
figures_fit word = prefix_len is_figure word

-- How many leading octets are decimal digits of a number that is at most `most`. `value` is the number's value so far. A leading zero stands alone.
abbrev pub decimal_on : (most value : ℕ) (is_first : Bool) → Word → ℕ
decimal_on most value is_first [] = 0
decimal_on most value is_first (c ∷ cs) = if is_digit c && (is_first || not (value == 0)) && nat_le (10 * value + (c - 48)) most then 1 + decimal_on most (10 * value + (c - 48)) false cs else 0

abbrev pub decimal_fit : (most : ℕ) → Word → ℕ
decimal_fit most word = decimal_on most 0 true word

-- The mark `n` of a pattern allows a hexadecimal digit, and `k` the number of a kind, 0 to 2. Any other mark allows only itself.
abbrev pub may_stand : (mark octet : ℕ) → Bool
may_stand mark octet = if mark == 110 then is_figure octet else if mark == 107 then (nat_le 48 octet && nat_le octet 50) else mark == octet

abbrev pub pattern_fit : (pattern : List ℕ) → Word → ℕ
pattern_fit pattern word = common_prefix_len may_stand pattern word

-- the reach of the end of a line: 1 or 0 octets
abbrev pub end_reach : List ℕ → ℕ
end_reach [] = 0
end_reach (b ∷ bs) = if b == 10 then 1 else 0
