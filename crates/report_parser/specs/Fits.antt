-- The fit of a word with a part: the most leading octets that the word shares with a text of the part. Also which words are its texts.
use Rattle.std.specs.Prelude.{ℕ, ◌%◌, min, Bool, not, ◌&&◌, ◌||◌, ◌==◌, if◌then◌else◌, List, [], ◌∷◌, length, take, drop, map, is_some}
use Rattle.std.specs.Str.{bytes_eq}
use lib.Chars.{codes}
use Rattle.scenario_text.specs.Words.{Word}
use Rattle.scenario_text.specs.Fields.{way_of, name_of}
use Rattle.report_grammar.specs.Fields.{node_of, end_of, up_of, kind_of, state_of, cause_of}
use Rattle.report_parser.specs.declared.part.Part.{Part}
use Rattle.report_parser.specs.declared.part.Part.TheVariants as parts
use Rattle.report_parser.specs.Runs.{common, greatest, figures_fit, decimal_fit, pattern_fit}

-- A name's text has the fixed pattern, and its count is at least 1. So a word whose count is twelve zeros fits up to its last digit.
unfoldable pub name_fit : Word → ℕ
name_fit word =
    if pattern_fit (codes "00000000-0000-800n-800k-nnnnnnnnnnnn") word == 36 && bytes_eq (take 12 (drop 24 word)) (codes "000000000000") then 35
    else pattern_fit (codes "00000000-0000-800n-800k-nnnnnnnnnnnn") word

unfoldable pub node_fit : (nodes : List (List ℕ)) → Word → ℕ
node_fit nodes word = greatest (map (λ name. common name word) nodes)

-- the fit with a part that is one of a few fixed words
abbrev pub one_fit : List Word → Word → ℕ
one_fit words word = greatest (map (λ w. common w word) words)

unfoldable pub fit : (nodes : List (List ℕ)) → Part → Word → ℕ
fit nodes parts.Link word = decimal_fit 31 word
fit nodes parts.Byte word = decimal_fit 255 word
fit nodes parts.Short word = decimal_fit 65535 word
fit nodes parts.Number word = decimal_fit 4294967295 word
fit nodes parts.Long word = decimal_fit 18446744073709551615 word
fit nodes parts.Way word = one_fit (codes "up" ∷ codes "down" ∷ []) word
fit nodes parts.End word = one_fit (codes "low" ∷ codes "high" ∷ []) word
fit nodes parts.Up word = one_fit (codes "up" ∷ codes "down" ∷ []) word
fit nodes parts.Kind word = one_fit (codes "key" ∷ codes "stored" ∷ codes "ack" ∷ codes "open" ∷ codes "joined" ∷ codes "chunk" ∷ codes "part" ∷ []) word
fit nodes parts.State word = one_fit (codes "given" ∷ codes "ready" ∷ codes "made" ∷ codes "kept" ∷ codes "relayed" ∷ []) word
fit nodes parts.Cause word = one_fit (codes "wire-fault" ∷ codes "memory" ∷ []) word
fit nodes parts.Node word = node_fit nodes word
fit nodes parts.Name word = name_fit word
fit nodes parts.Tag word = min (figures_fit word) 16
fit nodes parts.Octets word = figures_fit word
fit nodes parts.Bytes word = greatest (common (codes "-") word ∷ figures_fit word ∷ [])
fit nodes parts.Absent word = common (codes "absent") word
fit nodes parts.New word = common (codes "new") word
fit nodes parts.Again word = common (codes "again") word
fit nodes parts.Received word = common (codes "received") word
fit nodes parts.Unused word = common (codes "unused") word
fit nodes parts.Spent word = common (codes "spent") word
fit nodes parts.Burnt word = common (codes "burnt") word

abbrev pub is_decimal : (most : ℕ) → Word → Bool
is_decimal most word = not (length word == 0) && decimal_fit most word == length word

abbrev pub is_octets : Word → Bool
is_octets word = length word % 2 == 0 && figures_fit word == length word

unfoldable pub is_text : (nodes : List (List ℕ)) → Part → Word → Bool
is_text nodes parts.Link word = is_decimal 31 word
is_text nodes parts.Byte word = is_decimal 255 word
is_text nodes parts.Short word = is_decimal 65535 word
is_text nodes parts.Number word = is_decimal 4294967295 word
is_text nodes parts.Long word = is_decimal 18446744073709551615 word
is_text nodes parts.Way word = is_some (way_of word)
is_text nodes parts.End word = is_some (end_of word)
is_text nodes parts.Up word = is_some (up_of word)
is_text nodes parts.Kind word = is_some (kind_of word)
is_text nodes parts.State word = not (bytes_eq word (codes "absent")) && is_some (state_of word)
is_text nodes parts.Cause word = is_some (cause_of word)
is_text nodes parts.Node word = is_some (node_of nodes word)
is_text nodes parts.Name word = is_some (name_of word)
is_text nodes parts.Tag word = length word == 16 && is_octets word
is_text nodes parts.Octets word = is_octets word
is_text nodes parts.Bytes word = bytes_eq word (codes "-") || (not (length word == 0) && is_octets word)
is_text nodes parts.Absent word = bytes_eq word (codes "absent")
is_text nodes parts.New word = bytes_eq word (codes "new")
is_text nodes parts.Again word = bytes_eq word (codes "again")
is_text nodes parts.Received word = bytes_eq word (codes "received")
is_text nodes parts.Unused word = bytes_eq word (codes "unused")
is_text nodes parts.Spent word = bytes_eq word (codes "spent")
is_text nodes parts.Burnt word = bytes_eq word (codes "burnt")
