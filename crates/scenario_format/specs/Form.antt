-- The form of a text: its words, line by line, without comments and blank lines. Hexadecimal digits are in lower case, and
-- the declarations come in one fixed order.
use Rattle.std.specs.Prelude.{ℕ, ◌+◌, Bool, false, not, ◌&&◌, nat_lt, nat_le, if◌then◌else◌, List, [], ◌∷◌, ◌++◌, map, filter, unwrap_or}
use Rattle.std.specs.List.{flat_map, list_any, position_from}
use Rattle.std.specs.Str.{bytes_eq}
use Rattle.std.specs.Str.Lines.{strip_carriage_return}
use lib.Chars.{codes}
use Rattle.scenario_text.specs.Words.{Word, words_of}
use Rattle.scenario_text.specs.Line.{is_comment, is_declaration}
use Rattle.scenario_text.specs.Text.{parts_of}

-- ---- the words of a line

-- a hexadecimal digit in lower case
abbrev pub low : ℕ → ℕ
low b = if nat_le 65 b && nat_le b 70 then b + 32 else b

-- The word of hexadecimal digits becomes lower case: in a line of `http` it is the second behind `http`, in one of `forge` the third.
abbrev pub low_second : List Word → List Word
low_second (node ∷ hex ∷ ws) = node ∷ map low hex ∷ ws
low_second ws = ws

abbrev pub low_third : List Word → List Word
low_third (link ∷ way ∷ hex ∷ ws) = link ∷ way ∷ map low hex ∷ ws
low_third ws = ws

abbrev pub one_case : List Word → List Word
one_case [] = []
one_case (w ∷ ws) =
    if bytes_eq w (codes "http") then w ∷ low_second ws
    else if bytes_eq w (codes "forge") then w ∷ low_third ws
    else w ∷ ws

-- The words of a line. A comment has none.
abbrev pub said_in : List ℕ → List Word
said_in line = if is_comment line then [] else one_case (words_of line)

-- ---- the lines that have words, each with its number

abbrev pub Said : Type 0
Said = ℕ × List Word

abbrev pub put : ℕ → List Word → List Said → List Said
put n [] lines = lines
put n (w ∷ ws) lines = (n, w ∷ ws) ∷ lines

-- Line numbers count all lines, also those without words.
abbrev pub said_from : ℕ → List (List ℕ) → List Said
said_from n [] = []
said_from n (part ∷ parts) = put n (said_in (strip_carriage_return part)) (said_from (n + 1) parts)

abbrev pub said_by : List ℕ → List Said
said_by text = said_from 1 (parts_of text)

abbrev pub numbers : List Said → List ℕ
numbers lines = map (λ line. line.0) lines

abbrev pub words : List Said → List (List Word)
words lines = map (λ line. line.1) lines

-- ---- lines by their first words

abbrev pub first_is : (Word → Bool) → Said → Bool
first_is test (n, []) = false
first_is test (n, w ∷ ws) = test w

abbrev pub of_kind : Word → List Said → List Said
of_kind kind lines = filter (first_is (λ w. bytes_eq w kind)) lines

abbrev pub behind_declarations : List Said → List Said
behind_declarations lines = filter (first_is (λ w. not (is_declaration w))) lines

-- The first word declares nothing, and is none of `together`, `apart` and `end`.
abbrev pub is_asking : Word → Bool
is_asking w = not (is_declaration w) && not (bytes_eq w (codes "together")) && not (bytes_eq w (codes "apart")) && not (bytes_eq w (codes "end"))

abbrev pub asking : List Said → List Said
asking lines = filter (first_is is_asking) lines

-- ---- declarations

-- the name that a line declares
abbrev pub declared : List Word → Word
declared (kind ∷ name ∷ ws) = name
declared ws = []

abbrev pub names_of : Word → List Said → List Word
names_of kind lines = map declared (words (of_kind kind lines))

abbrev pub place : List Word → Word → ℕ
place names name = unwrap_or (position_from (λ other. bytes_eq other name) 0 names) 0

-- A link's two nodes come in the order in which they were declared.
abbrev pub in_order : List Word → List Word → List Word
in_order nodes (kind ∷ a ∷ b ∷ []) = if nat_lt (place nodes a) (place nodes b) then kind ∷ a ∷ b ∷ [] else kind ∷ b ∷ a ∷ []
in_order nodes ws = ws

abbrev pub is_pair : (master slave : Word) → List Word → Bool
is_pair master slave (kind ∷ m ∷ s ∷ []) = bytes_eq kind (codes "allow") && bytes_eq m master && bytes_eq s slave
is_pair master slave ws = false

-- One `allow` line for each allowed pair, in the order in which the applications are declared.
abbrev pub pair_lines : (Word → Word → Bool) → List Word → List (List Word)
pair_lines is_there ids = flat_map (λ m. flat_map (λ s. if is_there m s then (codes "allow" ∷ m ∷ s ∷ []) ∷ [] else []) ids) ids

abbrev pub is_allowed_in : List Said → (master slave : Word) → Bool
is_allowed_in lines master slave = list_any (λ line. is_pair master slave line.1) lines

-- ---- the form of the whole text

-- First the declarations by kind (nodes, links, applications, pairs), then all other lines in their order.
abbrev pub form : List Said → List (List Word)
form lines =
    words (of_kind (codes "node") lines)
    ++ map (in_order (names_of (codes "node") lines)) (words (of_kind (codes "link") lines))
    ++ words (of_kind (codes "sae") lines)
    ++ pair_lines (is_allowed_in lines) (names_of (codes "sae") lines)
    ++ words (behind_declarations lines)
