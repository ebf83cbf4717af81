-- The reach of parts in order, each with a space before it. The reach of what follows them is given as a function, `behind`.
use Rattle.std.specs.Prelude.{ℕ, ◌+◌, min, ◌==◌, if◌then◌else◌, List, [], ◌∷◌, length, take, drop}
use Rattle.report_parser.specs.declared.part.Part.{Part}
use Rattle.report_parser.specs.declared.part.Reach.{Reach}
use Rattle.report_parser.specs.Runs.{common, greatest, plain_len}
use Rattle.report_parser.specs.Fits.{fit, is_text}

-- The reach goes on behind a word that is a text of the part. At any other word it ends where the word fits no text of the part.
unfoldable pub part_reach : (nodes : List (List ℕ)) → Part → (behind : List ℕ → ℕ) → List ℕ → ℕ
part_reach nodes part behind text =
    if is_text nodes part (take (plain_len text) text) then plain_len text + behind (drop (plain_len text) text)
    else min (fit nodes part (take (plain_len text) text)) (plain_len text)

abbrev pub space_reach : (behind : List ℕ → ℕ) → List ℕ → ℕ
space_reach behind [] = 0
space_reach behind (b ∷ bs) = if b == 32 then 1 + behind bs else 0

abbrev pub parts_reach : (nodes : List (List ℕ)) → List Part → (behind : List ℕ → ℕ) → List ℕ → ℕ
parts_reach nodes [] behind text = behind text
parts_reach nodes (p ∷ ps) behind text = space_reach (part_reach nodes p (parts_reach nodes ps behind)) text

-- the reach of the octets `start`, of parts behind them, and of what follows
unfoldable pub row_reach : (nodes : List (List ℕ)) → (start : List ℕ) → List Part → (behind : List ℕ → ℕ) → List ℕ → ℕ
row_reach nodes start ps behind text =
    if common start text == length start then length start + parts_reach nodes ps behind (drop (length start) text) else common start text

-- If a walk has passed all its parts, the reach goes on behind them.
abbrev pub go_on : Reach → (behind : List ℕ → ℕ) → List ℕ → ℕ
go_on reach behind text = if reach.whole then reach.octets + behind (drop reach.octets text) else reach.octets

-- the greatest of several rows' reaches, at most the text's length
abbrev pub farthest : List ℕ → List ℕ → ℕ
farthest text reaches = min (greatest reaches) (length text)
