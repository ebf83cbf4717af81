-- The reach of each row: the most leading octets that a text shares with a text of the row. A row begins with a space and ends with LF.
use Rattle.std.specs.Prelude.{ℕ, zero, suc, ◌==◌, if◌then◌else◌, List, [], ◌∷◌, length}
use lib.Chars.{codes}
use Rattle.report_parser.specs.declared.part.Part.{Part}
use Rattle.report_parser.specs.declared.part.Part.TheVariants as parts
use Rattle.report_parser.specs.Runs.{end_reach}
use Rattle.report_parser.specs.Walk.{space_reach, parts_reach, row_reach, farthest}

-- ---- refusals, and results of frames

abbrev pub bare_refusals : (nodes : List (List ℕ)) → List ℕ → List ℕ
bare_refusals nodes text =
    row_reach nodes (codes " down") [] end_reach text
    ∷ row_reach nodes (codes " stopped") [] end_reach text
    ∷ row_reach nodes (codes " memory") [] end_reach text
    ∷ row_reach nodes (codes " link-full 1024") [] end_reach text
    ∷ row_reach nodes (codes " no-bits") [] end_reach text
    ∷ row_reach nodes (codes " device-fault") [] end_reach text
    ∷ row_reach nodes (codes " not-allowed") [] end_reach text
    ∷ row_reach nodes (codes " no-route") [] end_reach text
    ∷ row_reach nodes (codes " pool-full 4096") [] end_reach text
    ∷ row_reach nodes (codes " unknown-stream") [] end_reach text
    ∷ row_reach nodes (codes " no-random") [] end_reach text
    ∷ []

unfoldable pub bare_reach : (nodes : List (List ℕ)) → List ℕ → ℕ
bare_reach nodes text = farthest text (bare_refusals nodes text)

abbrev pub counted_refusals : (nodes : List (List ℕ)) → List ℕ → List ℕ
counted_refusals nodes text =
    row_reach nodes (codes " journal-full") (parts.Long ∷ parts.Long ∷ []) end_reach text
    ∷ row_reach nodes (codes " no-frame") (parts.Long ∷ []) end_reach text
    ∷ row_reach nodes (codes " no-bit") (parts.Number ∷ []) end_reach text
    ∷ row_reach nodes (codes " bad-frame") (parts.Number ∷ []) end_reach text
    ∷ row_reach nodes (codes " wrong-lane") (parts.Byte ∷ parts.Byte ∷ []) end_reach text
    ∷ row_reach nodes (codes " no-bits") (parts.Long ∷ []) end_reach text
    ∷ row_reach nodes (codes " bad-tag") (parts.Tag ∷ parts.Tag ∷ []) end_reach text
    ∷ row_reach nodes (codes " few") (parts.Number ∷ []) end_reach text
    ∷ row_reach nodes (codes " unknown") (parts.Short ∷ []) end_reach text
    ∷ row_reach nodes (codes " repeated") (parts.Short ∷ []) end_reach text
    ∷ row_reach nodes (codes " handed") (parts.Short ∷ []) end_reach text
    ∷ []

unfoldable pub counted_reach : (nodes : List (List ℕ)) → List ℕ → ℕ
counted_reach nodes text = farthest text (counted_refusals nodes text)

abbrev pub refusals : (nodes : List (List ℕ)) → List ℕ → List ℕ
refusals nodes text = bare_reach nodes text ∷ counted_reach nodes text ∷ []

unfoldable pub refusal_reach : (nodes : List (List ℕ)) → List ℕ → ℕ
refusal_reach nodes text = farthest text (refusals nodes text)

abbrev pub results : (nodes : List (List ℕ)) → List ℕ → List ℕ
results nodes text =
    row_reach nodes (codes " taken") (parts.Kind ∷ parts.Name ∷ []) end_reach text
    ∷ row_reach nodes (codes " again") (parts.Kind ∷ parts.Name ∷ []) end_reach text
    ∷ refusal_reach nodes text
    ∷ []

unfoldable pub result_reach : (nodes : List (List ℕ)) → List ℕ → ℕ
result_reach nodes text = farthest text (results nodes text)

-- ---- keys and bodies

-- the reach of at most `count` keys, each a name and its octets, and the end of the line
abbrev pub keys_from : (nodes : List (List ℕ)) → (count : ℕ) → List ℕ → ℕ
keys_from nodes zero text = end_reach text
keys_from nodes (suc count) text = if end_reach text == 1 then 1 else parts_reach nodes (parts.Name ∷ parts.Octets ∷ []) (keys_from nodes count) text

unfoldable pub keys_reach : (nodes : List (List ℕ)) → List ℕ → ℕ
keys_reach nodes text = keys_from nodes (length text) text

-- the reach of a space and any text behind it
abbrev pub body_reach : List ℕ → ℕ
body_reach text = space_reach length text

-- ---- all rows

abbrev pub ledger_parts : List Part
ledger_parts = parts.Link ∷ parts.Way ∷ parts.Received ∷ parts.Long ∷ parts.Unused ∷ parts.Long ∷ parts.Spent ∷ parts.Long ∷ parts.Burnt ∷ parts.Long ∷ []

abbrev pub of_links : (nodes : List (List ℕ)) → List ℕ → List ℕ
of_links nodes text =
    row_reach nodes (codes " bits") (parts.Link ∷ parts.End ∷ parts.Number ∷ []) end_reach text
    ∷ row_reach nodes (codes " bits") (parts.Link ∷ parts.End ∷ []) (refusal_reach nodes) text
    ∷ row_reach nodes (codes " link") (parts.Link ∷ parts.Up ∷ []) end_reach text
    ∷ []

unfoldable pub link_rows : (nodes : List (List ℕ)) → List ℕ → ℕ
link_rows nodes text = farthest text (of_links nodes text)

abbrev pub of_lanes : (nodes : List (List ℕ)) → List ℕ → List ℕ
of_lanes nodes text =
    row_reach nodes (codes " short") (parts.Link ∷ parts.Way ∷ parts.Long ∷ parts.Long ∷ parts.Long ∷ []) end_reach text
    ∷ row_reach nodes (codes " sent") (parts.Link ∷ parts.Way ∷ parts.Long ∷ parts.Long ∷ parts.Short ∷ []) end_reach text
    ∷ row_reach nodes (codes " unsent") (parts.Link ∷ parts.Way ∷ parts.Long ∷ parts.Cause ∷ []) end_reach text
    ∷ row_reach nodes (codes " pass") (parts.Link ∷ parts.Way ∷ parts.Number ∷ []) (result_reach nodes) text
    ∷ row_reach nodes (codes " flip") (parts.Link ∷ parts.Way ∷ parts.Number ∷ parts.Number ∷ []) (result_reach nodes) text
    ∷ row_reach nodes (codes " forge") (parts.Link ∷ parts.Way ∷ []) (result_reach nodes) text
    ∷ row_reach nodes (codes " ledger") ledger_parts end_reach text
    ∷ row_reach nodes (codes " ledger") (parts.Link ∷ parts.Way ∷ []) (refusal_reach nodes) text
    ∷ []

unfoldable pub lane_rows : (nodes : List (List ℕ)) → List ℕ → ℕ
lane_rows nodes text = farthest text (of_lanes nodes text)

abbrev pub of_keys : (nodes : List (List ℕ)) → List ℕ → List ℕ
of_keys nodes text =
    row_reach nodes (codes " made") (parts.Short ∷ parts.Name ∷ []) end_reach text
    ∷ row_reach nodes (codes " keys") [] (keys_reach nodes) text
    ∷ row_reach nodes (codes " status") (parts.Number ∷ []) end_reach text
    ∷ row_reach nodes (codes " OPEN_CONNECT") (parts.Byte ∷ []) end_reach text
    ∷ row_reach nodes (codes " OPEN_CONNECT") (parts.Byte ∷ parts.Name ∷ []) end_reach text
    ∷ row_reach nodes (codes " GET_KEY") (parts.Byte ∷ []) end_reach text
    ∷ row_reach nodes (codes " GET_KEY") (parts.Byte ∷ parts.Number ∷ parts.Octets ∷ []) end_reach text
    ∷ row_reach nodes (codes " CLOSE") (parts.Byte ∷ []) end_reach text
    ∷ []

unfoldable pub key_rows : (nodes : List (List ℕ)) → List ℕ → ℕ
key_rows nodes text = farthest text (of_keys nodes text)

-- the reaches of the rows with the name of a node
abbrev pub of_nodes : (nodes : List (List ℕ)) → List ℕ → List ℕ
of_nodes nodes text =
    row_reach nodes (codes " tick") (parts.Node ∷ parts.New ∷ parts.Number ∷ parts.Again ∷ parts.Number ∷ []) end_reach text
    ∷ row_reach nodes (codes " tick") (parts.Node ∷ []) (refusal_reach nodes) text
    ∷ row_reach nodes (codes " idle") (parts.Node ∷ []) end_reach text
    ∷ row_reach nodes (codes " http") (parts.Node ∷ parts.Short ∷ []) body_reach text
    ∷ row_reach nodes (codes " show") (parts.Node ∷ parts.Name ∷ parts.Absent ∷ []) end_reach text
    ∷ row_reach nodes (codes " show") (parts.Node ∷ parts.Name ∷ parts.State ∷ parts.Bytes ∷ []) end_reach text
    ∷ row_reach nodes (codes " show") (parts.Node ∷ parts.Name ∷ []) (refusal_reach nodes) text
    ∷ []

-- The rows with the name of a node count only if a node is declared.
unfoldable pub node_rows : (nodes : List (List ℕ)) → List ℕ → ℕ
node_rows nodes text = if length nodes == 0 then 0 else farthest text (of_nodes nodes text)

abbrev pub of_states : (nodes : List (List ℕ)) → List ℕ → List ℕ
of_states nodes text =
    row_reach nodes (codes " crashed") [] end_reach text
    ∷ row_reach nodes (codes " started") [] end_reach text
    ∷ row_reach nodes (codes " up") [] end_reach text
    ∷ row_reach nodes (codes " foreign") (parts.Long ∷ []) end_reach text
    ∷ row_reach nodes (codes " armed") [] end_reach text
    ∷ refusal_reach nodes text
    ∷ []

unfoldable pub state_rows : (nodes : List (List ℕ)) → List ℕ → ℕ
state_rows nodes text = farthest text (of_states nodes text)

abbrev pub groups : (nodes : List (List ℕ)) → List ℕ → List ℕ
groups nodes text = link_rows nodes text ∷ lane_rows nodes text ∷ key_rows nodes text ∷ node_rows nodes text ∷ state_rows nodes text ∷ []

unfoldable pub item_reach : (nodes : List (List ℕ)) → List ℕ → ℕ
item_reach nodes text = farthest text (groups nodes text)
