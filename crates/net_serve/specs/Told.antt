-- The pieces of a served scenario: the report of its lines, then, if all connections were served, the number of connections.
use Rattle.std.specs.Prelude.{◌≡◌, ℕ, List, [], ◌∷◌, ◌++◌}
use Rattle.run_types.specs.Texts.{served_text}
use Rattle.run_model.specs.Play.{Played, Whole, ForgedAt}
use Rattle.run_model.specs.Headline.{Stop, Done, ForgedMatch, ListenFault, WriteFault, Memory, Given, Took, TookFirst, report_pieces, after_all}

-- the report of the lines and, if all lines were done, the line with the number of connections
abbrev pub serve_pieces : List (List ℕ) → Played → (connections : ℕ) → List (List ℕ)
serve_pieces nodes p connections = report_pieces nodes p.items ++ after_all p.ending (served_text connections ∷ [])

-- On `Done` the sink took exactly the report of the lines and the last line. At a forged match it took the report up to it, and if a port or listener failed,
-- the report of all lines. Otherwise it took the first of all pieces, and perhaps a part of one more.
abbrev pub IsServeTold : Stop → List (List ℕ) → Played → (connections : ℕ) → (old new : Given) → Type 0
IsServeTold Done nodes p connections old new = (p.ending ≡ Whole) × Took old new (report_pieces nodes p.items ++ served_text connections ∷ [])
IsServeTold (ForgedMatch line) nodes p connections old new = (p.ending ≡ ForgedAt line) × Took old new (report_pieces nodes p.items)
IsServeTold ListenFault nodes p connections old new = (p.ending ≡ Whole) × Took old new (report_pieces nodes p.items)
IsServeTold WriteFault nodes p connections old new = TookFirst old new (serve_pieces nodes p connections)
IsServeTold Memory nodes p connections old new = TookFirst old new (serve_pieces nodes p connections)
