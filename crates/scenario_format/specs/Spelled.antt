-- How a whole scenario is spelled, as lines of words.
use Rattle.std.specs.Prelude.{ℕ, Bool, false, List, [], ◌∷◌, ◌++◌, map, Option, Some, None}
use Rattle.std.specs.List.{flat_map}
use lib.Chars.{codes}
use Rattle.sae_entitlements.specs.Grants.{Sae, Grants, find_sae, is_allowed}
use Rattle.declared_site.specs.declared.site.Site.{Site}
use Rattle.run_types.specs.declared.command.Command.{Command}
use Rattle.run_types.specs.declared.line.Line.{Line}
use Rattle.run_types.specs.declared.entry.Entry.{Entry}
use Rattle.run_types.specs.declared.entry.Entry.TheVariants as entries
use Rattle.run_types.specs.declared.scenario.Scenario.{Scenario}
use Rattle.scenario_text.specs.Words.{Word}
use Rattle.scenario_format.specs.Spelling.{node_word, keyword, arguments}
use Rattle.scenario_format.specs.Form.{pair_lines}

-- ---- declarations

abbrev pub node_line : Word → List Word
node_line name = codes "node" ∷ name ∷ []

-- the line of a link, where the table has one
abbrev pub link_lines : Site → Option (ℕ × ℕ) → List (List Word)
link_lines site None = []
link_lines site (Some ends) = (codes "link" ∷ node_word site ends.0 ∷ node_word site ends.1 ∷ []) ∷ []

abbrev pub sae_line : Site → Sae → List Word
sae_line site sae = codes "sae" ∷ sae.id ∷ node_word site sae.home ∷ []

abbrev pub allowed_at : Grants → (master slave : Option ℕ) → Bool
allowed_at g None slave = false
allowed_at g (Some master) None = false
allowed_at g (Some master) (Some slave) = is_allowed g master slave

-- The applications with these IDs are an allowed pair.
abbrev pub may : Grants → (master slave : Word) → Bool
may g master slave = allowed_at g (find_sae g.saes master) (find_sae g.saes slave)

abbrev pub site_lines : Site → List (List Word)
site_lines site =
    map node_line site.nodes
    ++ flat_map (link_lines site) site.routes
    ++ map (sae_line site) site.entitlements.saes
    ++ pair_lines (may site.entitlements) (map (λ (sae : Sae). sae.id) site.entitlements.saes)

-- ---- commands and blocks

abbrev pub command_words : Site → Command → List Word
command_words site c = keyword c ∷ arguments site c

abbrev pub line_words : Site → List Line → List (List Word)
line_words site lines = map (λ (line : Line). command_words site line.command) lines

abbrev pub entry_lines : Site → Entry → List (List Word)
entry_lines site (entries.Line line) = line_words site (line ∷ [])
entry_lines site (entries.Block lines) = (codes "together" ∷ []) ∷ line_words site lines ++ (codes "apart" ∷ []) ∷ []

abbrev pub numbers_in : Entry → List ℕ
numbers_in (entries.Line line) = line.number ∷ []
numbers_in (entries.Block lines) = map (λ (line : Line). line.number) lines

-- ---- the whole scenario

abbrev pub lines_of : Scenario → List (List Word)
lines_of s = site_lines s.site ++ flat_map (entry_lines s.site) s.entries ++ (codes "end" ∷ []) ∷ []
