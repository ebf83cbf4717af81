-- The lines that ask for one event of one manager.
use Rattle.std.specs.Prelude.{◌≡◌, ◌||◌, ℕ, Bool, true, false, List, [], ◌∷◌}
use Rattle.run_types.specs.declared.command.Command.{Command}
use Rattle.run_types.specs.declared.command.Command.TheVariants as commands
use Rattle.declared_site.specs.declared.site.Site.{Site}
use Rattle.declared_site.specs.SiteOf.{site_of}
use Rattle.run_model.specs.Turn.{HttpTexts, turn_of, at_node, placed_in}
use Rattle.run_ops.specs.declared.asked.Asked.{Asked}
use Rattle.run_ops.specs.Reported.{reported}

-- The line asks this node's manager for this event, and the reply is reported in this way. This holds for all texts of
-- HTTP.
abbrev pub Asks : Site → Command → Asked → Type 0
Asks site command asked = (http : HttpTexts) → turn_of http (site_of site) command ≡ at_node asked.node asked.event (reported asked.reporting)

-- The line has keys or chunks made.
abbrev pub makes : Command → Bool
makes (commands.Fill master slave bits count) = true
makes (commands.FillGroup master bits count slaves) = true
makes (commands.Feed stream count) = true
makes _ = false

-- In the line, an application asks for keys or for their number.
abbrev pub hands : Command → Bool
hands (commands.Enc node master slave count bits) = true
hands (commands.EncGroup node master count bits slaves) = true
hands (commands.Dec node slave master names) = true
hands (commands.Status node master slave) = true
hands _ = false

-- The line plans a tick, calls on a stream or shows a key.
abbrev pub looks : Command → Bool
looks (commands.Tick node) = true
looks (commands.Stream node call) = true
looks (commands.Show node name) = true
looks _ = false

abbrev pub asks_an_event : Command → Bool
asks_an_event command = makes command || hands command || looks command

-- The list with its first number inserted at its place among the others.
abbrev pub first_placed : List ℕ → List ℕ
first_placed [] = []
first_placed (s ∷ ss) = placed_in s ss
