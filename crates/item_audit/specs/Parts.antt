-- Rule 7, as to one item: an end of a link, or a lane, is one that the line asks for.
use Rattle.std.specs.Prelude.{ℕ, ◌==◌, Bool, true, false, ◌&&◌}
use Rattle.declared_site.specs.declared.site.Site.{Site}
use Rattle.run_types.specs.declared.end.End.{End}
use Rattle.run_types.specs.declared.end.End.TheVariants as end
use Rattle.run_types.specs.declared.end.Ends.{Ends}
use Rattle.run_types.specs.declared.end.Ends.TheVariants as ends
use Rattle.run_types.specs.declared.command.Command.{Command}
use Rattle.run_types.specs.declared.command.Command.TheVariants as commands
use Rattle.run_types.specs.declared.item.Item.{Item}
use Rattle.run_types.specs.declared.item.Item.TheVariants as items
use Rattle.item_audit.specs.Sayings.{sender}

abbrev pub is_among : Ends → End → Bool
is_among ends.Both e = true
is_among ends.Low end.Low = true
is_among ends.Low end.High = false
is_among ends.High end.Low = false
is_among ends.High end.High = true

abbrev pub takes_at : (link : ℕ) → Ends → Item → Bool
takes_at k es (items.Took link e number) = (link == k) && is_among es e
takes_at k es (items.TookNone link e refusal) = (link == k) && is_among es e
takes_at k es _ = true

-- The frames of a node's tick, and what it lacks, are of lanes that leave the node.
abbrev pub puts_from : Site → (node : ℕ) → Item → Bool
puts_from site v (items.Short l used need received) = sender site l == v
puts_from site v (items.Sent l number offset length) = sender site l == v
puts_from site v (items.Unsent l offset cause) = sender site l == v
puts_from site v _ = true

abbrev pub is_part : Site → Command → Item → Bool
is_part site (commands.Bits link es count) item = takes_at link es item
is_part site (commands.Tick v) item = puts_from site v item
is_part site _ item = true
