-- The rules that an item keeps or breaks by what its line asks for alone.
use Rattle.std.specs.Prelude.{true, Option, Some, None}
use Rattle.declared_site.specs.declared.site.Site.{Site}
use Rattle.run_types.specs.declared.command.Command.{Command}
use Rattle.run_types.specs.declared.item.Item.{Item}
use Rattle.item_audit.specs.declared.asked.Asked.{Asked}
use Rattle.item_audit.specs.Parts.{is_part}
use Rattle.item_audit.specs.Making.{makes}
use Rattle.item_audit.specs.Handing.{hands}
use Rattle.item_audit.specs.Passing.{hears}
use Rattle.item_audit.specs.Lengths.{has_length}
use Rattle.item_audit.specs.Streaming.{streams}
use Rattle.item_audit.specs.Naming.{responds, ticks, shows, names_lane}

abbrev pub nothing_asked : Asked
nothing_asked = record { parts = true; making = true; handing = true; passing = true; lengths = true; streaming = true; responding = true; ticking = true; showing = true; naming = true }

abbrev pub asks : Site → Command → Item → Asked
asks site command item = record {
  parts = is_part site command item;
  making = makes site.entitlements command item;
  handing = hands site.entitlements command item;
  passing = hears command item;
  lengths = has_length item;
  streaming = streams site.entitlements command item;
  responding = responds command item;
  ticking = ticks command item;
  showing = shows command item;
  naming = names_lane command item;
}

-- which of these rules the item keeps
abbrev pub asked_at : Site → Option Command → Item → Asked
asked_at site None item = nothing_asked
asked_at site (Some command) item = asks site command item
