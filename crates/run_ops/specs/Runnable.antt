-- Scenarios that can be run: everything that their lines name is declared and in range.
use Rattle.std.specs.Prelude.{◌≡◌, ◌<◌, ◌≤◌, ◌^◌, Bool, true, false, length, count_by}
use Rattle.std.specs.List.{All}
use Rattle.net_model.specs.declared.event.Event.TheVariants as events
use Rattle.net_model.specs.Site.{sender}
use Rattle.net_model.specs.Events.{is_lane}
use Rattle.net_model.specs.Action.{Action, Ok, TakeBlock, Ask}
use Rattle.declared_site.specs.declared.site.Site.{Site}
use Rattle.declared_site.specs.SiteOf.{IsDeclared, site_of}
use Rattle.run_types.specs.declared.end.End.TheVariants.{Low, High}
use Rattle.run_types.specs.declared.command.Command.{Command}
use Rattle.run_types.specs.declared.command.Command.TheVariants as commands
use Rattle.run_types.specs.declared.line.Line.{Line}
use Rattle.run_types.specs.declared.entry.Entry.{Entry}
use Rattle.run_types.specs.declared.entry.Entry.TheVariants as entries
use Rattle.run_types.specs.declared.scenario.Scenario.{Scenario}
use Rattle.run_model.specs.Turn.{HttpTexts, Turn, Unasked, Asked, turn_of}
use Rattle.run_model.specs.Lines.{node_at}
use Rattle.run_model.specs.Works.{may_stand_in_block}
use Rattle.run_ops.specs.Fitting.{is_fit}

abbrev pub IsFit : Site → Action → Type 0
IsFit d action = is_fit (site_of d) action ≡ true

-- If the turn asks for an action, the action fits the site.
abbrev pub IsTurnFor : Site → Turn → Type 0
IsTurnFor d (Unasked items) = Unit {0}
IsTurnFor d (Asked action items) = IsFit d action

-- Each action that the line asks for fits the site. A tick or an HTTP request only needs a declared node, since the
-- reader of requests decides which events the octets ask for. A settle names nothing.
abbrev pub IsCommandFor : Site → Command → Type 0
IsCommandFor d (commands.Bits link ends count) = IsFit d (TakeBlock (node_at (site_of d) link Low) link Ok) × IsFit d (TakeBlock (node_at (site_of d) link High) link Ok)
IsCommandFor d (commands.Tick v) = v < length d.nodes
IsCommandFor d (commands.Settle rounds) = Unit {0}
IsCommandFor d (commands.Http v octets) = v < length d.nodes
IsCommandFor d (commands.Ledger l) = (is_lane (site_of d) l ≡ true) × IsFit d (Ask (sender (site_of d) l) (events.Ledger l) Ok)
IsCommandFor d command = (http : HttpTexts) → IsTurnFor d (turn_of http (site_of d) command)

-- Workers may do this line of a block.
pub record IsBlockLineFor (d : Site) (line : Line) : Type 0 where
  pub may : may_stand_in_block line.command ≡ true
  pub is_for : IsCommandFor d line.command

abbrev pub IsEntryFor : Site → Entry → Type 0
IsEntryFor d (entries.Line line) = IsCommandFor d line.command
IsEntryFor d (entries.Block lines) = All (IsBlockLineFor d) lines

-- The line arms a disk with a fault.
abbrev pub is_arming : Command → Bool
is_arming (commands.Cut v call image) = true
is_arming (commands.Fail v call) = true
is_arming _ = false

-- The entry is a line that arms a disk. A block has no such line.
abbrev pub arms_a_disk : Entry → Bool
arms_a_disk (entries.Line line) = is_arming line.command
arms_a_disk (entries.Block lines) = false

pub record IsRunnable (s : Scenario) : Type 0 where
  pub site : IsDeclared s.site
  -- Each declared node has a line of its own, at which it is started.
  pub nodes : length s.node_lines ≡ length s.site.nodes
  pub entries : All (IsEntryFor s.site) s.entries
  pub arms : count_by arms_a_disk s.entries ≤ 2 ^ 32
