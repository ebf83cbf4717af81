-- Lines that run as a single turn.
use Rattle.std.proofs.Common.{◌≡◌, ℕ, true, List, refl, ap, subst, ◌∙◌}
use Rattle.net_model.specs.declared.event.Event.{Event}
use Rattle.declared_site.specs.declared.site.Site.{Site as Declared}
use Rattle.declared_site.specs.SiteOf.{site_of}
use Rattle.net_model.specs.Site.{Site}
use Rattle.net_model.specs.Action.{Outcome, Ok, Ask}
use Rattle.run_types.specs.declared.command.Command.{Command}
use Rattle.run_types.specs.declared.command.Command.TheVariants as commands
use Rattle.run_types.specs.declared.item.Item.{Item}
use Rattle.run_model.specs.Script.{asks}
use Rattle.run_model.specs.Turn.{HttpTexts, turn_of, at_node}
use Rattle.run_model.specs.Lines.{script_of, script_of_turn}
use Rattle.run_ops.specs.Runnable.{IsFit, IsTurnFor, IsCommandFor}
use Rattle.run_lines.specs.Commands.{any_texts, acts_once}

pub turn_fits : (d : Declared) (command : Command) → acts_once command ≡ true → IsCommandFor d command → IsTurnFor d (turn_of any_texts (site_of d) command)
turn_fits d (commands.Bits link at count) once h = cc
turn_fits d (commands.Tick v) once h = cc
turn_fits d (commands.Settle rounds) once h = cc
turn_fits d (commands.Ledger l) once h = cc
turn_fits d (commands.Pass l number) once h = cc
turn_fits d (commands.Flip l number bit) once h = cc
turn_fits d (commands.Forge l octets) once h = cc
turn_fits d (commands.Http v octets) once h = cc
turn_fits d command once h = h any_texts

turn_script : (http : HttpTexts) (site : Site) (command : Command) → acts_once command ≡ true → script_of http site command ≡ script_of_turn (turn_of http site command)
turn_script http site (commands.Bits link at count) once = cc
turn_script http site (commands.Tick v) once = cc
turn_script http site (commands.Settle rounds) once = cc
turn_script http site (commands.Ledger l) once = cc
turn_script http site command once = refl

pub asked_fits : (d : Declared) (command : Command) (v : ℕ) (event : Event) (items : Outcome → List Item) → IsTurnFor d (turn_of any_texts (site_of d) command) →
    ((http : HttpTexts) → turn_of http (site_of d) command ≡ at_node v event items) → IsFit d (Ask v event Ok)
asked_fits d command v event items h turn = subst (IsTurnFor d) (turn any_texts) h

pub asked_script : (http : HttpTexts) (site : Site) (command : Command) (v : ℕ) (event : Event) (items : Outcome → List Item) → acts_once command ≡ true →
    ((http : HttpTexts) → turn_of http site command ≡ at_node v event items) → script_of http site command ≡ asks (Ask v event Ok) items
asked_script http site command v event items once turn = turn_script http site command once ∙ ap script_of_turn (turn http)
