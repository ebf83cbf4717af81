use Rattle.std.proofs.Common.{sym, ap, ◌∙◌}
use Rattle.net_model.specs.Window.{complete}
use Rattle.kme_node.proofs.Noted.{none_noted, no_placings}
use Rattle.kme_node.proofs.step_effects.note_event.Goals as goal

pub returns-in_default : goal.returns-in_default
returns-in_default c =
    sym (ap (complete c.args.known.now.acked c.args.window.now.volatile) (no_placings c.args.event.now c.in_default.not-Note) ∙ none_noted c.args.known.now.acked c.args.window.now.volatile)
