use Rattle.std.proofs.Common.{◌≡◌, Bool, true, false, not, refl, ap, ◌∙◌}
use Rattle.ordered_set.specs.Entries.{has_entry}
use Rattle.whole_audit.specs.Managers.{is_node_up}
use Rattle.whole_audit.proofs.managers.is_node_up.Goals as goal

not_not : (b : Bool) → not (not b) ≡ b
not_not true = refl
not_not false = refl

pub returns : goal.returns
returns c s before down = ap not (c.has.ensures ∙ ap (has_entry c.args.down.now) c.node_entry.ensures ∙ down c.args.node) ∙ not_not (is_node_up s c.args.node before)
