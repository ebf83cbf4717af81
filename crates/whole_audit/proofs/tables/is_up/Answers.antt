use Rattle.std.proofs.Common.{◌≡◌, Bool, true, false, not, refl, ap, ◌∙◌}
use Rattle.ordered_set.specs.Entries.{has_entry}
use Rattle.whole_audit.specs.Claims.{is_up}
use Rattle.whole_audit.proofs.tables.is_up.Goals as goal

not_not : (b : Bool) → not (not b) ≡ b
not_not true = refl
not_not false = refl

pub returns : goal.returns
returns c before down = ap not (c.has.ensures ∙ ap (has_entry c.args.down.now) c.link_entry.ensures ∙ down c.args.link) ∙ not_not (is_up c.args.link before)
