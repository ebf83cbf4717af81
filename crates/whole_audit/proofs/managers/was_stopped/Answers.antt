use Rattle.std.proofs.Common.{ap, ◌∙◌}
use Rattle.ordered_set.specs.Entries.{has_entry}
use Rattle.whole_audit.proofs.managers.was_stopped.Goals as goal

pub returns : goal.returns
returns c s before stopped = c.has.ensures ∙ ap (has_entry c.args.stopped.now) c.node_entry.ensures ∙ stopped c.args.node
