use Rattle.std.proofs.Common.{ap, ◌∙◌}
use Rattle.ordered_set.specs.Entries.{has_entry}
use Rattle.relay_core.proofs.Searched.{entry_tells}
use Rattle.relay_core.proofs.index_entries.is_in.Goals as goal

pub returns-then-place-count : goal.returns-then-place-count
returns-then-place-count c =
    c.has.ensures ∙ ap (has_entry c.args.index.now) c.entry.ensures
    ∙ entry_tells c.args.me c.args.acked.now c.args.facts.now c.args.index.now c.args.count c.args.group.now c.args.place c.requires c.if-place-count.true
