use Rattle.std.proofs.Common.{ℕ, ap, ◌∙◌}
use Rattle.ordered_set.specs.Entries.{has_entry}
use Rattle.whole_audit.specs.Kept.{key_entry}
use Rattle.whole_audit.proofs.handings.Handings.was_handed_to.Goals as goal

pub returns : goal.returns
returns c s before handed =
    c.has.ensures
    ∙ ap (has_entry c.args.self.now.to) (c.key_entry.ensures ∙ ap (λ (p : ℕ). key_entry c.args.name.now p) (c.from.ensures ∙ c.get.ensures.number))
    ∙ handed c.args.name.now c.args.sae
