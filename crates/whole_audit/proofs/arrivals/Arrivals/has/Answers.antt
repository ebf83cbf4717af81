use Rattle.std.proofs.Common.{ap, ◌∙◌, ℕ}
use Rattle.ordered_set.specs.Entries.{has_entry}
use Rattle.whole_audit.specs.Kept.{key_entry}
use Rattle.whole_audit.proofs.arrivals.Arrivals.has.Goals as goal

pub returns : goal.returns
returns c before arrived =
    c.has.ensures
    ∙ ap (has_entry c.args.self.now.came) (c.key_entry.ensures ∙ ap (λ (p : ℕ). key_entry c.args.name.now p) c.lane_place.ensures)
    ∙ arrived c.args.lane.now c.args.name.now
