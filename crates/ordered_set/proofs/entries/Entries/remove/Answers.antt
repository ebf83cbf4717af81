use Rattle.std.proofs.Common.{false, if◌then◌else◌, List, ℕ, ◌∙◌, ap}
use Rattle.std.specs.Str.{bytes_eq}
use Rattle.ordered_set.specs.Entries.{has_entry}
use Rattle.ordered_set.proofs.Between.{has_less}
use Rattle.ordered_set.proofs.entries.Entries.remove.Goals as goal

pub returns : goal.returns
returns c e =
    has_less c.self.inside.entries c.remove.new.self c.args.entry e c.remove.ensures.updates
    ∙ ap (λ (es : List (List ℕ)). if bytes_eq c.args.entry e then false else has_entry es e) c.self.view_is
