use Rattle.std.proofs.Common.{◌||◌, ℕ, List, ◌∙◌, ap}
use Rattle.std.specs.Str.{bytes_eq}
use Rattle.ordered_set.specs.Entries.{has_entry}
use Rattle.ordered_set.proofs.Between.{has_more}
use Rattle.ordered_set.proofs.entries.Entries.insert.Goals as goal

pub returns-clause-ok : goal.returns-clause-ok
returns-clause-ok c e =
    has_more c.self.inside.entries c.insert.new.self c.args.entry e c.in_ok-insert.ensures.updates
    ∙ ap (λ (es : List (List ℕ)). bytes_eq c.args.entry e || has_entry es e) c.self.view_is
