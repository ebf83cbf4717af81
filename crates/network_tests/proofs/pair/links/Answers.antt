use Rattle.std.proofs.Common.{sym, ap, ◌∙◌}
use Rattle.route_table.specs.Table.{Table, ends_of}
use Rattle.network_tests.proofs.Within.{apart_of_none}
use Rattle.network_tests.proofs.pair.links.Goals as goal

pub add_link-requires-clause-apart : goal.add_link-requires-clause-apart
add_link-requires-clause-apart c = λ link is.
    apart_of_none link _ _ (ap (λ (t : Table). ends_of t link) (sym c.new-routes.ensures) ∙ is)
