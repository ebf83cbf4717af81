use Rattle.std.proofs.Common.{sym, subst}
use Rattle.std.specs.Prelude.{Option}
use Rattle.std.specs.Option.{option_to_list}
use Rattle.run_types.specs.declared.item.Item.{Item}
use Rattle.run_model.specs.Play.{numbered}
use Rattle.run_model.specs.Headline.{given_to, Took, report_pieces}
use Rattle.run_lines.proofs.Writing.{none_took}
use Rattle.run_lines.proofs.report.write_some.Goals as goal

pub returns-in-None-clause-wrote : goal.returns-in-None-clause-wrote
returns-in-None-clause-wrote g c =
    let taken = given_to g.W.Sink.taken g.W.Sink.pieces c.args.sink.now in
    subst (λ (item : Option Item). Took taken taken (report_pieces c.args.site.now.nodes (numbered c.args.number (option_to_list item)))) (sym c.in-None.is)
    (none_took c.args.site.now.nodes c.args.number taken)
