use Rattle.std.proofs.Common.{◌≡◌, Option, ap, ◌∙◌}
use Rattle.run_types.specs.declared.command.Command.{Command}
use Rattle.whole_audit.specs.Lines.{command_at}
use Rattle.whole_audit.specs.Rests.{asked_if, behind, rest_of, owes_if}
use Rattle.whole_audit.specs.Kept.{rest_at}
use Rattle.whole_audit.proofs.tables.Tables.owes.Goals as goal

pub returns : goal.returns
returns c before kept =
    let rest : c.at-rest.result ≡ rest_of c.args.scenario.now c.args.told.now.number before =
    c.at-rest.ensures ∙ ap (λ (o : Option Command). rest_at c.args.self.now.rests c.args.told.now.number (asked_if o)) (c.command-command.ensures kept.spots) ∙ kept.rests c.args.told.now.number in
    c.owes_if.ensures
    ∙ ap (λ (o : Option Command). owes_if o c.behind.result) (c.command-command.ensures kept.spots)
    ∙ ap (owes_if (command_at c.args.scenario.now c.args.told.now.number)) (c.behind.ensures ∙ ap (behind c.args.told.now.item) rest)
