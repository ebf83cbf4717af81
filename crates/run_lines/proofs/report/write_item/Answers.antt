use Rattle.run_lines.proofs.Writing.{one_took, one_first}
use Rattle.std.proofs.Common.{[], ◌∷◌, ◌∙◌, refl}
use Rattle.run_model.specs.Play.{numbered}
use Rattle.run_model.specs.Headline.{given_to, report_pieces}
use Rattle.run_lines.proofs.Taking.{first_none}
use Rattle.run_types.specs.declared.item.NumberedItem.{NumberedItem}
use Rattle.run_types.specs.Texts.{line_text}
use Rattle.run_lines.specs.Reporting.{IsItemLine}
use Rattle.run_lines.proofs.Lines.{one_lined, one_stopped}
use Rattle.run_lines.proofs.report.write_item.Goals as goal

pub returns-in_default-clause-wrote : goal.returns-in_default-clause-wrote
returns-in_default-clause-wrote g c =
    first_none (given_to g.W.Sink.taken g.W.Sink.pieces c.args.sink.now) (report_pieces c.args.site.now.nodes (numbered c.args.number (c.args.item.now ∷ [])))

pub returns-in-Ok-write_all-clause-wrote : goal.returns-in-Ok-write_all-clause-wrote
returns-in-Ok-write_all-clause-wrote g c =
    one_took c.args.site.now.nodes c.args.number c.args.item.now c.in-Ok.text c.as_slice.result.now _ _ c.as_slice.ensures c.in-Ok.ensures c.in-Ok-write_all.ensures.bytes
    c.in-Ok-write_all.ensures.piece

pub returns-clause-wrote : goal.returns-clause-wrote
returns-clause-wrote g c =
    one_first c.args.site.now.nodes c.args.number c.args.item.now c.in-Ok.text c.as_slice.result.now _ _ c.as_slice.ensures c.in-Ok.ensures c.in-Err.ensures.bytes
    c.in-Err.ensures.piece

pub returns-in-Ok-write_all-clause-lined : goal.returns-in-Ok-write_all-clause-lined
returns-in-Ok-write_all-clause-lined g c =
    let told : NumberedItem = record { number = c.args.number; item = c.args.item.now } in
    one_lined g.W.Sink.taken g.W.Sink.pieces (IsItemLine c.args.site.now.nodes) _ _ c.as_slice.result.now (line_text c.args.site.now.nodes told) (c.as_slice.ensures ∙ c.in-Ok.ensures) (told, refl)
    c.in-Ok-write_all.ensures.bytes c.in-Ok-write_all.ensures.piece

pub returns-clause-lined : goal.returns-clause-lined
returns-clause-lined g c =
    let told : NumberedItem = record { number = c.args.number; item = c.args.item.now } in
    one_stopped g.W.Sink.taken g.W.Sink.pieces (IsItemLine c.args.site.now.nodes) _ _ c.as_slice.result.now (line_text c.args.site.now.nodes told) (c.as_slice.ensures ∙ c.in-Ok.ensures) (told, refl)
    c.in-Err.ensures.bytes c.in-Err.ensures.piece
