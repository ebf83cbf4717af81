use Rattle.std.proofs.Common.{◌≡◌, List, [], sym, subst, ◌∙◌, append-nil}
use Rattle.std.proofs.lemmas.Result.{err_from_is_err_and}
use Rattle.run_types.specs.declared.item.NumberedItem.{NumberedItem}
use Rattle.scenario_text.specs.Text.{parts_of}
use Rattle.audit_text.specs.Input.{IsNoLine, AreLinesOf, IsFirstNoLine}
use Rattle.audit_text.proofs.Reports.{none_there, nothing_there, is_empty, refused_as}
use Rattle.audit_text.proofs.report.read_report.Goals as goal

pub returns-in_err-told : goal.returns-in_err-told
returns-in_err-told c =
    let cut = c.in-Some.ensures in
    let err = err_from_is_err_and c.from_residual.result c.from_residual.ensures.1 in
    rw (err.1, err.2)
    (refused_as (λ n. IsNoLine c.args.site.now c.loop-line.left cut.0 × (n ≡ c.loop-line.number)) (λ n. IsFirstNoLine c.args.site.now c.args.left c.args.first (parts_of c.args.text.now) n) c.in_err-told.field-0.0
    (λ n is. c.loop-line.invariant.none n (none_there c.args.site.now c.loop-line.left c.loop-line.number c.loop-line.rest.now cut.0 c.in-Some.behind.now n cut.2 is)) (c.in_err-told.ensures cut.0 cut.1))

pub returns-then-is_empty : goal.returns-then-is_empty
returns-then-is_empty c =
    subst (λ (items : List NumberedItem). AreLinesOf c.args.site.now c.args.left (parts_of c.args.text.now) items) (append-nil c.loop-line.items)
    (c.loop-line.invariant.are [] (nothing_there c.args.site.now c.loop-line.left c.loop-line.rest.now c.in_default.ensures (is_empty c.loop-line.rest.now (sym c.is_empty.ensures ∙ c.if-is_empty.true))))
