use Rattle.std.proofs.Common.{◌≡◌, true, ◌∙◌}
use Rattle.std.proofs.lemmas.Slice.Eq.{bytes_eq-Decides}
use Rattle.std.proofs.lemmas.Result.{err_from_is_err_and}
use Rattle.report_grammar.proofs.LineLaws.{reads_first, has_text, reads_nothing}
use Rattle.report_grammar.proofs.line.told_in.Goals as goal

pub returns-in_err-told-clause-read : goal.returns-in_err-told-clause-read
returns-in_err-told-clause-read c =
    let err = err_from_is_err_and c.from_residual.result c.from_residual.ensures.1 in
    rw (err.1, err.2)
    (λ told h e. reads_nothing c.args.nodes.now c.args.line.now c.in_err-told.field-0.0 c.in_err-told.ensures told h e)

pub returns-then-eq-clause-read : goal.returns-then-eq-clause-read
returns-then-eq-clause-read c = λ told h e. reads_first c.args.nodes.now c.args.line.now c.in_ok-told.told told c.in_ok-told.ensures h e

pub returns-else-eq-clause-read : goal.returns-else-eq-clause-read
returns-else-eq-clause-read c =
    λ told h e.
    let text : c.as_slice.result.now ≡ c.args.line.now = c.as_slice.ensures ∙ c.in_ok-text.ensures {u = tt} ∙ has_text c.args.nodes.now c.args.line.now c.in_ok-told.told told c.in_ok-told.ensures h e in
    let same : c.eq.result ≡ true = c.eq.ensures ∙ (bytes_eq-Decides c.as_slice.result.now c.args.line.now).1 text in
    cc (same, c.if-eq.false)
