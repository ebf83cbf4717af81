use Rattle.std.proofs.Common.{sym, ap, ◌∙◌, subst, Ok, arith}
use Rattle.httparse.specs.Spans.{IsRequestWithin, IsRequestOf}
use Rattle.http_front.specs.Reading.{IsHeadOf}
use Rattle.http_front.specs.declared.head.Head.{Head}
use Rattle.http_front.proofs.Heads.{open-partial, never-partial, head-found, at-partial, at-complete}
use Rattle.http_front.proofs.head.head_of.Goals as goal

pub returns-then-begins_field_33 : goal.returns-then-begins_field_33
returns-then-begins_field_33 c =
    never-partial c.args.text.now
    (at-partial c.parse_request.result (c.in-Ok-Partial.is ∙ ap Ok c.in-Ok-Partial.field-0-is) c.parse_request.ensures.partial)
    (sym c.begins_field_33.ensures ∙ c.if-begins_field_33.true)

pub returns-else-begins_field_33 : goal.returns-else-begins_field_33
returns-else-begins_field_33 c =
    open-partial c.args.text.now
    (at-partial c.parse_request.result (c.in-Ok-Partial.is ∙ ap Ok c.in-Ok-Partial.field-0-is) c.parse_request.ensures.partial)
    (at-partial c.parse_request.result (c.in-Ok-Partial.is ∙ ap Ok c.in-Ok-Partial.field-0-is) c.parse_request.ensures.unfinished)
    (sym c.begins_field_33.ensures ∙ c.if-begins_field_33.false)

pub returns-in_ok-head-in-Ok-Complete : goal.returns-in_ok-head-in-Ok-Complete
returns-in_ok-head-in-Ok-Complete c =
    let is = c.in-Ok-Complete.is ∙ ap Ok c.in-Ok-Complete.field-0-is in
    let found = at-complete (IsRequestOf c.args.text.now c.parse_request.new.headers) c.parse_request.result c.in-Ok-Complete.spans is c.parse_request.ensures.complete in
    subst (λ (parts : Head). IsHeadOf c.args.text.now parts) (sym c.in_ok-head-in-Ok-Complete.ensures)
    (head-found c.args.text.now c.parse_request.new.headers c.in-Ok-Complete.spans found.0 (omega arith) (omega arith)
    (at-complete (IsRequestWithin c.args.text.now c.parse_request.new.headers) c.parse_request.result c.in-Ok-Complete.spans is c.parse_request.ensures.within) found.1)
