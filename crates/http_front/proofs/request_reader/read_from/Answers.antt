use Rattle.std.proofs.Common.{◌∙◌, ap}
use Rattle.std.proofs.lemmas.Result.{err_from_is_err_and}
use Rattle.http_front.specs.declared.refusal.FrontRefusal.TheVariants.{Memory}
use Rattle.http_front.proofs.Meaning.{head-scarce, found-scarce, any-scarce}
use Rattle.http_front.proofs.Answering.{read-framed, read-short, read-memory, read-whole, enough-fits, framing-told, request-told}
use Rattle.http_front.proofs.request_reader.read_from.Goals as goal

pub returns-in_err-length-clause-read : goal.returns-in_err-length-clause-read
returns-in_err-length-clause-read g c =
    let err = err_from_is_err_and c.from_residual-in_err-length.result c.from_residual-in_err-length.ensures.1 in
    rw (err.1, err.2)
    (read-framed _ _ _ _ c.in_ok-head.head _ c.read_head.ensures.came c.read_head.ensures.limit
    (λ enough. (c.read_head.ensures.still (enough.head, enough.rest, enough.has)).0) c.in_ok-head.ensures.head
    (framing-told _ _ _ _ _ _ c.as_slice.ensures c.as_slice-2.ensures c.framing.ensures c.in_err-length.was))

pub returns-in_err-length-clause-still : goal.returns-in_err-length-clause-still
returns-in_err-length-clause-still g c = λ enough. (c.read_head.ensures.still (enough.head, enough.rest, enough.has)).1

pub returns-in_err-read_to-clause-still : goal.returns-in_err-read_to-clause-still
returns-in_err-read_to-clause-still g c = λ enough.
    let first = c.read_head.ensures.still (enough.head, enough.rest, enough.has) in
    (c.read_to.ensures.still (enough-fits _ _ c.in_ok-head.head c.in_ok-length.length enough first.0 c.in_ok-head.ensures.head
    (framing-told _ _ _ _ _ _ c.as_slice.ensures c.as_slice-2.ensures c.framing.ensures c.in_ok-length.was))).1 ∙ first.1

pub returns-in-Ok-drop_front-clause-still : goal.returns-in-Ok-drop_front-clause-still
returns-in-Ok-drop_front-clause-still g c = λ enough.
    let first = c.read_head.ensures.still (enough.head, enough.rest, enough.has) in
    (c.read_to.ensures.still (enough-fits _ _ c.in_ok-head.head c.in_ok-length.length enough first.0 c.in_ok-head.ensures.head
    (framing-told _ _ _ _ _ _ c.as_slice.ensures c.as_slice-2.ensures c.framing.ensures c.in_ok-length.was))).1 ∙ first.1

pub returns-in-Err-clause-still : goal.returns-in-Err-clause-still
returns-in-Err-clause-still g c = λ enough.
    let first = c.read_head.ensures.still (enough.head, enough.rest, enough.has) in
    (c.read_to.ensures.still (enough-fits _ _ c.in_ok-head.head c.in_ok-length.length enough first.0 c.in_ok-head.ensures.head
    (framing-told _ _ _ _ _ _ c.as_slice.ensures c.as_slice-2.ensures c.framing.ensures c.in_ok-length.was))).1 ∙ first.1

pub returns-in_err-read_to-clause-read : goal.returns-in_err-read_to-clause-read
returns-in_err-read_to-clause-read g c =
    let err = err_from_is_err_and c.from_residual-in_err-read_to.result c.from_residual-in_err-read_to.ensures.1 in
    rw (err.1, err.2)
    (read-short _ _ _ _ _ _ c.in_ok-head.head c.in_ok-length.length _ c.read_head.ensures.came c.read_head.ensures.limit
    (λ enough. (c.read_head.ensures.still (enough.head, enough.rest, enough.has)).0) c.in_ok-head.ensures.head
    (framing-told _ _ _ _ _ _ c.as_slice.ensures c.as_slice-2.ensures c.framing.ensures c.in_ok-length.was)
    c.read_to.ensures.came c.read_to.ensures.limit (λ fits. (c.read_to.ensures.still fits).0) c.in_err-read_to.ensures.short)

pub returns-in-Err-clause-read : goal.returns-in-Err-clause-read
returns-in-Err-clause-read g c =
    read-memory _ _ _ _ _ _ c.in_ok-head.head c.in_ok-length.length c.read_head.ensures.came c.read_head.ensures.limit
    (λ enough. (c.read_head.ensures.still (enough.head, enough.rest, enough.has)).0) c.in_ok-head.ensures.head
    (framing-told _ _ _ _ _ _ c.as_slice.ensures c.as_slice-2.ensures c.framing.ensures c.in_ok-length.was)
    c.read_to.ensures.came c.read_to.ensures.limit (λ fits. (c.read_to.ensures.still fits).0)

pub returns-in-Ok-drop_front-clause-read : goal.returns-in-Ok-drop_front-clause-read
returns-in-Ok-drop_front-clause-read g c =
    read-whole _ _ _ _ _ _ _ c.in_ok-head.head c.in_ok-length.length _ c.read_head.ensures.came c.read_head.ensures.limit
    (λ enough. (c.read_head.ensures.still (enough.head, enough.rest, enough.has)).0) c.in_ok-head.ensures.head
    (framing-told _ _ _ _ _ _ c.as_slice.ensures c.as_slice-2.ensures c.framing.ensures c.in_ok-length.was)
    c.read_to.ensures.came c.read_to.ensures.limit (λ fits. (c.read_to.ensures.still fits).0) c.in_ok-read_to.ensures.whole c.in-Ok-drop_front.ensures.ok
    (request-told c.in_ok-head.head c.in_ok-length.length _ _ _ _ c.deref.ensures.value c.in-Ok.ensures c.request_of.ensures)

pub returns-in-Err-drop_front-clause-still : goal.returns-in-Err-drop_front-clause-still
returns-in-Err-drop_front-clause-still g c = λ enough.
    let first = c.read_head.ensures.still (enough.head, enough.rest, enough.has) in
    (c.read_to.ensures.still (enough-fits _ _ c.in_ok-head.head c.in_ok-length.length enough first.0 c.in_ok-head.ensures.head
    (framing-told _ _ _ _ _ _ c.as_slice.ensures c.as_slice-2.ensures c.framing.ensures c.in_ok-length.was))).1 ∙ first.1

pub returns-in-Err-drop_front-clause-read : goal.returns-in-Err-drop_front-clause-read
returns-in-Err-drop_front-clause-read g c =
    rw (ap (λ v. v.items) c.in-Err-drop_front.ensures.err)
    (read-memory _ _ _ _ _ _ c.in_ok-head.head c.in_ok-length.length c.read_head.ensures.came c.read_head.ensures.limit
    (λ enough. (c.read_head.ensures.still (enough.head, enough.rest, enough.has)).0) c.in_ok-head.ensures.head
    (framing-told _ _ _ _ _ _ c.as_slice.ensures c.as_slice-2.ensures c.framing.ensures c.in_ok-length.was)
    c.read_to.ensures.came c.read_to.ensures.limit (λ fits. (c.read_to.ensures.still fits).0))

pub returns-in_err-length-clause-memory : goal.returns-in_err-length-clause-memory
returns-in_err-length-clause-memory g c = any-scarce _ _ (λ e. found-scarce _ c.in_ok-head.head e c.in_ok-head.ensures.head)

pub returns-in_err-read_to-clause-memory : goal.returns-in_err-read_to-clause-memory
returns-in_err-read_to-clause-memory g c = any-scarce _ _ (λ e. head-scarce _ _ _ _ c.in_ok-head.head e c.in_ok-head.ensures.head c.read_to.ensures.came)

pub returns-in-Err-clause-memory : goal.returns-in-Err-clause-memory
returns-in-Err-clause-memory g c = head-scarce _ _ _ _ c.in_ok-head.head Memory c.in_ok-head.ensures.head c.read_to.ensures.came

pub returns-in-Err-drop_front-clause-memory : goal.returns-in-Err-drop_front-clause-memory
returns-in-Err-drop_front-clause-memory g c =
    rw (ap (λ v. v.items) c.in-Err-drop_front.ensures.err) (head-scarce _ _ _ _ c.in_ok-head.head Memory c.in_ok-head.ensures.head c.read_to.ensures.came)
