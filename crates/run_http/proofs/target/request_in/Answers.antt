use Rattle.run_http.proofs.Cut.{cut_told}
use Rattle.run_http.proofs.target.request_in.Goals as goal

pub returns-then-ends_in_target : goal.returns-then-ends_in_target
returns-then-ends_in_target c =
    cut_told c.args.octets c.as_slice.result.now c.front.result.now c.as_slice-then-ends_in_target.result.now c.cut_short.result c.as_slice.ensures c.front.ensures
    (c.ends_in_target.ensures.0 c.if-ends_in_target.true) c.as_slice-then-ends_in_target.ensures c.cut_short.ensures
