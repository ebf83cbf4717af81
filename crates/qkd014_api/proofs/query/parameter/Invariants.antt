use Rattle.std.proofs.Common.{◌≡◌, length}
use Rattle.form_urlencoded.specs.Parse.{raw_pairs_left}
use Rattle.qkd014_api.specs.Queries.{values_among, values_in, one_of}
use Rattle.qkd014_api.proofs.Values.{with_more}
use Rattle.qkd014_api.proofs.query.parameter.Given as goal

abbrev pub invariant-loop-key : goal.invariant-loop-key
invariant-loop-key l = with_more l.found (values_among l.name (raw_pairs_left l.pairs)) ≡ one_of (values_in l.name l.query)

abbrev pub decreases-loop-key : goal.decreases-loop-key
decreases-loop-key l = length (raw_pairs_left l.pairs)
