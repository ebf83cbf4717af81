use Rattle.std.proofs.Common.{List, ℕ, ap}
use Rattle.ordered_set.specs.Entries.{has_entry}
use Rattle.qkd_base.specs.Lane.{lane_place}
use Rattle.whole_audit.specs.Kept.{key_entry}
use Rattle.whole_audit.proofs.arrivals.Arrivals.new.Goals as goal

pub returns : goal.returns
returns c l n = ap (λ (es : List (List ℕ)). has_entry es (key_entry n (lane_place l))) c.new.ensures
