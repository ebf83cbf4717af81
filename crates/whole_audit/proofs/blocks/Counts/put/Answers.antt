use Rattle.std.proofs.Common.{List, ℕ, Some, subst}
use Rattle.std.specs.Ordering.{nat_cmp}
use Rattle.std.specs.Cmp.Lexicographic.{slice_cmp}
use Rattle.std.specs.BTreeMap.{Updates}
use Rattle.whole_audit.specs.declared.blocks.Counts.{Counts}
use Rattle.whole_audit.proofs.Counting.{counts_put}
use Rattle.whole_audit.proofs.blocks.Counts.put.Goals as goal

pub returns : goal.returns
returns c =
    let new : Counts = record { ends = c.insert.new.self } in
    counts_put c.args.self.now new c.args.lane.now c.args.count
    (subst (λ (key : List ℕ). Updates (slice_cmp nat_cmp) c.args.self.now.ends c.insert.new.self key (Some c.args.count)) c.end_key.ensures c.in_ok-insert.ensures.updates)
