use Rattle.std.proofs.Common.{ℕ, [], ◌∷◌, Some, subst}
use Rattle.std.specs.Ordering.{nat_cmp}
use Rattle.std.specs.Cmp.Lexicographic.{slice_cmp}
use Rattle.std.specs.BTreeMap.{Updates}
use Rattle.whole_audit.specs.declared.rests.Rests.{Rests}
use Rattle.whole_audit.proofs.Resting.{rests_put}
use Rattle.whole_audit.proofs.rests.Rests.put.Goals as goal

pub returns : goal.returns
returns c n =
    let new : Rests = record { lines = c.insert.new.self } in
    λ i first. rests_put c.args.self.now new c.args.number c.args.rest
    (subst (λ (m : ℕ). Updates (slice_cmp nat_cmp) c.args.self.now.lines c.insert.new.self (m ∷ []) (Some c.args.rest)) c.from.ensures c.in_ok-insert.ensures.updates) n first i
