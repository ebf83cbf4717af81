use Rattle.std.proofs.Common.{arith, refl, List, ℕ, subst}
use Rattle.ordered_set.specs.Entries.{IsNextIn, IsLastIn}
use Rattle.ordered_set.proofs.Between.{is_next, is_last, forward}
use Rattle.ordered_set.proofs.entries.Entries.next.Goals as goal

pub first_in-requires : goal.first_in-requires
first_in-requires c = forward c.args.entry _ (omega arith) refl (omega arith)

pub returns-in-Some-clause-next : goal.returns-in-Some-clause-next
returns-in-Some-clause-next c group from e =
    subst (λ (es : List (List ℕ)). IsNextIn es group from c.in-Some.place) c.self.view_is (is_next c.self.inside.entries c.args.entry _ group from c.in-Some.place (omega arith) refl e c.in-Some.ensures.some)

pub returns-in-None-clause-last : goal.returns-in-None-clause-last
returns-in-None-clause-last c group from e =
    subst (λ (es : List (List ℕ)). IsLastIn es group from) c.self.view_is (is_last c.self.inside.entries c.args.entry _ group from (omega arith) refl e c.in-None.ensures.none)
