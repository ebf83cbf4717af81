use Rattle.std.proofs.Common.{List, ℕ, Option, subst, sym}
use Rattle.qkd_base.specs.Name.{Name}
use Rattle.relay_core.specs.declared.group.Group.{Group}
use Rattle.relay_core.specs.declared.group.Group.TheVariants.{Named}
use Rattle.relay_core.specs.Listed.{Grows, GrowsBy, IsPartlyListed}
use Rattle.relay_core.proofs.Entered.{all_parts, three_parts, two_parts, first_part}
use Rattle.relay_core.proofs.index_entries.list_fact.Goals as goal

pub returns-then-not-add_some-clause-not_done : goal.returns-then-not-add_some-clause-not_done
returns-then-not-add_some-clause-not_done c fails =
    let named = subst (λ (n : Name). Grows c.args.index.now c.add.new.index (Named n) c.args.place) c.fact_name.ensures.name (c.add.ensures.done c.if-not-add.false) in
    subst (λ (es : List (List ℕ)). IsPartlyListed c.args.index.now es c.args.fact.now c.args.to c.args.place) (sym (c.add_some.ensures.not_done c.if-not-add_some.true))
    (first_part c.args.index.now c.add.new.index c.args.fact.now c.args.to c.args.place named)

pub returns-then-not-add_some-2-clause-not_done : goal.returns-then-not-add_some-2-clause-not_done
returns-then-not-add_some-2-clause-not_done c fails =
    let named = subst (λ (n : Name). Grows c.args.index.now c.add.new.index (Named n) c.args.place) c.fact_name.ensures.name (c.add.ensures.done c.if-not-add.false) in
    let second = subst (λ (o : Option Group). GrowsBy c.add.new.index c.add_some.new.index o c.args.place) c.second_group.ensures (c.add_some.ensures.done c.if-not-add_some.false) in
    subst (λ (es : List (List ℕ)). IsPartlyListed c.args.index.now es c.args.fact.now c.args.to c.args.place) (sym (c.add_some-2.ensures.not_done c.if-not-add_some-2.true))
    (two_parts c.args.index.now c.add.new.index c.add_some.new.index c.args.fact.now c.args.to c.args.place named second)

pub returns-clause-done : goal.returns-clause-done
returns-clause-done c ok =
    let named = subst (λ (n : Name). Grows c.args.index.now c.add.new.index (Named n) c.args.place) c.fact_name.ensures.name (c.add.ensures.done c.if-not-add.false) in
    let second = subst (λ (o : Option Group). GrowsBy c.add.new.index c.add_some.new.index o c.args.place) c.second_group.ensures (c.add_some.ensures.done c.if-not-add_some.false) in
    let third = subst (λ (o : Option Group). GrowsBy c.add_some.new.index c.add_some-2.new.index o c.args.place) c.third_group.ensures (c.add_some-2.ensures.done c.if-not-add_some-2.false) in
    let owed = subst (λ (o : Option Group). GrowsBy c.add_some-2.new.index c.add_some-3.new.index o c.args.place) c.owed_group.ensures (c.add_some-3.ensures.done ok) in
    all_parts c.args.index.now c.add.new.index c.add_some.new.index c.add_some-2.new.index c.add_some-3.new.index c.args.fact.now c.args.to c.args.place named second third owed

pub returns-clause-not_done : goal.returns-clause-not_done
returns-clause-not_done c fails =
    let named = subst (λ (n : Name). Grows c.args.index.now c.add.new.index (Named n) c.args.place) c.fact_name.ensures.name (c.add.ensures.done c.if-not-add.false) in
    let second = subst (λ (o : Option Group). GrowsBy c.add.new.index c.add_some.new.index o c.args.place) c.second_group.ensures (c.add_some.ensures.done c.if-not-add_some.false) in
    let third = subst (λ (o : Option Group). GrowsBy c.add_some.new.index c.add_some-2.new.index o c.args.place) c.third_group.ensures (c.add_some-2.ensures.done c.if-not-add_some-2.false) in
    subst (λ (es : List (List ℕ)). IsPartlyListed c.args.index.now es c.args.fact.now c.args.to c.args.place) (sym (c.add_some-3.ensures.not_done fails))
    (three_parts c.args.index.now c.add.new.index c.add_some.new.index c.add_some-2.new.index c.args.fact.now c.args.to c.args.place named second third)
