use Rattle.std.proofs.Common.{ℕ, List, drop, ◌∙◌, sym, ap}
use Rattle.qkd_base.specs.Name.{Name}
use Rattle.net_model.specs.Table.{was_handed}
use Rattle.ordered_set.specs.Entries.{has_entry}
use Rattle.end_store.specs.Marked.{Marked}
use Rattle.end_store.proofs.Pairs.{found_pair, other_pair, take_rest}
use Rattle.end_store.proofs.marks.Marks.has.Goals as goal

pub returns-then-has : goal.returns-then-has
returns-then-has c =
    c.if-has.true
    ∙ found_pair c.self.inside.pairs.items c.self.inside.index c.self.inside.listed c.args.name c.args.sae c.self.invariant
    (sym (ap (λ (e : List ℕ). has_entry c.self.inside.index e) c.mark_entry.ensures) ∙ sym c.has.ensures ∙ c.if-has.true)
    ∙ ap (λ (m : Marked). was_handed m.pairs c.args.name c.args.sae) c.self.view_is

pub returns-else-has : goal.returns-else-has
returns-else-has c =
    c.is_among.ensures
    ∙ ap (λ (ps : List (Name × ℕ)). was_handed ps c.args.name c.args.sae) (take_rest c.deref.result.now c.self.inside.listed)
    ∙ ap (λ (ps : List (Name × ℕ)). was_handed (drop c.self.inside.listed ps) c.args.name c.args.sae) c.deref.ensures.value
    ∙ other_pair c.self.inside.pairs.items c.self.inside.index c.self.inside.listed c.args.name c.args.sae c.self.invariant
    (sym (ap (λ (e : List ℕ). has_entry c.self.inside.index e) c.mark_entry.ensures) ∙ sym c.has.ensures ∙ c.if-has.false)
    ∙ ap (λ (m : Marked). was_handed m.pairs c.args.name c.args.sae) c.self.view_is
