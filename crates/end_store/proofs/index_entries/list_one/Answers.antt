use Rattle.std.proofs.Common.{ℕ, List, Option, subst, sym, ◌∙◌}
use Rattle.end_store.specs.Waiting.{GrowsBy}
use Rattle.end_store.proofs.Lines.{waiting_more, waiting_skip}
use Rattle.end_store.proofs.index_entries.list_one.Goals as goal

pub returns-else-not-add-clause-done : goal.returns-else-not-add-clause-done
returns-else-not-add-clause-done c ok =
    let first = subst (λ (o : Option (List ℕ)). GrowsBy c.args.index.now c.add.new.index o) c.place_entry.ensures (c.add.ensures.done c.if-not-add.false) in
    let second = subst (λ (o : Option (List ℕ)). GrowsBy c.add.new.index c.add-in-Some.new.index o) c.brought_entry.ensures (c.add-in-Some.ensures.done ok) in
    waiting_more c.args.known.now.me c.args.known.now.facts c.args.handed.now.pairs c.args.index.now c.add.new.index c.add-in-Some.new.index c.args.place c.in-Some.fact.now c.len-count.ensures.distinct c.requires.waiting
    (sym c.in-Some.ensures) first second

pub returns-then-is_taken-clause-done : goal.returns-then-is_taken-clause-done
returns-then-is_taken-clause-done c ok =
    waiting_skip c.args.known.now.me c.args.known.now.facts c.args.handed.now.pairs c.args.index.now c.args.place c.in-Some.fact.now c.requires.waiting (sym c.in-Some.ensures) (sym c.is_taken.ensures ∙ c.if-is_taken.true)
