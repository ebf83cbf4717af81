use Rattle.std.proofs.Common.{ℕ, List, Option, subst, sym, ◌∙◌, ap}
use Rattle.end_store.specs.Waiting.{count_entry, ShrinksBy}
use Rattle.end_store.proofs.Released.{released}
use Rattle.end_store.proofs.index_entries.release.Goals as goal

pub returns-then-is_taken_last : goal.returns-then-is_taken_last
returns-then-is_taken_last c =
    let first = subst (λ (o : Option (List ℕ)). ShrinksBy c.args.index.now c.drop_entry.new.index o) c.place_entry.ensures c.drop_entry.ensures in
    let counted = c.count_entry.ensures ∙ ap (λ (me : ℕ). count_entry me c.in-Some.fact.now) c.me.ensures in
    let second = subst (λ (o : Option (List ℕ)). ShrinksBy c.drop_entry.new.index c.drop_entry-then-is_taken_last.new.index o) counted c.drop_entry-then-is_taken_last.ensures in
    released c.args.known.now.me c.args.known.now.facts c.args.handed.now.pairs c.args.index.now c.drop_entry.new.index c.drop_entry-then-is_taken_last.new.index c.args.count c.args.place c.in-Some.fact.now c.requires
    (sym c.in-Some.ensures) (c.is_taken_last.ensures c.if-is_taken_last.true) first second
