use Rattle.std.proofs.Common.{◌≡◌, ◌||◌, ℕ, List, subst}
use Rattle.std.specs.Str.{bytes_eq}
use Rattle.ordered_set.specs.Entries.{has_entry}
use Rattle.relay_core.proofs.Firsts.{got}
use Rattle.end_store.proofs.Pairs.{marked_more}
use Rattle.end_store.proofs.marks.list_pair.Goals as goal

pub returns-in-Ok-clause-done : goal.returns-in-Ok-clause-done
returns-in-Ok-clause-done c ok =
    let there = got c.args.pairs.now c.args.place c.index-pairs-place.result c.requires.within c.index-pairs-place.is in
    let grows = subst (λ (x : List ℕ). (e : List ℕ) → has_entry c.insert.new.self e ≡ (bytes_eq x e || has_entry c.args.index.now e)) c.mark_entry.ensures c.in-Ok.ensures.ok in
    marked_more c.args.pairs.now c.args.index.now c.insert.new.self c.args.place c.index-pairs-place.result.0 c.index-pairs-place.result.1 c.requires.marked there grows
