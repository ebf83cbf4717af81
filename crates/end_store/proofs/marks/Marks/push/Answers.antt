use Rattle.std.proofs.Common.{ℕ, List, subst, ◌∙◌}
use Rattle.qkd_base.specs.Name.{Name}
use Rattle.end_store.specs.Marked.{AreMarked}
use Rattle.end_store.proofs.Pairs.{marked_push}
use Rattle.end_store.proofs.marks.Marks.push.Goals as goal

pub list_pairs-self-inside-requires : goal.list_pairs-self-inside-requires
list_pairs-self-inside-requires c =
    marked_push c.self.inside.pairs.items c.deref.result.now c.self.inside.index c.self.inside.listed (c.args.name, c.args.sae) c.self.invariant (c.deref.ensures.value ∙ c.push_reserved.ensures.items)

pub invariant_of-self : goal.invariant_of-self
invariant_of-self c =
    subst (λ (ps : List (Name × ℕ)). AreMarked ps c.list_pairs-self-inside.new.index c.list_pairs-self-inside.result) c.deref.ensures.value c.list_pairs-self-inside.ensures
