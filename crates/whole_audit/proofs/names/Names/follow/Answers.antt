use Rattle.std.proofs.Common.{Option, ap, sym, ◌∙◌}
use Rattle.whole_audit.specs.declared.blocks.Count.{Count}
use Rattle.item_audit.specs.declared.given.Given.{Given}
use Rattle.whole_audit.specs.Names.{names_of, is_next_name, names_follow}
use Rattle.whole_audit.proofs.names.Names.follow.Goals as goal

pub returns-in-Some : goal.returns-in-Some
returns-in-Some c s before named =
    c.is_next_name.ensures
    ∙ ap (λ (n : Count). is_next_name c.in-Some.given.first n) (c.at.ensures ∙ named c.in-Some.given.node)
    ∙ ap (λ (o : Option Given). names_follow o (λ v. names_of s v before)) (sym c.in-Some.is)
