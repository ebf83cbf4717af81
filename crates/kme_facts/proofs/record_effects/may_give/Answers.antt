use Rattle.std.proofs.Common.{Bool, ◌||◌, ◌∙◌, sym, ap}
use Rattle.std.specs.Prelude.{◌&&◌}
use Rattle.std.specs.List.{list_any}
use Rattle.net_model.specs.Table.{is_part_of}
use Rattle.kme_facts.specs.Taken.{may_give}
use Rattle.kme_facts.proofs.Taken.{gives_split}
use Rattle.kme_facts.proofs.record_effects.may_give.Goals as goal

pub returns-then-gives_named : goal.returns-then-gives_named
returns-then-gives_named c =
    c.if-gives_named.true
    ∙ sym (gives_split c.args.known.now.me c.args.name c.args.sae c.args.known.now.facts
    ∙ ap (λ (b : Bool). b || list_any (λ f. is_part_of c.args.name f && may_give c.args.known.now.me c.args.name c.args.sae f) c.args.known.now.facts) (sym c.gives_named.ensures ∙ c.if-gives_named.true))

pub returns-else-gives_named : goal.returns-else-gives_named
returns-else-gives_named c =
    sym (gives_split c.args.known.now.me c.args.name c.args.sae c.args.known.now.facts
    ∙ ap (λ (b : Bool). b || list_any (λ f. is_part_of c.args.name f && may_give c.args.known.now.me c.args.name c.args.sae f) c.args.known.now.facts) (sym c.gives_named.ensures ∙ c.if-gives_named.false)
    ∙ sym c.gives_part.ensures)
