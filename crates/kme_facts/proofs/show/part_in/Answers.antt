use Rattle.std.proofs.Common.{◌∙◌, sym, ap, subst}
use Rattle.std.specs.Prelude.{slice_get}
use Rattle.net_model.specs.Table.{is_part_of}
use Rattle.relay_core.specs.Firsts.{IsFirstFrom, IsNoneFrom}
use Rattle.relay_core.specs.Knowledge.{Knowledge}
use Rattle.relay_core.proofs.Firsts.{first_find, none_find}
use Rattle.kme_facts.proofs.show.part_in.Goals as goal

pub returns-in-None : goal.returns-in-None
returns-in-None c =
    sym (none_find (is_part_of c.args.key) c.args.ends.now.known.facts (subst (λ (k : Knowledge). IsNoneFrom (is_part_of c.args.key) k.facts 0) c.known.ensures c.in-None.ensures.none))

pub returns-in-Some : goal.returns-in-Some
returns-in-Some c =
    c.at.ensures ∙ ap (λ (k : Knowledge). slice_get k.facts c.in-Some.place) c.known-in-Some.ensures
    ∙ sym (first_find (is_part_of c.args.key) c.args.ends.now.known.facts c.in-Some.place
    (subst (λ (k : Knowledge). IsFirstFrom (is_part_of c.args.key) k.facts 0 c.in-Some.place) c.known.ensures c.in-Some.ensures.first))
