use Rattle.std.proofs.Common.{List, ◌∙◌, ap, sym}
use Rattle.std.specs.Prelude.{slice_get}
use Rattle.net_model.specs.declared.fact.Fact.{Fact}
use Rattle.relay_core.specs.Index.{belongs}
use Rattle.relay_core.specs.Knowledge.{Knowledge}
use Rattle.relay_core.proofs.Firsts.{first_find, none_find}
use Rattle.relay_core.proofs.known.Known.first.Goals as goal

pub returns-in-Some : goal.returns-in-Some
returns-in-Some c =
    c.fact_in.ensures
    ∙ ap (λ (fs : List Fact). slice_get fs c.in-Some.place) (c.deref.ensures.value ∙ ap (λ (k : Knowledge). k.facts) c.self.view_is)
    ∙ sym (first_find (belongs c.args.self.now.me c.args.self.now.acked c.args.group.now) c.args.self.now.facts c.in-Some.place c.in-Some.ensures.first)

pub returns-in-None : goal.returns-in-None
returns-in-None c = sym (none_find (belongs c.args.self.now.me c.args.self.now.acked c.args.group.now) c.args.self.now.facts c.in-None.ensures.none)
