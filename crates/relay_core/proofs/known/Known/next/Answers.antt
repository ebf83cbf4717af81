use Rattle.std.proofs.Common.{List, subst}
use Rattle.std.specs.Prelude.{IfSome}
use Rattle.qkd_base.specs.Name.{Name}
use Rattle.net_model.specs.declared.fact.Fact.{Fact}
use Rattle.relay_core.specs.Firsts.{IsFirstFrom}
use Rattle.relay_core.specs.Index.{belongs}
use Rattle.relay_core.specs.Knowledge.{Knowledge}
use Rattle.relay_core.proofs.known.Known.next.Goals as goal

pub returns-clause-first : goal.returns-clause-first
returns-clause-first c =
    let named = subst (λ (ns : List Name). IfSome c.next_in.result (λ p. IsFirstFrom (belongs c.self.inside.me ns c.args.group.now) c.deref.result.now c.args.from p)) c.deref-2.ensures.value c.next_in.ensures.first in
    let listed = subst (λ (fs : List Fact). IfSome c.next_in.result (λ p. IsFirstFrom (belongs c.self.inside.me c.self.inside.acked.items c.args.group.now) fs c.args.from p)) c.deref.ensures.value named in
    subst (λ (k : Knowledge). IfSome c.next_in.result (λ p. IsFirstFrom (belongs k.me k.acked c.args.group.now) k.facts c.args.from p)) c.self.view_is listed
