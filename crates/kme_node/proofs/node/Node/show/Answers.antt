use Rattle.std.proofs.Common.{◌≡◌, IfOk, refl, sym, subst, ap, ◌∙◌}
use Rattle.net_model.specs.Decide.{decide}
use Rattle.net_model.specs.Show.{show}
use Rattle.stream_core.specs.Kept.{Sees}
use Rattle.kme_base.specs.Steps.{orders_of}
use Rattle.kme_node.specs.Holdings.{view}
use Rattle.kme_node.proofs.Sights.{sees}
use Rattle.kme_node.proofs.Shown.{show_orders_nothing}
use Rattle.kme_node.proofs.node.Node.show.Goals as goal

pub returns-in-Err : goal.returns-in-Err
unfolding decide
returns-in-Err c frames is_up random = refl

pub returns-in-Ok : goal.returns-in-Ok
unfolding decide
returns-in-Ok c frames is_up random =
    let shown = c.show.ensures (view c.args.self.now) (subst (Sees (view c.args.self.now)) (sym c.kept.ensures) (sees c.args.self.now)) in
    let is : c.in-Ok.reply ≡ show (view c.args.self.now) c.args.name = subst (λ r. IfOk r (λ reply. reply ≡ show (view c.args.self.now) c.args.name)) c.in-Ok.is shown in
    record { batch = c.new.ensures; reply = is; orders = ap orders_of is ∙ show_orders_nothing (view c.args.self.now) c.args.name; volatile = refl }
