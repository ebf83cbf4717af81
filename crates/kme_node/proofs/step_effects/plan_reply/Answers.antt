use Rattle.std.proofs.Common.{List, map, sym, ap, ◌∙◌, subst}
use Rattle.net_model.specs.declared.order.Order.{Order}
use Rattle.net_model.specs.declared.reply.Reply.{Reply}
use Rattle.net_model.specs.World.{Transmission}
use Rattle.kme_base.specs.Steps.{transmission_of_order, orders_of}
use Rattle.kme_base.specs.Places.{AreOf, HasBytesFor}
use Rattle.kme_node.specs.Holdings.{HasOrdersWithin}
use Rattle.kme_node.proofs.Applied.{with_orders, without_orders}
use Rattle.kme_node.proofs.Replies.{no_orders}
use Rattle.kme_node.proofs.step_effects.plan_reply.Goals as goal

pub returns-in-Planned : goal.returns-in-Planned
returns-in-Planned c h is fits =
    let facts = h.kept.ends.known.facts in
    let within = subst (HasOrdersWithin h) c.in-Planned.is fits in
    let orders = sym c.as_slice.ensures in
    c.plan_orders.ensures.all facts (subst (AreOf facts) orders within.0)
    (subst (λ (os : List Order). HasBytesFor os c.args.ports.now.ports) orders (subst (HasBytesFor c.in-Planned.orders) is within.1))
    ∙ ap (λ (os : List Order). with_orders facts (map transmission_of_order os) c.args.ports.now.ports) c.as_slice.ensures
    ∙ ap (λ (r : Reply). with_orders facts (orders_of r) c.args.ports.now.ports) (sym c.in-Planned.is)

pub returns-in_default : goal.returns-in_default
returns-in_default c h is fits =
    let facts = h.kept.ends.known.facts in
    sym (ap (λ (ts : List Transmission). with_orders facts ts c.args.ports.now.ports) (no_orders c.args.reply.now c.in_default.not-Planned) ∙ without_orders facts c.args.ports.now.ports)
