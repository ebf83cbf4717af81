-- The manager after a step.
use Rattle.std.proofs.Common.{◌≡◌, List, refl, sym, ap, subst, ◌∙◌}
use Rattle.net_model.specs.declared.order.Order.{Order}
use Rattle.net_model.specs.declared.placing.Placing.{Placing}
use Rattle.net_model.specs.Decision.{Effect}
use Rattle.net_model.specs.Fold.{view_batch, view_after}
use Rattle.kme_base.specs.declared.step.Step.{Step}
use Rattle.kme_base.specs.Steps.{IsEffect, changed, orders_of}
use Rattle.kme_base.specs.Places.{LinkEnds, HasBytesFor}
use Rattle.stream_core.specs.Kept.{Sees}
use Rattle.kme_node.specs.Holdings.{Holdings, HasOrdersWithin, view}
use Rattle.kme_node.specs.Ports.{ports_after}
use Rattle.kme_node.proofs.Applied.{after_step, seen_me, with_orders, lanes_planned}
use Rattle.kme_node.proofs.Ends.{lanes_of, lanes_after, bytes_after}
use Rattle.kme_node.proofs.Replies.{orders_within}
use Rattle.kme_node.proofs.Split.{bare}

-- the new manager, part by part, after the step
pub record HasTaken (old new : Holdings) (placings : List Placing) (s : Step) : Type 0 where
  pub fits : HasOrdersWithin old s.reply
  pub kept : Sees (view_batch (bare (view old)) s.batch) new.kept
  pub taken : LinkEnds
  pub batch : taken.ports ≡ ports_after s.batch old.ends.ports
  pub planned : (h : Holdings) → h.ends.ports ≡ taken.ports → HasOrdersWithin h s.reply → new.ends.ports ≡ with_orders h.kept.ends.known.facts (orders_of s.reply) taken.ports
  pub life : new.window.volatile ≡ changed old.kept.ends.known.acked placings s.reply s.change old.window.volatile

ends_after : (old new : Holdings) (placings : List Placing) (s : Step) → HasTaken old new placings s → new.ends.ports ≡ with_orders old.kept.ends.known.facts (orders_of s.reply) (ports_after s.batch old.ends.ports)
ends_after old new placings s t =
    t.planned (record old { ends = t.taken }) refl
    (orders_within old (record old { ends = t.taken }) s.reply refl (λ (orders : List Order) have. subst (HasBytesFor orders) (sym t.batch) (bytes_after orders s.batch old.ends.ports have)) t.fits)
    ∙ ap (with_orders old.kept.ends.known.facts (orders_of s.reply)) t.batch

pub taken_view : (old new : Holdings) (placings : List Placing) (s : Step) → HasTaken old new placings s → (e : Effect) → IsEffect (view old) placings e s → view new ≡ view_after (view old) e
taken_view old new placings s t e is = after_step old placings e s is new.kept t.kept new.ends.ports (ends_after old new placings s t) new.window.volatile t.life

pub taken_me : (old new : Holdings) (placings : List Placing) (s : Step) → HasTaken old new placings s → new.kept.ends.known.me ≡ old.kept.ends.known.me
taken_me old new placings s t = seen_me old s.batch new.kept t.kept

pub taken_lanes : (old new : Holdings) (placings : List Placing) (s : Step) → HasTaken old new placings s → lanes_of new.ends.ports ≡ lanes_of old.ends.ports
taken_lanes old new placings s t =
    ap lanes_of (ends_after old new placings s t) ∙ lanes_planned old.kept.ends.known.facts (orders_of s.reply) (ports_after s.batch old.ends.ports) ∙ lanes_after s.batch old.ends.ports
