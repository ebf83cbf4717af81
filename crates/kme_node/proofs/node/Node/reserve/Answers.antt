use Rattle.std.proofs.Common.{List, refl, sym, ap, ◌∙◌, subst}
use Rattle.net_model.specs.View.{View}
use Rattle.net_model.specs.declared.order.Order.{Order}
use Rattle.kme_base.specs.Places.{HasBytesFor}
use Rattle.kme_node.specs.Holdings.{Holdings, Fits, view}
use Rattle.kme_node.proofs.Ends.{lanes_of}
use Rattle.kme_node.proofs.Applied.{same_view, held_still, all_rooms}
use Rattle.declared_site.specs.SiteOf.{site_of}
use Rattle.kme_node.proofs.Fronted.{ahead_same}
use Rattle.kme_node.proofs.Replies.{orders_within}
use Rattle.kme_node.proofs.node.Node.reserve.Goals as goal

pub invariant_of-self : goal.invariant_of-self
invariant_of-self c =
    record {
      held =
          held_still
          (record { site = c.self.inside.site; kept = c.self.inside.kept; ends = c.self.inside.ports; window = c.self.inside.window })
          (record { site = c.self.inside.site; kept = c.room_parts.new.kept; ends = c.room_parts.new.ports; window = c.room_parts.new.window })
          refl (ap (λ (v : View). v.me) c.room_parts.ensures.kept) (ap lanes_of c.room_parts.ensures.ports) c.self.invariant.held;
      ahead = ahead_same (site_of c.self.inside.site) c.self.inside.fronts c.self.inside.kept c.room_parts.new.kept c.self.inside.window.volatile c.room_parts.new.window.volatile c.room_parts.ensures.kept c.room_parts.ensures.volatile c.self.invariant.ahead;
    }

pub returns-clause-view : goal.returns-clause-view
returns-clause-view c =
    same_view
    (record { site = c.self.inside.site; kept = c.self.inside.kept; ends = c.self.inside.ports; window = c.self.inside.window })
    (record { site = c.self.inside.site; kept = c.room_parts.new.kept; ends = c.room_parts.new.ports; window = c.room_parts.new.window })
    c.room_parts.ensures.kept c.room_parts.ensures.ports c.room_parts.ensures.volatile
    ∙ ap view c.self.view_is

pub returns-clause-fits : goal.returns-clause-fits
returns-clause-fits c s fits =
    let before = subst (λ (h : Holdings). Fits h s) (sym c.self.view_is) fits in
    record {
      blocks = before.blocks;
      orders = orders_within
          (record { site = c.self.inside.site; kept = c.self.inside.kept; ends = c.self.inside.ports; window = c.self.inside.window })
          (record { site = c.self.inside.site; kept = c.room_parts.new.kept; ends = c.room_parts.new.ports; window = c.room_parts.new.window })
          s.reply (ap (λ (v : View). v.facts) c.room_parts.ensures.kept) (λ (orders : List Order). subst (HasBytesFor orders) (sym c.room_parts.ensures.ports)) before.orders;
    }

pub returns-clause-ok : goal.returns-clause-ok
returns-clause-ok c =
    all_rooms c.room_parts.result
    (record { site = c.self.inside.site; kept = c.room_parts.new.kept; ends = c.room_parts.new.ports; window = c.room_parts.new.window })
    c.args.step.now c.room_parts.ensures.facts c.room_parts.ensures.blocks c.room_parts.ensures.life
