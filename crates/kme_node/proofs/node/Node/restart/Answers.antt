use Rattle.std.proofs.Common.{List, map, refl, ap, ◌∙◌}
use Rattle.net_model.specs.Fold.{view_restarted}
use Rattle.net_model.specs.View.{Port}
use Rattle.net_model.specs.World.{Volatile}
use Rattle.kme_facts.specs.Needs.{kept_view}
use Rattle.kme_base.specs.Places.{restarted}
use Rattle.kme_node.specs.Holdings.{Holdings, view}
use Rattle.kme_node.proofs.Ends.{lanes_of, same_lanes}
use Rattle.declared_site.specs.SiteOf.{site_of}
use Rattle.kme_node.proofs.Applied.{held_still}
use Rattle.kme_node.proofs.Fronted.{anew}
use Rattle.kme_node.proofs.Split.{with_rest}
use Rattle.kme_node.proofs.node.Node.restart.Goals as goal

pub invariant_of-self : goal.invariant_of-self
invariant_of-self c = record {
  held = held_still
      (record { site = c.self.inside.site; kept = c.self.inside.kept; ends = c.self.inside.ports; window = c.self.inside.window })
      (record { site = c.self.inside.site; kept = c.self.inside.kept; ends = c.restart.new.self; window = c.clear.new.self })
      refl refl (ap lanes_of c.restart.ensures.ports ∙ same_lanes restarted (λ p. refl) c.self.inside.ports.ports) c.self.invariant.held;
  ahead = anew (site_of c.self.inside.site) c.self.inside.kept.ends.known.me c.self.inside.kept.ends.known.acked c.self.inside.kept.ends.known.facts c.clear.new.self.volatile c.new-self-inside.result c.new-self-inside.ensures;
}

pub returns-clause-view : goal.returns-clause-view
unfolding view_restarted
returns-clause-view c =
    ap (λ (ps : List Port). with_rest ps c.clear.new.self.volatile (kept_view c.self.inside.kept)) c.restart.ensures.ports
    ∙ ap (λ (w : Volatile). with_rest (map restarted c.self.inside.ports.ports) w (kept_view c.self.inside.kept)) c.clear.ensures.volatile
    ∙ ap (λ (h : Holdings). view_restarted (view h)) c.self.view_is
