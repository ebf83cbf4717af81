use Rattle.std.proofs.Common.{ℕ, sym, subst, ap, map, ◌∙◌}
use Rattle.net_model.specs.Site.{outgoing_lanes}
use Rattle.net_model.specs.View.{Port}
use Rattle.declared_site.specs.SiteOf.{IsDeclared, site_of}
use Rattle.declared_site.specs.declared.site.Site.{Site as Declared}
use Rattle.kme_node.proofs.Fronted.{anew}
use Rattle.kme_node.proofs.Lanes.{empty_lanes}
use Rattle.kme_node.proofs.node.Node.new.Goals as goal

pub invariant_of-result : goal.invariant_of-result
invariant_of-result c =
    let site = sym c.in_ok-site.ensures in
    record {
      held = record {
        declared = subst IsDeclared site c.requires;
        lanes = ap (λ ps. map (λ (p : Port). p.lane) ps) c.in_ok-ports.ensures ∙ empty_lanes (outgoing_lanes (site_of c.args.site.now) c.args.me)
            ∙ ap (λ (s : Declared). outgoing_lanes (site_of s) c.args.me) site ∙ ap (λ (m : ℕ). outgoing_lanes (site_of c.in_ok-site.site) m) (sym c.new-2.ensures.known.0);
      };
      ahead = anew (site_of c.in_ok-site.site) c.new-2.result.ends.known.me c.new-2.result.ends.known.acked c.new-2.result.ends.known.facts c.new-3.result.volatile c.new-4.result c.new-4.ensures;
    }
