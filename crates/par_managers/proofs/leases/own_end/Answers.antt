use Rattle.std.proofs.Common.{◌≡◌, ℕ, false, sym, ap, ◌∙◌}
use Rattle.std.specs.Prelude.{◌==◌}
use Rattle.declared_site.specs.SiteOf.{site_of}
use Rattle.net_model.specs.Site.{sender}
use Rattle.law_base.proofs.Base.{eq_from, eq_same, not_both}
use Rattle.par_managers.specs.Leases.{lease_at}
use Rattle.par_managers.proofs.Writing.{mine_end, other_end}
use Rattle.par_managers.proofs.leases.own_end.Goals as goal

pub returns-then-eq : goal.returns-then-eq
returns-then-eq g c =
    let from = eq_from _ _ (sym (c.eq.ensures ∙ ap (λ n. n == c.args.node) c.sender.ensures) ∙ c.if-eq.true) in
    mine_end (site_of c.args.site.now) c.args.node (lease_at c.args.post.now) c.args.lane.now c.args.before c.lease.result from c.lease.ensures

pub returns-else-eq : goal.returns-else-eq
returns-else-eq g c =
    let s = site_of c.args.site.now in
    let none : (sender s c.args.lane.now == c.args.node) ≡ false = sym (c.eq.ensures ∙ ap (λ n. n == c.args.node) c.sender.ensures) ∙ c.if-eq.false in
    other_end s c.args.node (lease_at c.args.post.now) c.args.lane.now c.args.before
    (λ from. not_both (sender s c.args.lane.now == c.args.node) (ap (λ (n : ℕ). n == c.args.node) from ∙ eq_same c.args.node) none)
