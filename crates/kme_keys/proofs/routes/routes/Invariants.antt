use Rattle.std.proofs.Common.{◌≡◌, ℕ, Bool, drop}
use Rattle.declared_site.specs.SiteOf.{site_of}
use Rattle.net_model.specs.Groups.{routes_to}
use Rattle.kme_base.specs.Up.{AreUp}
use Rattle.kme_keys.proofs.Routed.{with_front}
use Rattle.kme_keys.proofs.routes.routes.Given as goal

abbrev pub invariant-loop-slave : goal.invariant-loop-slave
invariant-loop-slave l = (is_up : ℕ → Bool) → AreUp l.up is_up → routes_to (site_of l.site) is_up l.me l.slaves ≡ with_front l.routes.items (routes_to (site_of l.site) is_up l.me (drop l.slave-index l.slaves))
