use Rattle.std.proofs.Common.{◌≡◌, ℕ, Bool, drop}
use Rattle.std.specs.Prelude.{is_some}
use Rattle.declared_site.specs.SiteOf.{site_of}
use Rattle.net_model.specs.Groups.{routes_to}
use Rattle.kme_base.specs.Up.{AreUp}
use Rattle.kme_keys.proofs.routes.has_routes.Given as goal

abbrev pub invariant-loop-slave : goal.invariant-loop-slave
invariant-loop-slave l = (is_up : ℕ → Bool) → AreUp l.up is_up → is_some (routes_to (site_of l.site) is_up l.me (drop l.slave-index l.slaves)) ≡ is_some (routes_to (site_of l.site) is_up l.me l.slaves)
