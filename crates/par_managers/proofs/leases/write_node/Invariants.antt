use Rattle.declared_site.specs.SiteOf.{site_of}
use Rattle.par_managers.specs.Leases.{lease_at}
use Rattle.par_managers.proofs.Writing.{WroteTo}
use Rattle.par_managers.proofs.leases.write_node.Given as goal

abbrev pub invariant-loop-place : goal.invariant-loop-place
invariant-loop-place g l = WroteTo (site_of l.fn.site) l.fn.node (lease_at l.fn.post) l.place l.fn.leases l.leases
