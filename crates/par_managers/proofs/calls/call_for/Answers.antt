use Rattle.std.proofs.Common.{sym, ap, subst, ◌∙◌}
use Rattle.run_ops.specs.declared.job.Job.{Job}
use Rattle.run_ops.specs.Jobs.{is_job, IsThere}
use Rattle.declared_site.specs.SiteOf.{site_of}
use Rattle.par_managers.proofs.Coming.{comes}
use Rattle.par_managers.proofs.calls.call_for.Goals as goal
use Rattle.world_state.specs.Outside.{outside}

pub returns-in_ok-octets-in-Pass-clause-coming : goal.returns-in_ok-octets-in-Pass-clause-coming
returns-in_ok-octets-in-Pass-clause-coming g c = λ there.
    comes (outside g.K.Disk g.Q.Device g.E.Entropy g.X.Wire) c.args.state.now c.in-Pass.lane c.in-Pass.number c.call-in-Pass.result
    (sym (ap (is_job (site_of c.args.state.now.site)) c.in-Pass.is) ∙ c.requires.fit) c.requires.ready
    (c.call-in-Pass.ensures.machine ∙ c.receiver.ensures) (c.call-in-Pass.ensures.job ∙ c.in-Pass.is)
    (rw c.call-in-Pass.ensures.octets c.in_ok-octets-in-Pass.ensures.found)
    (λ net w so. subst (λ (j : Job). IsThere w j) c.in-Pass.is (there net w so))
