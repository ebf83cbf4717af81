use Rattle.std.proofs.Common.{◌≤◌, refl, sym, subst}
use Rattle.declared_site.specs.SiteOf.{site_of}
use Rattle.declared_site.specs.declared.site.Site.{Site as Declared}
use Rattle.par_managers.proofs.Going.{few_links, may_now, still_going}
use Rattle.par_managers.proofs.Granted.{tells, whole_end, may, shared_after, issued_after, fits_after, granted_after}
use Rattle.par_managers.proofs.machine.PlanDeskMachine.turn.Goals as goal
use Rattle.world_state.specs.Outside.{outside}

pub take_turn-reply-requires : goal.take_turn-reply-requires
take_turn-reply-requires g c = record {
  may = may_now (outside g.K.Disk g.Q.Device g.E.Entropy g.X.Wire) c.args.self.now.opening.value c.args.self.now.node c.args.self.now.post c.args.self.now.up
      c.args.request.place c.args.request.job.now c.args.request.octets c.args.self.now.way c.requires.come;
}

pub ends-ends-requires : goal.ends-ends-requires
ends-ends-requires g c =
    subst (λ (d : Declared). (site_of d).links ≤ 32) (sym c.args.self.now.sited)
    (few_links (outside g.K.Disk g.Q.Device g.E.Entropy g.X.Wire) c.args.self.now.opening.value c.args.self.now.node c.args.self.now.post c.args.self.now.up
    c.args.self.now.way)

pub slice_bounds-grant_plan-end : goal.slice_bounds-grant_plan-end
slice_bounds-grant_plan-end g c =
    whole_end (outside g.K.Disk g.Q.Device g.E.Entropy g.X.Wire) c.args.self.now.opening.value c.args.self.now.node
    c.args.self.now.post c.take_turn-reply.new.post c.args.self.now.up c.args.request.place c.args.request.job.now c.args.request.octets c.take_turn-reply.result c.args.self.now.way c.requires.come c.take_turn-reply.ensures
    c.args.self.now.site.now c.args.self.now.sited c.args.self.now.shares.now c.args.self.now.issuers.items c.args.self.now.lanes c.args.self.now.shared c.args.self.now.issued c.args.request.granted.items c.requires.fits
    c.ends-ends.result c.ends-ends.ensures

pub grant_plan-requires : goal.grant_plan-requires
grant_plan-requires g c = record {
  may =
      may (outside g.K.Disk g.Q.Device g.E.Entropy g.X.Wire) c.args.self.now.opening.value c.args.self.now.node
      c.args.self.now.post c.take_turn-reply.new.post c.args.self.now.up c.args.request.place c.args.request.job.now c.args.request.octets c.take_turn-reply.result c.args.self.now.way c.requires.come c.take_turn-reply.ensures
      c.args.self.now.site.now c.args.self.now.sited c.args.self.now.shares.now c.args.self.now.issuers.items c.args.self.now.lanes c.args.self.now.shared c.args.self.now.issued c.args.request.granted.items c.requires.fits
      c.ends-ends.result c.ends-ends.ensures c.as_mut_slice.result.now c.as_mut_slice-2.result.now c.orders.result.now c.as_mut_slice.ensures.value c.as_mut_slice-2.ensures.value c.orders.ensures;
}

pub invariant_of-self : goal.invariant_of-self
invariant_of-self g c = record {
  sited = c.args.self.now.sited;
  way = still_going (outside g.K.Disk g.Q.Device g.E.Entropy g.X.Wire) c.args.self.now.opening.value c.args.self.now.node c.args.self.now.post c.args.self.now.up
      c.args.request.place c.args.request.job.now c.args.request.octets c.args.self.now.way c.requires.come c.take_turn-reply.new.post c.take_turn-reply.result c.take_turn-reply.ensures;
  lanes = c.args.self.now.lanes;
  shared =
      shared_after (outside g.K.Disk g.Q.Device g.E.Entropy g.X.Wire) c.args.self.now.opening.value c.args.self.now.node
      c.args.self.now.post c.take_turn-reply.new.post c.args.self.now.up c.args.request.place c.args.request.job.now c.args.request.octets c.take_turn-reply.result c.args.self.now.way c.requires.come c.take_turn-reply.ensures
      c.args.self.now.site.now c.args.self.now.sited c.args.self.now.shares.now c.args.self.now.issuers.items c.args.self.now.lanes c.args.self.now.shared c.args.self.now.issued c.args.request.granted.items c.requires.fits
      c.ends-ends.result c.ends-ends.ensures c.as_mut_slice.result.now c.as_mut_slice-2.result.now c.orders.result.now c.as_mut_slice.ensures.value c.as_mut_slice-2.ensures.value c.orders.ensures
      c.grant_plan.new.issuers c.grant_plan.new.granted c.grant_plan.ensures.granted c.grant_plan.ensures.rest c.args.self.now.issuers.len c.args.self.now.issuers.ok.0;
  issued =
      issued_after (outside g.K.Disk g.Q.Device g.E.Entropy g.X.Wire) c.args.self.now.opening.value c.args.self.now.node
      c.args.self.now.post c.take_turn-reply.new.post c.args.self.now.up c.args.request.place c.args.request.job.now c.args.request.octets c.take_turn-reply.result c.args.self.now.way c.requires.come c.take_turn-reply.ensures
      c.args.self.now.site.now c.args.self.now.sited c.args.self.now.shares.now c.args.self.now.issuers.items c.args.self.now.lanes c.args.self.now.shared c.args.self.now.issued c.args.request.granted.items c.requires.fits
      c.ends-ends.result c.ends-ends.ensures c.as_mut_slice.result.now c.as_mut_slice-2.result.now c.orders.result.now c.as_mut_slice.ensures.value c.as_mut_slice-2.ensures.value c.orders.ensures
      c.grant_plan.new.issuers c.grant_plan.new.granted c.grant_plan.ensures.granted c.grant_plan.ensures.rest c.args.self.now.issuers.len c.args.self.now.issuers.ok.0;
}

pub returns-clause-turns : goal.returns-clause-turns
returns-clause-turns g c =
    let told =
    tells (outside g.K.Disk g.Q.Device g.E.Entropy g.X.Wire) c.args.self.now.opening.value c.args.self.now.node
    c.args.self.now.post c.take_turn-reply.new.post c.args.self.now.up c.args.request.place c.args.request.job.now c.args.request.octets c.take_turn-reply.result c.args.self.now.way c.requires.come c.take_turn-reply.ensures in
    record {
      happens = λ net w may. c.take_turn-reply.ensures net w c.args.self.now.node c.args.request.place may;
      can = told.can;
      few = told.few;
      fits =
          fits_after (outside g.K.Disk g.Q.Device g.E.Entropy g.X.Wire) c.args.self.now.opening.value
          c.args.self.now.node c.args.self.now.post c.take_turn-reply.new.post c.args.self.now.up c.args.request.place c.args.request.job.now c.args.request.octets c.take_turn-reply.result c.args.self.now.way c.requires.come
          c.take_turn-reply.ensures c.args.self.now.site.now c.args.self.now.sited c.args.self.now.shares.now c.args.self.now.issuers.items c.args.self.now.lanes c.args.self.now.shared c.args.self.now.issued
          c.args.request.granted.items c.requires.fits c.ends-ends.result c.ends-ends.ensures c.as_mut_slice.result.now c.as_mut_slice-2.result.now c.orders.result.now c.as_mut_slice.ensures.value c.as_mut_slice-2.ensures.value
          c.orders.ensures c.grant_plan.new.issuers c.grant_plan.new.granted c.grant_plan.ensures.granted c.grant_plan.ensures.rest c.args.request.granted.len c.args.request.granted.ok.0;
      granted =
          granted_after (outside g.K.Disk g.Q.Device g.E.Entropy g.X.Wire) c.args.self.now.opening.value
          c.args.self.now.node c.args.self.now.post c.take_turn-reply.new.post c.args.self.now.up c.args.request.place c.args.request.job.now c.args.request.octets c.take_turn-reply.result c.args.self.now.way c.requires.come
          c.take_turn-reply.ensures c.args.self.now.site.now c.args.self.now.sited c.args.self.now.shares.now c.args.self.now.issuers.items c.args.self.now.lanes c.args.self.now.shared c.args.self.now.issued
          c.args.request.granted.items c.requires.fits c.ends-ends.result c.ends-ends.ensures c.as_mut_slice.result.now c.as_mut_slice-2.result.now c.orders.result.now c.as_mut_slice.ensures.value c.as_mut_slice-2.ensures.value
          c.orders.ensures c.grant_plan.new.issuers c.grant_plan.new.granted c.grant_plan.ensures.granted c.grant_plan.ensures.rest c.args.request.granted.len c.args.request.granted.ok.0;
      up = refl;
    }
