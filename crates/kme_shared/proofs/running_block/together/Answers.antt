use denote.Param.Send.{sendable}
use Rattle.std.proofs.Common.{sym, subst}
use Rattle.declared_site.specs.SiteOf.{IsDeclared}
use Rattle.declared_site.specs.declared.site.Site.{Site as Declared}
use Rattle.world_state.specs.Armed.{most_armed}
use Rattle.world_state.specs.Rests.{Rests}
use Rattle.world_state.specs.Stands.{Stands}
use Rattle.world_state.specs.Tallied.{Tallied}
use Rattle.world_state.specs.declared.state.State.{State}
use Rattle.kme_shared.specs.declared.run_state.Running.{Running}
use Rattle.kme_shared.proofs.Carried.{together_in, together_out}
use Rattle.kme_shared.proofs.Crews.{may_alone, did_alone}
use Rattle.kme_shared.proofs.Sizes.{sized_together}
use Rattle.kme_shared.proofs.running_block.together.Goals as goal
use Rattle.world_state.specs.Outside.{outside}

pub run_block-requires : goal.run_block-requires
run_block-requires g c =
    let b = c.type_bounds in (
      search (sendable, b.send-K),
      (
        search (sendable, b.send-Q),
        (
          search (sendable, b.send-E),
          (
            search (sendable, b.send-X),
            (
              search (sendable, b.sync-R),
              (
                search (sendable, b.sync-G),
                may_alone (λ (s : State g.row.K.Denot g.row.Q.Denot g.row.E.Denot g.row.X.Denot). s.site) (Stands (outside g.K.Disk g.Q.Device g.E.Entropy g.X.Wire))
                    (Rests (outside g.K.Disk g.Q.Device g.E.Entropy g.X.Wire)) (Tallied (outside g.K.Disk g.Q.Device g.E.Entropy g.X.Wire))
                    (λ (s : State g.row.K.Denot g.row.Q.Denot g.row.E.Denot g.row.X.Denot). most_armed g.K.Disk s.posts.items) c.crew-crew.result c.args.workers c.crew-crew.ensures c.args.jobs.now c.args.running.now.state
                    (together_in (λ (r : Running g.row.K.Denot g.row.Q.Denot g.row.E.Denot g.row.X.Denot g.K.Disk g.Q.Device g.E.Entropy g.X.Wire). r.state) (Stands (outside g.K.Disk g.Q.Device g.E.Entropy g.X.Wire))
                    (λ (s : State g.row.K.Denot g.row.Q.Denot g.row.E.Denot g.row.X.Denot). s.site) c.args.running.now c.args.workers c.args.jobs.now c.requires.may),
              ),
            ),
          ),
        ),
      ),
    )

pub returns : goal.returns
returns g c = record {
  did = together_out (λ (r : Running g.row.K.Denot g.row.Q.Denot g.row.E.Denot g.row.X.Denot g.K.Disk g.Q.Device g.E.Entropy g.X.Wire). r.state) (Stands (outside g.K.Disk g.Q.Device g.E.Entropy g.X.Wire))
      (Tallied (outside g.K.Disk g.Q.Device g.E.Entropy g.X.Wire)) c.args.running.now _
      (λ (s : State g.row.K.Denot g.row.Q.Denot g.row.E.Denot g.row.X.Denot). s.site) (Rests (outside g.K.Disk g.Q.Device g.E.Entropy g.X.Wire))
      (λ (s : State g.row.K.Denot g.row.Q.Denot g.row.E.Denot g.row.X.Denot). most_armed g.K.Disk s.posts.items)
      c.run_block.result c.args.workers c.args.jobs.now
      (did_alone (λ (s : State g.row.K.Denot g.row.Q.Denot g.row.E.Denot g.row.X.Denot). s.site) (Stands (outside g.K.Disk g.Q.Device g.E.Entropy g.X.Wire))
      (Rests (outside g.K.Disk g.Q.Device g.E.Entropy g.X.Wire)) (Tallied (outside g.K.Disk g.Q.Device g.E.Entropy g.X.Wire))
      (λ (s : State g.row.K.Denot g.row.Q.Denot g.row.E.Denot g.row.X.Denot). most_armed g.K.Disk s.posts.items) c.crew-crew.result c.args.workers c.crew-crew.ensures c.args.jobs.now c.args.running.now.state _ c.requires.may.some
      c.run_block.result c.run_block.ensures.did);
}

pub invariant_of-running : goal.invariant_of-running
invariant_of-running g c =
    let q = c.requires.may.ready in
    let did = c.run_block.ensures.did in
    record {
      declared = subst (λ (d : Declared). IsDeclared d) (sym did.sited) c.args.running.now.declared;
      sized = sized_together (outside g.K.Disk g.Q.Device g.E.Entropy g.X.Wire)
          c.args.running.now.state c.run_block.new.state q.0 q.1 c.crew-crew.result c.args.jobs.now
          (record { stands = q.2.stands; quiet = q.2.quiet }) c.run_block.result did.done did.left;
    }
