use Rattle.std.proofs.Common.{sym, subst}
use Rattle.par_managers.specs.Going.{IsOnItsWay}
use Rattle.par_managers.proofs.Going.{begins}
use Rattle.par_managers.proofs.Beginning.{issued_first}
use Rattle.par_managers.proofs.desk.PlanDesk.new.Goals as goal
use Rattle.world_state.specs.Outside.{outside}

pub invariant_of-result : goal.invariant_of-result
invariant_of-result g c =
    let a = c.requires.ready in
    let o = c.args.opening.value in
    record {
      sited = c.requires.sited;
      way = ∣ subst (IsOnItsWay (outside g.K.Disk g.Q.Device g.E.Entropy g.X.Wire) o c.args.node c.args.post) (sym c.requires.up)
          (begins (outside g.K.Disk g.Q.Device g.E.Entropy g.X.Wire) o c.args.node a.0 a.1 c.args.post a.2 c.requires.post) ∣₁;
      lanes = c.requires.lanes;
      shared = c.requires.shared;
      issued = issued_first (outside g.K.Disk g.Q.Device g.E.Entropy g.X.Wire) o a.0 a.1 a.2 c.args.node c.args.post c.requires.post c.args.shares.now c.args.issuers.items
          c.requires.lanes c.requires.opened;
    }
