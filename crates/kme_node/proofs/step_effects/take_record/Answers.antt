use Rattle.std.proofs.Common.{◌∷◌, subst}
use Rattle.net_model.specs.declared.record.Record.{Record}
use Rattle.kme_node.specs.Holdings.{HasBatchRoom}
use Rattle.kme_node.proofs.Ends.{room_leased}
use Rattle.kme_node.proofs.step_effects.take_record.Goals as goal

pub returns-in-Lease-clause-rest : goal.returns-in-Lease-clause-rest
returns-in-Lease-clause-rest c rs fits room =
    room_leased c.in-Lease.lane c.in-Lease.end c.args.ports.now c.raise_lease.new.self c.raise_lease.ensures.ports c.raise_lease.ensures.rooms rs
    (subst (λ (r : Record). HasBatchRoom c.args.ports.now (r ∷ rs)) c.in-Lease.is room)
