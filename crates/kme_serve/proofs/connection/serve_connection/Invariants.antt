use Rattle.std.proofs.Common.{◌+◌, ◌-◌, ◌<◌, ◌≤◌, length}
use Rattle.kme_serve.proofs.Going.{GoesOn}
use Rattle.kme_serve.proofs.connection.serve_connection.Given as goal

abbrev pub invariant-exchanges : goal.invariant-exchanges
invariant-exchanges g l = record {
  fits : g.M.Managers.fits l.managers l.pass;
  budget : g.M.Managers.budget l.managers l.fn.node l.fn.pass ≤ g.M.Managers.budget l.managers l.fn.node l.pass + l.count;
  few : l.count < 1000;
  owed : 0 < length l.buffers.owed → 0 < l.count;
  goes_on : GoesOn l.api.nodes l.api.entitlements l.fn.node (g.M.Managers.answers l.managers l.fn.node) (g.M.Managers.seen l.managers l.fn.node) l.count l.buffers.kept l.buffers.owed
      (record { left = g.S.Source.left l.source; taken = g.W.Sink.taken l.sink; read_faults = g.S.Source.faults l.source; write_faults = g.W.Sink.faults l.sink; pass = l.pass })
      (record { left = g.S.Source.left l.fn.source; taken = g.W.Sink.taken l.fn.sink; read_faults = g.S.Source.faults l.fn.source; write_faults = g.W.Sink.faults l.fn.sink; pass = l.fn.pass });
}

abbrev pub decreases-exchanges : goal.decreases-exchanges
decreases-exchanges g l = 1000 - l.count
