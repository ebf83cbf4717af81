use Rattle.std.proofs.Common.{◌≡◌, ◌++◌, List, map, take, drop}
use Rattle.net_model.specs.Tick.{Emission, New}
use Rattle.par_lanes.specs.Emitting.{MayEmit, HasEmitted}
use Rattle.par_lanes.proofs.plan_emission.emit_orders.Given as goal

abbrev pub invariant-loop-order : goal.invariant-loop-order
invariant-loop-order g l = record {
  placed : g.C.Calls.placed l.caller;
  same : g.C.Calls.openings l.caller ≡ g.C.Calls.openings l.fn.caller;
  emitted : HasEmitted (g.C.Calls.openings l.fn.caller) g.D.Desk.side l.lanes.first (λ said. g.C.Calls.went l.fn.caller said l.caller) l.fn.line (map New (take l.order-index l.orders)) l.fn.granted l.fn.log l.granted l.log;
  rest : (es : List Emission) → MayEmit (g.C.Calls.openings l.fn.caller) g.D.Desk.side l.lanes.first (λ i. g.C.Calls.budget l.fn.caller i) g.D.Desk.shares l.lanes.shares.now l.fn.granted (map New l.orders ++ es)
      → MayEmit (g.C.Calls.openings l.caller) g.D.Desk.side l.lanes.first (λ i. g.C.Calls.budget l.caller i) g.D.Desk.shares l.lanes.shares.now l.granted (map New (drop l.order-index l.orders) ++ es);
}
