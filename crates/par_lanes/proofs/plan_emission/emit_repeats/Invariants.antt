use Rattle.std.proofs.Common.{◌≡◌, ◌++◌, List, map, take, drop}
use Rattle.net_model.specs.Tick.{Emission, Again}
use Rattle.lane_shares.specs.declared.share.Share.{Share}
use Rattle.par_lanes.specs.Emitting.{MayEmit, HasEmitted}
use Rattle.par_lanes.proofs.plan_emission.emit_repeats.Given as goal

abbrev pub invariant-loop-repeat : goal.invariant-loop-repeat
invariant-loop-repeat g l = record {
  placed : g.C.Calls.placed l.caller;
  same : g.C.Calls.openings l.caller ≡ g.C.Calls.openings l.fn.caller;
  emitted : (granted : List Share) → HasEmitted (g.C.Calls.openings l.fn.caller) g.D.Desk.side l.lanes.first (λ said. g.C.Calls.went l.fn.caller said l.caller) l.fn.line (map Again (take l.repeat-index l.repeats)) granted l.fn.log granted l.log;
  rest : (granted : List Share) (es : List Emission) → MayEmit (g.C.Calls.openings l.fn.caller) g.D.Desk.side l.lanes.first (λ i. g.C.Calls.budget l.fn.caller i) g.D.Desk.shares l.lanes.shares.now granted (map Again l.repeats ++ es)
      → MayEmit (g.C.Calls.openings l.caller) g.D.Desk.side l.lanes.first (λ i. g.C.Calls.budget l.caller i) g.D.Desk.shares l.lanes.shares.now granted (map Again (drop l.repeat-index l.repeats) ++ es);
}
