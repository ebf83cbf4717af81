use Rattle.std.proofs.Common.{◌++◌, List, take, drop}
use Rattle.net_model.specs.declared.order.Order.{Order}
use Rattle.par_lanes.specs.Granting.{MayGrant, HasGranted}
use Rattle.par_lanes.proofs.byte_grants.grant_plan.Given as goal

abbrev pub invariant-loop-order : goal.invariant-loop-order
invariant-loop-order l = record {
  granted : HasGranted l.leases (take l.order-index l.orders) l.fn.issuers l.fn.granted l.issuers l.granted;
  rest : (os : List Order) → MayGrant l.shares l.leases l.fn.issuers l.fn.granted (l.orders ++ os) → MayGrant l.shares l.leases l.issuers l.granted (drop l.order-index l.orders ++ os);
}
