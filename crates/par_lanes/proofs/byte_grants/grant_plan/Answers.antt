use Rattle.std.proofs.Common.{List, [], ◌∷◌, ◌++◌, ◌+◌, take, drop, sym, ap, subst}
use Rattle.net_model.specs.declared.order.Order.{Order}
use Rattle.par_lanes.specs.Granting.{MayGrant, HasGranted}
use Rattle.par_lanes.proofs.Wanting.{taken, left}
use Rattle.par_lanes.proofs.Issuing.{granted_none, granted_more}
use Rattle.par_lanes.proofs.byte_grants.grant_plan.Goals as goal

pub loop-order-init : goal.loop-order-init
loop-order-init c = record { granted = granted_none c.args.leases.now c.args.issuers.now c.args.granted.now; rest = λ os may. may }

pub grant_order-requires : goal.grant_order-requires
grant_order-requires c = record {
  may = (
    drop (c.loop-order.order-index + 1) c.args.orders.now ++ c.requires.may.0,
    subst (λ (os : List Order). MayGrant c.args.shares.now c.args.leases.now c.loop-order.issuers c.loop-order.granted os)
        (ap (λ (os : List Order). os ++ c.requires.may.0) (left c.args.orders.now c.loop-order.order-index c.order-item.result c.loop-order-test.true c.order-item.is)) (c.loop-order.invariant.rest c.requires.may.0 c.requires.may.1),
  );
}

pub loop-order-preserved : goal.loop-order-preserved
loop-order-preserved c = record {
  granted = subst (λ (os : List Order). HasGranted c.args.leases.now os c.args.issuers.now c.args.granted.now c.grant_order.new.issuers c.grant_order.new.granted)
      (sym (taken c.args.orders.now c.loop-order.order-index c.order-item.result c.loop-order-test.true c.order-item.is))
      (granted_more c.args.leases.now (take c.loop-order.order-index c.args.orders.now) (c.order-item.result ∷ []) c.args.issuers.now c.loop-order.issuers c.grant_order.new.issuers c.args.granted.now c.loop-order.granted c.grant_order.new.granted
      c.loop-order.invariant.granted c.grant_order.ensures.granted);
  rest = λ os may. c.grant_order.ensures.rest (drop (c.loop-order.order-index + 1) c.args.orders.now ++ os)
      (subst (λ (all : List Order). MayGrant c.args.shares.now c.args.leases.now c.loop-order.issuers c.loop-order.granted all)
      (ap (λ (all : List Order). all ++ os) (left c.args.orders.now c.loop-order.order-index c.order-item.result c.loop-order-test.true c.order-item.is)) (c.loop-order.invariant.rest os may));
}
