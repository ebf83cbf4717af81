use Rattle.std.proofs.Common.{List, [], ◌∷◌, ◌++◌, ◌+◌, map, take, drop, refl, sym, subst, ◌∙◌}
use Rattle.net_model.specs.Tick.{Emission, New}
use Rattle.par_lanes.specs.Emitting.{MayEmit, HasEmitted}
use Rattle.par_lanes.proofs.Wanting.{take_on, drop_on}
use Rattle.par_lanes.proofs.Onward.{emitted_none, emitted_more}
use Rattle.par_lanes.proofs.plan_emission.emit_orders.Goals as goal

pub loop-order-init : goal.loop-order-init
loop-order-init g c = record {
  placed = c.requires.placed;
  same = refl;
  emitted = emitted_none (g.C.Calls.openings c.args.caller.now) g.D.Desk.side c.args.lanes.now.first c.args.line (λ said. g.C.Calls.went c.args.caller.now said c.args.caller.now) c.args.granted.now c.args.log.now (g.met.C.Calls.still c.args.caller.now);
  rest = λ es may. may;
}

pub emit_order-requires-clause-may : goal.emit_order-requires-clause-may
emit_order-requires-clause-may g c =
    let es = c.requires.may.0 in (
      map New (drop (c.loop-order.order-index + 1) c.args.orders.now) ++ es,
      subst (λ (wants : List Emission). MayEmit (g.C.Calls.openings c.loop-order.caller) g.D.Desk.side c.args.lanes.now.first (λ i. g.C.Calls.budget c.loop-order.caller i) g.D.Desk.shares c.args.lanes.now.shares.now c.loop-order.granted wants) (drop_on c.args.orders.now c.loop-order.order-index c.order-item.result c.loop-order-test.true c.order-item.is New es) (c.loop-order.invariant.rest es c.requires.may.1),
    )

pub loop-order-preserved : goal.loop-order-preserved
loop-order-preserved g c =
    let first = c.args.caller.now in
    let mid = c.loop-order.caller in
    let last = c.emit_order.new.caller in
    record {
      placed = c.emit_order.ensures.placed;
      same = (g.met.C.Calls.spends mid last c.emit_order.ensures.emitted.said c.emit_order.ensures.emitted.went).0 ∙ c.loop-order.invariant.same;
      emitted =
          subst (λ (wants : List Emission). HasEmitted (g.C.Calls.openings first) g.D.Desk.side c.args.lanes.now.first (λ said. g.C.Calls.went first said last) c.args.line wants c.args.granted.now c.args.log.now c.emit_order.new.granted c.emit_order.new.log)
          (sym (take_on c.args.orders.now c.loop-order.order-index c.order-item.result c.loop-order-test.true c.order-item.is New))
          (emitted_more (g.C.Calls.openings first) g.D.Desk.side c.args.lanes.now.first c.args.line (λ said. g.C.Calls.went first said mid) (λ said. g.C.Calls.went mid said last) (λ said. g.C.Calls.went first said last)
          (λ said more h k. g.met.C.Calls.onward first mid last said more h k) (map New (take c.loop-order.order-index c.args.orders.now)) (New c.order-item.result ∷ []) c.args.granted.now c.loop-order.granted c.emit_order.new.granted c.args.log.now c.loop-order.log c.emit_order.new.log
          (c.loop-order.invariant.emitted)
          (subst (λ ms. HasEmitted ms g.D.Desk.side c.args.lanes.now.first (λ said. g.C.Calls.went mid said last) c.args.line (New c.order-item.result ∷ []) c.loop-order.granted c.loop-order.log c.emit_order.new.granted c.emit_order.new.log) c.loop-order.invariant.same (c.emit_order.ensures.emitted)));
      rest = λ es may. c.emit_order.ensures.rest (map New (drop (c.loop-order.order-index + 1) c.args.orders.now) ++ es)
          (subst (λ (wants : List Emission). MayEmit (g.C.Calls.openings c.loop-order.caller) g.D.Desk.side c.args.lanes.now.first (λ i. g.C.Calls.budget c.loop-order.caller i) g.D.Desk.shares c.args.lanes.now.shares.now c.loop-order.granted wants) (drop_on c.args.orders.now c.loop-order.order-index c.order-item.result c.loop-order-test.true c.order-item.is New es) (c.loop-order.invariant.rest es may));
    }
