use Rattle.std.proofs.Common.{List, ◌++◌, map, subst, append_assoc}
use Rattle.net_model.specs.Tick.{Emission, Again, New}
use Rattle.par_lanes.specs.Emitting.{MayEmit, HasEmitted}
use Rattle.par_lanes.proofs.Onward.{emitted_more}
use Rattle.par_lanes.proofs.plan_emission.emit_plan.Goals as goal

pub emit_repeats-requires-clause-may : goal.emit_repeats-requires-clause-may
emit_repeats-requires-clause-may g c = (
  c.args.granted.now,
  map New c.args.plan.now.orders.now ++ c.requires.may.0,
  subst (λ (wants : List Emission). MayEmit (g.C.Calls.openings c.args.caller.now) g.D.Desk.side c.args.lanes.now.first (λ i. g.C.Calls.budget c.args.caller.now i) g.D.Desk.shares c.args.lanes.now.shares.now c.args.granted.now wants)
      (append_assoc (map Again c.args.plan.now.repeats.now) (map New c.args.plan.now.orders.now) c.requires.may.0) c.requires.may.1,
)

pub emit_orders-requires-clause-may : goal.emit_orders-requires-clause-may
emit_orders-requires-clause-may g c = (
  c.requires.may.0,
  c.emit_repeats.ensures.rest c.args.granted.now (map New c.args.plan.now.orders.now ++ c.requires.may.0)
      (subst (λ (wants : List Emission). MayEmit (g.C.Calls.openings c.args.caller.now) g.D.Desk.side c.args.lanes.now.first (λ i. g.C.Calls.budget c.args.caller.now i) g.D.Desk.shares c.args.lanes.now.shares.now c.args.granted.now wants)
      (append_assoc (map Again c.args.plan.now.repeats.now) (map New c.args.plan.now.orders.now) c.requires.may.0) c.requires.may.1),
)

pub returns-clause-emitted : goal.returns-clause-emitted
returns-clause-emitted g c =
    let first = c.args.caller.now in
    let mid = c.emit_repeats.new.caller in
    let last = c.emit_orders.new.caller in
    let repeated = c.emit_repeats.ensures.emitted c.args.granted.now in
    let same = (g.met.C.Calls.spends first mid repeated.said repeated.went).0 in
    emitted_more (g.C.Calls.openings first) g.D.Desk.side c.args.lanes.now.first c.args.plan.now.line (λ said. g.C.Calls.went first said mid) (λ said. g.C.Calls.went mid said last) (λ said. g.C.Calls.went first said last)
    (λ said more h k. g.met.C.Calls.onward first mid last said more h k) (map Again c.args.plan.now.repeats.now) (map New c.args.plan.now.orders.now) c.args.granted.now c.args.granted.now c.emit_orders.new.granted
    c.args.log.now c.emit_repeats.new.log c.emit_orders.new.log repeated
    (subst (λ ms. HasEmitted ms g.D.Desk.side c.args.lanes.now.first (λ said. g.C.Calls.went mid said last) c.args.plan.now.line (map New c.args.plan.now.orders.now) c.args.granted.now c.emit_repeats.new.log c.emit_orders.new.granted c.emit_orders.new.log) same c.emit_orders.ensures.emitted)

pub returns-clause-rest : goal.returns-clause-rest
returns-clause-rest g c = λ es may.
    c.emit_orders.ensures.rest es (c.emit_repeats.ensures.rest c.args.granted.now (map New c.args.plan.now.orders.now ++ es)
    (subst (λ (wants : List Emission). MayEmit (g.C.Calls.openings c.args.caller.now) g.D.Desk.side c.args.lanes.now.first (λ i. g.C.Calls.budget c.args.caller.now i) g.D.Desk.shares c.args.lanes.now.shares.now c.args.granted.now wants)
    (append_assoc (map Again c.args.plan.now.repeats.now) (map New c.args.plan.now.orders.now) es) may))
