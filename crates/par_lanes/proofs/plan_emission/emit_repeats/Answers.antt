use Rattle.std.proofs.Common.{arith, List, [], ◌∷◌, ◌++◌, ◌+◌, map, take, drop, refl, sym, subst, ◌∙◌}
use Rattle.std.proofs.lemmas.List.{take_all, drop_all}
use Rattle.net_model.specs.declared.repeat.Repeat.{Repeat}
use Rattle.net_model.specs.Tick.{Emission, Again}
use Rattle.par_lanes.specs.Emitting.{MayEmit, HasEmitted}
use Rattle.par_lanes.proofs.Wanting.{take_on, drop_on}
use Rattle.par_lanes.proofs.Onward.{emitted_none, emitted_more}
use Rattle.par_lanes.proofs.plan_emission.emit_repeats.Goals as goal

pub loop-repeat-init : goal.loop-repeat-init
loop-repeat-init g c = record {
  placed = c.requires.placed;
  same = refl;
  emitted = λ granted. emitted_none (g.C.Calls.openings c.args.caller.now) g.D.Desk.side c.args.lanes.now.first c.args.line (λ said. g.C.Calls.went c.args.caller.now said c.args.caller.now) granted c.args.log.now (g.met.C.Calls.still c.args.caller.now);
  rest = λ granted es may. may;
}

pub emit_repeat-requires-clause-may : goal.emit_repeat-requires-clause-may
emit_repeat-requires-clause-may g c =
    let granted = c.requires.may.0 in
    let es = c.requires.may.1 in (
      granted,
      map Again (drop (c.loop-repeat.repeat-index + 1) c.args.repeats.now) ++ es,
      subst (λ (wants : List Emission). MayEmit (g.C.Calls.openings c.loop-repeat.caller) g.D.Desk.side c.args.lanes.now.first (λ i. g.C.Calls.budget c.loop-repeat.caller i) g.D.Desk.shares c.args.lanes.now.shares.now granted wants) (drop_on c.args.repeats.now c.loop-repeat.repeat-index c.repeat-item.result c.loop-repeat-test.true c.repeat-item.is Again es) (c.loop-repeat.invariant.rest granted es c.requires.may.2),
    )

pub loop-repeat-preserved : goal.loop-repeat-preserved
loop-repeat-preserved g c =
    let first = c.args.caller.now in
    let mid = c.loop-repeat.caller in
    let last = c.emit_repeat.new.caller in
    record {
      placed = c.emit_repeat.ensures.placed;
      same = (g.met.C.Calls.spends mid last (c.emit_repeat.ensures.emitted []).said (c.emit_repeat.ensures.emitted []).went).0 ∙ c.loop-repeat.invariant.same;
      emitted = λ granted.
          subst (λ (wants : List Emission). HasEmitted (g.C.Calls.openings first) g.D.Desk.side c.args.lanes.now.first (λ said. g.C.Calls.went first said last) c.args.line wants granted c.args.log.now granted c.emit_repeat.new.log)
          (sym (take_on c.args.repeats.now c.loop-repeat.repeat-index c.repeat-item.result c.loop-repeat-test.true c.repeat-item.is Again))
          (emitted_more (g.C.Calls.openings first) g.D.Desk.side c.args.lanes.now.first c.args.line (λ said. g.C.Calls.went first said mid) (λ said. g.C.Calls.went mid said last) (λ said. g.C.Calls.went first said last)
          (λ said more h k. g.met.C.Calls.onward first mid last said more h k) (map Again (take c.loop-repeat.repeat-index c.args.repeats.now)) (Again c.repeat-item.result ∷ []) granted granted granted c.args.log.now c.loop-repeat.log c.emit_repeat.new.log
          (c.loop-repeat.invariant.emitted granted)
          (subst (λ ms. HasEmitted ms g.D.Desk.side c.args.lanes.now.first (λ said. g.C.Calls.went mid said last) c.args.line (Again c.repeat-item.result ∷ []) granted c.loop-repeat.log granted c.emit_repeat.new.log) c.loop-repeat.invariant.same (c.emit_repeat.ensures.emitted granted)));
      rest = λ granted es may. c.emit_repeat.ensures.rest granted (map Again (drop (c.loop-repeat.repeat-index + 1) c.args.repeats.now) ++ es)
          (subst (λ (wants : List Emission). MayEmit (g.C.Calls.openings c.loop-repeat.caller) g.D.Desk.side c.args.lanes.now.first (λ i. g.C.Calls.budget c.loop-repeat.caller i) g.D.Desk.shares c.args.lanes.now.shares.now granted wants) (drop_on c.args.repeats.now c.loop-repeat.repeat-index c.repeat-item.result c.loop-repeat-test.true c.repeat-item.is Again es) (c.loop-repeat.invariant.rest granted es may));
    }

pub returns-clause-emitted : goal.returns-clause-emitted
returns-clause-emitted g c = λ granted.
    let ends = c.loop-repeat-test.false in
    subst (λ (repeats : List Repeat). HasEmitted (g.C.Calls.openings c.args.caller.now) g.D.Desk.side c.args.lanes.now.first (λ said. g.C.Calls.went c.args.caller.now said c.loop-repeat.caller) c.args.line (map Again repeats) granted c.args.log.now granted c.loop-repeat.log)
    (take_all c.loop-repeat.repeat-index c.args.repeats.now (omega (arith, ends))) (c.loop-repeat.invariant.emitted granted)

pub returns-clause-rest : goal.returns-clause-rest
returns-clause-rest g c = λ granted es may.
    let ends = c.loop-repeat-test.false in
    subst (λ (repeats : List Repeat). MayEmit (g.C.Calls.openings c.loop-repeat.caller) g.D.Desk.side c.args.lanes.now.first (λ i. g.C.Calls.budget c.loop-repeat.caller i) g.D.Desk.shares c.args.lanes.now.shares.now granted (map Again repeats ++ es))
    (drop_all c.loop-repeat.repeat-index c.args.repeats.now (omega (arith, ends))) (c.loop-repeat.invariant.rest granted es may)
