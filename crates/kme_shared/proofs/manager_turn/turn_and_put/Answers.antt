use Rattle.std.proofs.Common.{List, ◌∷◌, [], ◌^◌, refl, sym, subst, arith}
use Rattle.std.proofs.lemmas.Option.{slice_get_within}
use Rattle.std.specs.List.{AllZip}
use Rattle.lane_shares.specs.declared.share.Share.{Share}
use Rattle.lane_shares.specs.declared.shares.Shares.{Shares}
use Rattle.lane_shares.specs.Names.{Fits}
use Rattle.shared_objects.specs.declared.either.Either.{Either}
use Rattle.shared_objects.specs.declared.either.Either.TheVariants.{Left}
use Rattle.shared_objects.specs.Said.{Said}
use Rattle.kme_shared.proofs.Emitting.{one_said, may_emit, still_left, put_behind, given_back}
use Rattle.kme_shared.proofs.manager_turn.turn_and_put.Goals as goal

pub call_left-at-requires-clause-taken : goal.call_left-at-requires-clause-taken
call_left-at-requires-clause-taken g c = (c.requires.manager.0, c.requires.manager.1, c.requires.manager.2)

pub call_left-at-requires-clause-budget : goal.call_left-at-requires-clause-budget
call_left-at-requires-clause-budget g c =
    let below = slice_get_within (g.C.Calls.openings c.args.caller.now) c.args.call.machine (Left c.requires.manager.0) c.requires.manager.1 in
    let left = c.requires.budget c.args.call.machine below in
    omega (arith, left)

pub emit_plan-requires-clause-may : goal.emit_plan-requires-clause-may
emit_plan-requires-clause-may g c =
    let m = c.requires.manager.0 in
    let answer = c.call_left-at.result.1 in
    let call : Said (Either _ _) (Either _ _) = record { machine = c.args.call.machine; place = c.call_left-at.result.0; request = Left c.args.call.request; reply = Left answer } in
    let spent = g.met.C.Calls.spends c.args.caller.now c.call_left-at.new.caller (call ∷ []) c.call_left-at.ensures.went in (
      [],
      may_emit c.requires.manager.4 (g.M.Manages.shares m) c.requires.manager.3 (g.M.Manages.node m) answer.reply answer.granted.items c.as_mut_slice.result.now c.as_mut_slice.ensures.value (g.met.M.Manages.grants m c.args.call.request answer (c.call_left-at.ensures.answered m c.requires.manager.1))
          (g.C.Calls.openings c.call_left-at.new.caller) spent.0 (λ i. g.C.Calls.budget c.call_left-at.new.caller i)
          (λ i below. still_left (g.C.Calls.budget c.args.caller.now i) (g.C.Calls.budget c.call_left-at.new.caller i) _ (2 ^ 21) (c.requires.budget i below) (spent.1 i) (one_said i call))
          c.plan_of-plan.result.repeats.now c.plan_of-plan.result.orders.now c.plan_of-plan.ensures.wanted,
    )

pub returns-clause-did : goal.returns-clause-did
returns-clause-did g c =
    let m = c.requires.manager.0 in
    let answer = c.call_left-at.result.1 in
    let call : Said (Either _ _) (Either _ _) = record { machine = c.args.call.machine; place = c.call_left-at.result.0; request = Left c.args.call.request; reply = Left answer } in
    let spent = g.met.C.Calls.spends c.args.caller.now c.call_left-at.new.caller (call ∷ []) c.call_left-at.ensures.went in
    let after = c.emit_plan.ensures.rest [] (
    may_emit c.requires.manager.4 (g.M.Manages.shares m) c.requires.manager.3 (g.M.Manages.node m) answer.reply answer.granted.items c.as_mut_slice.result.now c.as_mut_slice.ensures.value (g.met.M.Manages.grants m c.args.call.request answer (c.call_left-at.ensures.answered m c.requires.manager.1))
    (g.C.Calls.openings c.call_left-at.new.caller) spent.0 (λ i. g.C.Calls.budget c.call_left-at.new.caller i)
    (λ i below. still_left (g.C.Calls.budget c.args.caller.now i) (g.C.Calls.budget c.call_left-at.new.caller i) _ (2 ^ 21) (c.requires.budget i below) (spent.1 i) (one_said i call))
    c.plan_of-plan.result.repeats.now c.plan_of-plan.result.orders.now c.plan_of-plan.ensures.wanted) in
    let given = (g.met.M.Manages.grants m c.args.call.request answer (c.call_left-at.ensures.answered m c.requires.manager.1)).fits in (
      answer,
      refl,
      put_behind g.D.Desk.side c.args.lanes.now.first (g.C.Calls.openings c.args.caller.now) (g.C.Calls.openings c.call_left-at.new.caller) spent.0
          (λ said went. g.met.C.Calls.onward c.args.caller.now c.call_left-at.new.caller c.emit_plan.new.caller (call ∷ []) said c.call_left-at.ensures.went went)
          _ _ c.plan_of-plan.ensures.line _ _ c.plan_of-plan.ensures.wanted answer.granted.items c.as_mut_slice.result.now c.as_mut_slice.ensures.value c.emit_plan.new.granted _
          (given_back c.args.lanes.now.shares.now answer.granted.items c.emit_plan.new.granted (subst (λ (ss : List Shares). AllZip Fits ss answer.granted.items) c.requires.manager.3 given) after.fits answer.granted.len answer.granted.ok.0)
          c.args.log.now c.emit_plan.new.log c.emit_plan.ensures.emitted,
    )

pub returns-clause-few : goal.returns-clause-few
returns-clause-few g c =
    let m = c.requires.manager.0 in
    (g.met.M.Manages.grants m c.args.call.request c.call_left-at.result.1 (c.call_left-at.ensures.answered m c.requires.manager.1)).few

pub returns-clause-fits : goal.returns-clause-fits
returns-clause-fits g c =
    let m = c.requires.manager.0 in
    let answer = c.call_left-at.result.1 in
    let call : Said (Either _ _) (Either _ _) = record { machine = c.args.call.machine; place = c.call_left-at.result.0; request = Left c.args.call.request; reply = Left answer } in
    let spent = g.met.C.Calls.spends c.args.caller.now c.call_left-at.new.caller (call ∷ []) c.call_left-at.ensures.went in
    let after = c.emit_plan.ensures.rest [] (
    may_emit c.requires.manager.4 (g.M.Manages.shares m) c.requires.manager.3 (g.M.Manages.node m) answer.reply answer.granted.items c.as_mut_slice.result.now c.as_mut_slice.ensures.value (g.met.M.Manages.grants m c.args.call.request answer (c.call_left-at.ensures.answered m c.requires.manager.1))
    (g.C.Calls.openings c.call_left-at.new.caller) spent.0 (λ i. g.C.Calls.budget c.call_left-at.new.caller i)
    (λ i below. still_left (g.C.Calls.budget c.args.caller.now i) (g.C.Calls.budget c.call_left-at.new.caller i) _ (2 ^ 21) (c.requires.budget i below) (spent.1 i) (one_said i call))
    c.plan_of-plan.result.repeats.now c.plan_of-plan.result.orders.now c.plan_of-plan.ensures.wanted) in
    let given = (g.met.M.Manages.grants m c.args.call.request answer (c.call_left-at.ensures.answered m c.requires.manager.1)).fits in
    subst (λ (gs : List Share). AllZip Fits c.args.lanes.now.shares.now gs)
    (sym (given_back c.args.lanes.now.shares.now answer.granted.items c.emit_plan.new.granted (subst (λ (ss : List Shares). AllZip Fits ss answer.granted.items) c.requires.manager.3 given) after.fits answer.granted.len answer.granted.ok.0))
    after.fits
