use Rattle.std.proofs.Common.{◌∙◌, [], ◌∷◌, ◌^◌, length, length-append, refl, sym, ap, subst, arith, Some, None, vec_capacity}
use Rattle.std.specs.List.{AllZip}
use Rattle.lane_shares.specs.Names.{Fits}
use Rattle.shared_objects.specs.declared.either.Either.TheVariants.{Left}
use Rattle.shared_objects.specs.Said.{Said}
use Rattle.par_managers.specs.Doing.{Ask, Answer}
use Rattle.kme_shared.proofs.Asking.{manager}
use Rattle.kme_shared.proofs.Doing.{did_turn, few_in_all}
use Rattle.kme_shared.proofs.Entries.{at_front, next_may, has_room, rest_may}
use Rattle.kme_shared.proofs.errands.BlockErrandsErrandsEitherPlanDeskLaneDesk.run.Goals as goal

pub turn_and_put-replied-requires-clause-manager : goal.turn_and_put-replied-requires-clause-manager
turn_and_put-replied-requires-clause-manager g c =
    manager c.requires.may.1.seated c.in-Some-Some.field-0-0
    (next_may c.requires.may.1 (Some c.in-Some-Some.field-0-0) (at_front c.in-Some-Some.ensures.items c.in-Some-Some.field-0-is))
    c.replace.result.items (subst (λ (v : _). AllZip Fits c.args.self.now.lanes.shares.now v.items) (sym c.replace.ensures.value) c.requires.may.1.fits)

pub push_reserved-requires : goal.push_reserved-requires
push_reserved-requires g c =
    let room = has_room c.requires.may.1 (Some c.in-Some-Some.field-0-0) (at_front c.in-Some-Some.ensures.items c.in-Some-Some.field-0-is) in
    omega (arith, room, c.args.keep.now.replies.ok.0)

pub returns-in-Some-Some-clause-does : goal.returns-in-Some-Some-clause-does
returns-in-Some-Some-clause-does g c =
    let call = c.in-Some-Some.field-0-0 in
    let replied = c.turn_and_put-replied.result in
    let did = c.turn_and_put-replied.ensures.did in
    let said : Said Ask Answer = record { machine = call.machine; place = replied.at; request = Left (record { place = call.request.place; job = call.request.job; octets = call.request.octets; granted = c.replace.result }); reply = Left did.0 } in (
      said ∷ did.2.said,
      (
        Some call,
        at_front c.in-Some-Some.ensures.items c.in-Some-Some.field-0-is,
        did_turn (g.C.Calls.openings c.args.caller.now) (λ d. d.side) c.args.self.now.lanes.first c.args.self.now.opening.value.lanes.items c.requires.may.1.seated.sides {Went = λ more. g.C.Calls.went c.args.caller.now (said ∷ more) c.turn_and_put-replied.new.caller} call (said ∷ []) replied
            (record { ask = (record { place = call.request.place; job = call.request.job; octets = call.request.octets; granted = c.replace.result }); answer = did.0; asked = (refl, refl, refl); are = refl; is = did.1 }) {granted' = c.turn_and_put-replied.new.granted.items} {log' = c.turn_and_put-replied.new.log} did.2 c.args.keep.now.replies.items c.push_reserved.new.self.items c.push_reserved.ensures.items,
      ),
      did.2.went,
      few_in_all (g.C.Calls.openings c.args.caller.now) (λ d. d.side) c.args.self.now.lanes.first {Went = λ more. g.C.Calls.went c.args.caller.now (said ∷ more) c.turn_and_put-replied.new.caller} said {granted' = c.turn_and_put-replied.new.granted.items} {log' = c.turn_and_put-replied.new.log} did.2 (2 ^ 21) c.turn_and_put-replied.ensures.few,
    )

pub returns-in-Some-Some-clause-rest : goal.returns-in-Some-Some-clause-rest
returns-in-Some-Some-clause-rest g c = λ rest may.
    rest_may may (Some c.in-Some-Some.field-0-0) (at_front c.in-Some-Some.ensures.items c.in-Some-Some.field-0-is)
    c.turn_and_put-replied.new.granted.items c.turn_and_put-replied.ensures.fits (length c.push_reserved.new.self.items) (vec_capacity c.push_reserved.new.self) 1 (ap length c.push_reserved.ensures.items ∙ length-append c.args.keep.now.replies.items (c.turn_and_put-replied.result ∷ [])) (omega arith) c.push_reserved.ensures.capacity

pub returns-in-Some-None-clause-does : goal.returns-in-Some-None-clause-does
returns-in-Some-None-clause-does g c = ([], (None, at_front c.in-Some-None.ensures.items c.in-Some-None.field-0-is, (refl, refl, refl)), c.say_nothing.ensures.went, λ i. omega arith)

pub returns-in-Some-None-clause-rest : goal.returns-in-Some-None-clause-rest
returns-in-Some-None-clause-rest g c = λ rest may.
    rest_may may None (at_front c.in-Some-None.ensures.items c.in-Some-None.field-0-is) c.args.keep.now.granted.items may.fits (length c.args.keep.now.replies.items) (vec_capacity c.args.keep.now.replies) 0 (omega arith) (omega arith) refl

pub returns-in-None-clause-does : goal.returns-in-None-clause-does
returns-in-None-clause-does g c = absurd (omega (arith, c.in-None.ensures.cases.0, c.args.keep.now.shift.ok.0, c.requires.may.1.entries))

pub returns-in-None-clause-rest : goal.returns-in-None-clause-rest
returns-in-None-clause-rest g c = λ rest may. absurd (omega (arith, c.in-None.ensures.cases.0, c.args.keep.now.shift.ok.0, may.entries))
