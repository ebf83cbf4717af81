use Rattle.std.proofs.Common.{rules, ◌+◌, ◌<◌, length, set, get_or, sym, subst}
use Rattle.std.proofs.lemmas.List.{length-set}
use Rattle.net_model.specs.Tick.{New}
use Rattle.par_lanes.specs.Saying.{Goes}
use Rattle.par_lanes.proofs.Ready.{its_desk, in_shares, in_granted, granted_at, shares_are, may_call, grant_is_one, grant_reaches, fits_on}
use Rattle.par_lanes.proofs.Steps.{grant_less, emitted_one, may_on}
use Rattle.par_lanes.proofs.plan_emission.emit_order.Goals as goal

pub bounds-lanes-at : goal.bounds-lanes-at
bounds-lanes-at g c = in_shares c.requires.may.1 c.place_of-at.result c.place_of-at.ensures.place

pub offset_bounds-lanes-at : goal.offset_bounds-lanes-at
offset_bounds-lanes-at g c = let l : c.place_of-at.result < length c.args.lanes.now.shares.now = in_shares c.requires.may.1 c.place_of-at.result c.place_of-at.ensures.place in search rules

pub bounds-granted-at : goal.bounds-granted-at
bounds-granted-at g c = in_granted c.requires.may.1 c.place_of-at.result c.place_of-at.ensures.place

pub claim_and_seal-frame-requires-clause-desk : goal.claim_and_seal-frame-requires-clause-desk
claim_and_seal-frame-requires-clause-desk g c =
    let d = its_desk c.requires.may.1 c.place_of-at.result c.place_of-at.ensures.place in
    (d.0, d.1, shares_are c.requires.may.1 c.place_of-at.result c.place_of-at.ensures.place c.index-lanes-at.result, d.2)

pub claim_and_seal-frame-requires-clause-budget : goal.claim_and_seal-frame-requires-clause-budget
claim_and_seal-frame-requires-clause-budget g c = may_call c.requires.may.1 c.place_of-at.result c.place_of-at.ensures.place

pub claim_and_seal-frame-requires-clause-grant : goal.claim_and_seal-frame-requires-clause-grant
claim_and_seal-frame-requires-clause-grant g c =
    grant_is_one c.requires.may.1 c.place_of-at.result c.place_of-at.ensures.place c.index-granted-at.result c.index-lanes-at.result

pub claim_and_seal-frame-requires-clause-granted : goal.claim_and_seal-frame-requires-clause-granted
claim_and_seal-frame-requires-clause-granted g c =
    grant_reaches c.requires.may.1 c.place_of-at.result c.place_of-at.ensures.place c.index-granted-at.result

pub returns-clause-emitted : goal.returns-clause-emitted
returns-clause-emitted g c =
    let k = c.place_of-at.result in
    let home = c.place_of-at.ensures.place in
    let old = c.args.caller.now in
    let new = c.claim_and_seal-frame.new.caller in
    let e = New c.args.order.now in
    let part = get_or c.args.granted.now k c.index-granted-at.result in
    let goes = subst (λ n. Goes (λ said. g.C.Calls.went old said new) (g.C.Calls.openings old) g.D.Desk.side (c.args.lanes.now.first + n) e c.claim_and_seal-frame.result) home c.claim_and_seal-frame.ensures.goes in
    emitted_one (g.C.Calls.openings old) g.D.Desk.side c.args.lanes.now.first (λ said. g.C.Calls.went old said new) e c.claim_and_seal-frame.result goes c.args.line c.args.granted.now (set c.args.granted.now k c.claim_and_seal-frame.new.granted)
    c.args.log.now c.add.new.self c.claim_and_seal-frame.ensures.told
    (grant_less e k (sym home) c.args.granted.now part c.claim_and_seal-frame.new.granted (granted_at c.requires.may.1 k home c.index-granted-at.result) c.claim_and_seal-frame.ensures.granted)
    (record { whole = c.add.ensures.whole; added = c.add.ensures.added })

pub returns-clause-rest : goal.returns-clause-rest
returns-clause-rest g c = λ es may.
    let k = c.place_of-at.result in
    let home = c.place_of-at.ensures.place in
    let old = c.args.caller.now in
    let new = c.claim_and_seal-frame.new.caller in
    let e = New c.args.order.now in
    let part = get_or c.args.granted.now k c.index-granted-at.result in
    let goes = subst (λ n. Goes (λ said. g.C.Calls.went old said new) (g.C.Calls.openings old) g.D.Desk.side (c.args.lanes.now.first + n) e c.claim_and_seal-frame.result) home c.claim_and_seal-frame.ensures.goes in
    may_on (g.C.Calls.openings old) g.D.Desk.side c.args.lanes.now.first (λ said. g.C.Calls.went old said new) e c.claim_and_seal-frame.result goes
    (g.C.Calls.openings new) (λ i. g.C.Calls.budget old i) (λ i. g.C.Calls.budget new i) g.D.Desk.shares c.args.lanes.now.shares.now c.args.granted.now (set c.args.granted.now k c.claim_and_seal-frame.new.granted) es
    (g.met.C.Calls.spends old new goes.said goes.went)
    (grant_less e k (sym home) c.args.granted.now part c.claim_and_seal-frame.new.granted (granted_at c.requires.may.1 k home c.index-granted-at.result) c.claim_and_seal-frame.ensures.granted)
    (length-set c.args.granted.now k c.claim_and_seal-frame.new.granted) (fits_on may k home c.index-lanes-at.result c.claim_and_seal-frame.new.granted c.claim_and_seal-frame.ensures.grant) may
