use Rattle.std.proofs.Common.{arith, ◌+◌, refl, subst}
use Rattle.net_model.specs.Tick.{Again}
use Rattle.par_lanes.specs.Saying.{Goes}
use Rattle.par_lanes.proofs.Ready.{its_desk, may_call}
use Rattle.par_lanes.proofs.Steps.{grant_kept, emitted_one, may_on}
use Rattle.par_lanes.proofs.plan_emission.emit_repeat.Goals as goal

pub put_again-frame-requires-clause-desk : goal.put_again-frame-requires-clause-desk
put_again-frame-requires-clause-desk g c = let d = its_desk c.requires.may.2 c.place_of-at.result c.place_of-at.ensures.place in (d.0, d.1)

pub put_again-frame-requires-clause-budget : goal.put_again-frame-requires-clause-budget
put_again-frame-requires-clause-budget g c = let enough = may_call c.requires.may.2 c.place_of-at.result c.place_of-at.ensures.place in omega (arith, enough)

pub returns-clause-emitted : goal.returns-clause-emitted
returns-clause-emitted g c = λ granted.
    let old = c.args.caller.now in
    let new = c.put_again-frame.new.caller in
    let e = Again c.args.repeat.now in
    let goes = subst (λ n. Goes (λ said. g.C.Calls.went old said new) (g.C.Calls.openings old) g.D.Desk.side (c.args.lanes.now.first + n) e c.put_again-frame.result) c.place_of-at.ensures.place c.put_again-frame.ensures.goes in
    emitted_one (g.C.Calls.openings old) g.D.Desk.side c.args.lanes.now.first (λ said. g.C.Calls.went old said new) e c.put_again-frame.result goes c.args.line granted granted c.args.log.now c.add.new.self c.put_again-frame.ensures.told
    (grant_kept c.args.repeat.now granted) (record { whole = c.add.ensures.whole; added = c.add.ensures.added })

pub returns-clause-rest : goal.returns-clause-rest
returns-clause-rest g c = λ granted es may.
    let old = c.args.caller.now in
    let new = c.put_again-frame.new.caller in
    let e = Again c.args.repeat.now in
    let goes = subst (λ n. Goes (λ said. g.C.Calls.went old said new) (g.C.Calls.openings old) g.D.Desk.side (c.args.lanes.now.first + n) e c.put_again-frame.result) c.place_of-at.ensures.place c.put_again-frame.ensures.goes in
    may_on (g.C.Calls.openings old) g.D.Desk.side c.args.lanes.now.first (λ said. g.C.Calls.went old said new) e c.put_again-frame.result goes
    (g.C.Calls.openings new) (λ i. g.C.Calls.budget old i) (λ i. g.C.Calls.budget new i) g.D.Desk.shares c.args.lanes.now.shares.now granted granted es
    (g.met.C.Calls.spends old new goes.said goes.went) (grant_kept c.args.repeat.now granted) refl may.fits may
