use Rattle.std.proofs.Common.{[], ◌∷◌, refl, subst}
use Rattle.shared_objects.specs.declared.either.Either.TheVariants.{Left}
use Rattle.shared_objects.proofs.Calling.{tells_left, told_left}
use Rattle.shared_objects.proofs.calls.call_left.Goals as goal

pub call-place-requires-clause-taken : goal.call-place-requires-clause-taken
call-place-requires-clause-taken g c = (Left c.requires.taken.0, c.requires.taken.1, c.requires.taken.2)

pub into_left-requires : goal.into_left-requires
into_left-requires g c = let t = (tells_left g.A.Machine.charter g.B.Machine.charter g.A.Machine.takes g.B.Machine.takes g.A.Machine.turns g.B.Machine.turns (g.C.Calls.openings c.args.caller.now) (record { machine = c.args.machine; place = c.call-place.result.0; request = Left c.args.request; reply = c.call-place.result.1 }) (g.C.Calls.seen c.args.caller.now c.args.machine) (g.C.Calls.seen c.call-place.new.self c.args.machine) c.requires.taken.0 c.args.request c.requires.taken.1 refl c.call-place.ensures.answered) in (t.answer, t.is)

pub returns-clause-went : goal.returns-clause-went
returns-clause-went g c =
    subst (λ reply. g.C.Calls.went c.args.caller.now (record { machine = c.args.machine; place = c.call-place.result.0; request = Left c.args.request; reply = reply } ∷ []) c.call-place.new.self) c.into_left.ensures c.call-place.ensures.went

pub returns-clause-answered : goal.returns-clause-answered
returns-clause-answered g c = λ m there. told_left g.A.Machine.charter g.B.Machine.charter g.A.Machine.takes g.B.Machine.takes g.A.Machine.turns g.B.Machine.turns m c.args.request c.call-place.result.1 c.into_left.result c.into_left.ensures (tells_left g.A.Machine.charter g.B.Machine.charter g.A.Machine.takes g.B.Machine.takes g.A.Machine.turns g.B.Machine.turns (g.C.Calls.openings c.args.caller.now) (record { machine = c.args.machine; place = c.call-place.result.0; request = Left c.args.request; reply = c.call-place.result.1 }) (g.C.Calls.seen c.args.caller.now c.args.machine) (g.C.Calls.seen c.call-place.new.self c.args.machine) m c.args.request there refl c.call-place.ensures.answered)
