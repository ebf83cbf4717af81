use Rattle.std.proofs.Common.{◌∷◌, [], subst}
use Rattle.shared_objects.specs.declared.either.Either.TheVariants.{Right}
use Rattle.par_lanes.specs.declared.ask.LaneAsk.TheVariants.{Claim}
use Rattle.turnstile.specs.Turns.{turn_of}
use Rattle.par_lanes.proofs.Turning.{turned_as, claim_claims, gave}
use Rattle.par_lanes.proofs.turns.claim.Goals as goal

pub call_right-place-requires-clause-taken : goal.call_right-place-requires-clause-taken
call_right-place-requires-clause-taken g c = (c.requires.desk.0, c.requires.desk.1, g.met.D.Desk.asks c.requires.desk.0 (Claim c.args.need c.args.grant) (c.requires.some, c.requires.short, c.requires.desk.2))

pub claimed_of-requires : goal.claimed_of-requires
claimed_of-requires g c = claim_claims g.D.Line.Wire g.D.Desk.side g.D.Desk.shares c.requires.desk.0 c.args.need c.args.grant c.call_right-place.result.1 (turned_as g.D.Line.Wire g.D.Desk.side g.D.Desk.shares (turn_of g.D.Machine.charter g.D.Machine.takes g.D.Machine.turns) g.met.D.Desk.leads c.requires.desk.0 (Claim c.args.need c.args.grant) c.call_right-place.result.1 (c.call_right-place.ensures.answered c.requires.desk.0 c.requires.desk.1))

pub returns-clause-went : goal.returns-clause-went
returns-clause-went g c =
    subst (λ answer. g.C.Calls.went c.args.caller.now (record { machine = c.args.machine; place = c.call_right-place.result.0; request = Right (Claim c.args.need c.args.grant); reply = Right answer } ∷ []) c.call_right-place.new.caller)
    c.claimed_of.ensures c.call_right-place.ensures.went

pub returns-clause-length : goal.returns-clause-length
returns-clause-length g c = (gave g.D.Line.Wire g.D.Desk.side g.D.Desk.shares c.requires.desk.0 c.args.need c.args.grant c.claimed_of.result c.call_right-place.result.1 c.claimed_of.ensures (turned_as g.D.Line.Wire g.D.Desk.side g.D.Desk.shares (turn_of g.D.Machine.charter g.D.Machine.takes g.D.Machine.turns) g.met.D.Desk.leads c.requires.desk.0 (Claim c.args.need c.args.grant) c.call_right-place.result.1 (c.call_right-place.ensures.answered c.requires.desk.0 c.requires.desk.1))).len

pub returns-clause-given : goal.returns-clause-given
returns-clause-given g c = λ d there. (gave g.D.Line.Wire g.D.Desk.side g.D.Desk.shares d c.args.need c.args.grant c.claimed_of.result c.call_right-place.result.1 c.claimed_of.ensures (turned_as g.D.Line.Wire g.D.Desk.side g.D.Desk.shares (turn_of g.D.Machine.charter g.D.Machine.takes g.D.Machine.turns) g.met.D.Desk.leads d (Claim c.args.need c.args.grant) c.call_right-place.result.1 (c.call_right-place.ensures.answered d there))).given
