use Rattle.std.proofs.Common.{◌∷◌, [], subst}
use Rattle.shared_objects.specs.declared.either.Either.TheVariants.{Right}
use Rattle.turnstile.specs.Turns.{turn_of}
use Rattle.par_lanes.specs.Turns.{desk_charter}
use Rattle.par_lanes.proofs.Turning.{turned_as, put_placed, may_put}
use Rattle.par_lanes.proofs.turns.put.Goals as goal

pub call_right-place-requires-clause-taken : goal.call_right-place-requires-clause-taken
call_right-place-requires-clause-taken g c = (c.requires.desk.0, c.requires.desk.1, g.met.D.Desk.asks c.requires.desk.0 c.args.ask (may_put (desk_charter g.D.Desk.side g.D.Desk.shares c.requires.desk.0) c.args.ask c.requires.frame))

pub placed_of-requires : goal.placed_of-requires
placed_of-requires g c = put_placed g.D.Line.Wire g.D.Desk.side g.D.Desk.shares c.requires.desk.0 c.args.ask c.requires.frame c.call_right-place.result.1 (turned_as g.D.Line.Wire g.D.Desk.side g.D.Desk.shares (turn_of g.D.Machine.charter g.D.Machine.takes g.D.Machine.turns) g.met.D.Desk.leads c.requires.desk.0 c.args.ask c.call_right-place.result.1 (c.call_right-place.ensures.answered c.requires.desk.0 c.requires.desk.1))

pub returns-clause-went : goal.returns-clause-went
returns-clause-went g c =
    subst (λ answer. g.C.Calls.went c.args.caller.now (record { machine = c.args.machine; place = c.call_right-place.result.0; request = Right c.args.ask; reply = Right answer } ∷ []) c.call_right-place.new.caller)
    c.placed_of.ensures c.call_right-place.ensures.went
