use Rattle.std.specs.Prelude.{◌++◌}
use Rattle.qkd_base.specs.Lane.{reverse_lane}
use Rattle.law_quiet.specs.Settled.{world_before, world_after}
use Rattle.law_quiet.specs.Still.{IsStill}
use Rattle.law_quiet.proofs.Beginnings.{begun_still}
use Rattle.law_quiet.proofs.LastRounds.{along, arrives, returns, rests}
use Rattle.law_quiet.proofs.Quieting.{stills}
use Rattle.law_quiet.proofs.RestedScenarios.{silent, since}
use Rattle.law_quiet.proofs.Settles.{rest_of}
use Rattle.law_quiet.proofs.rest_laws.law_one_settle_is_enough.Goals as goal

pub returns-clause-begun : goal.returns-clause-begun
returns-clause-begun c = λ http net workers numbers done f network plays whole u v next l site from to. (
  begun_still http net workers network numbers done plays whole l,
  begun_still http net workers network numbers done plays whole (reverse_lane l),
)

pub returns-clause-still : goal.returns-clause-still
returns-clause-still c = λ http net workers earlier settles done rest f network asks ends way.
    let r = rest_of http net workers network 4 earlier settles asks done rest ends in
    along net network (world_before http net earlier done) f way (IsStill net (world_after http net earlier settles done rest)) (λ l site up alive there.
    stills net network (world_before http net earlier done) (world_after http net earlier settles done rest) r.start.conserved r.start.quiet r.start.awaits r.rounds l site up alive)

pub returns-clause-arrives : goal.returns-clause-arrives
returns-clause-arrives c = λ http net workers earlier later settles done more rest n f network asks keeps ends still there way.
    arrives net network (world_before http net earlier done) (world_before http net (earlier ++ later) (done ++ more)) (since http net workers network earlier later settles done more rest asks keeps ends)
    (world_after http net (earlier ++ later) settles (done ++ more) rest) (silent http net workers network earlier later settles done more rest asks keeps ends) n f still there way

pub returns-clause-returns : goal.returns-clause-returns
returns-clause-returns c = λ http net workers earlier later settles done more rest n f network asks keeps ends still there secret way.
    returns net network (world_before http net earlier done) (world_before http net (earlier ++ later) (done ++ more)) (since http net workers network earlier later settles done more rest asks keeps ends)
    (world_after http net (earlier ++ later) settles (done ++ more) rest) (silent http net workers network earlier later settles done more rest asks keeps ends) n f still there secret way

pub returns-clause-rests : goal.returns-clause-rests
returns-clause-rests c = λ http net workers earlier later settles done more rest f network asks keeps ends still way.
    rests net network (world_before http net earlier done) (world_before http net (earlier ++ later) (done ++ more)) (since http net workers network earlier later settles done more rest asks keeps ends)
    (world_after http net (earlier ++ later) settles (done ++ more) rest) (silent http net workers network earlier later settles done more rest asks keeps ends) f still way
