use Rattle.net_model.specs.World.{first}
use Rattle.net_model.specs.Step.{run}
use Rattle.law_quiet.specs.Passes.{world_since}
use Rattle.law_quiet.proofs.LastRounds.{calm1, arrives, returns, rests, since}
use Rattle.law_quiet.proofs.rest_laws.law_one_round_is_enough.Goals as goal

pub returns-clause-arrives : goal.returns-clause-arrives
returns-clause-arrives c = λ net earlier later after n f network rested quiet silent there way.
    arrives net network (run net first earlier) (world_since net earlier later) (since net earlier later f network rested quiet) after silent n f rested.clear there way

pub returns-clause-returns : goal.returns-clause-returns
returns-clause-returns c = λ net earlier later after n f network rested quiet silent there secret way.
    returns net network (run net first earlier) (world_since net earlier later) (since net earlier later f network rested quiet) after silent n f rested.clear there secret way

pub returns-clause-rests : goal.returns-clause-rests
returns-clause-rests c = λ net earlier later after f network rested quiet silent way.
    let s = since net earlier later f network rested quiet in (
      (calm1 net network (run net first earlier) (world_since net earlier later) s after silent).quiet,
      rests net network (run net first earlier) (world_since net earlier later) s after silent f rested.clear way,
    )
