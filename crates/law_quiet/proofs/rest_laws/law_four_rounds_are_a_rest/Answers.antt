use Rattle.law_quiet.proofs.Quieting.{stills}
use Rattle.law_quiet.proofs.StillRounds.{first_still}
use Rattle.law_quiet.proofs.rest_laws.law_four_rounds_are_a_rest.Goals as goal

pub returns-clause-clear : goal.returns-clause-clear
returns-clause-clear c = λ net w f still u v next l site from to.
    let x = still u v next l site from to in
    (x.0.flies, x.1.flies)

pub returns-clause-first : goal.returns-clause-first
returns-clause-first c = first_still

pub returns-clause-rounds : goal.returns-clause-rounds
returns-clause-rounds c = λ net w after l network conserved quiet awaits silent site joined alive. stills net network w after conserved quiet awaits silent l site joined alive
