use Rattle.run_ops.proofs.Plays.{follows}
use Rattle.run_ops.proofs.play_laws.law_plays_follow.Goals as goal

pub returns-clause-is : goal.returns-clause-is
returns-clause-is c = λ net number w s last prefix rest is whole second. (follows net number last w s prefix rest is whole second).0

pub returns-clause-said : goal.returns-clause-said
returns-clause-said c = λ net number w s last prefix rest is whole second. (follows net number last w s prefix rest is whole second).1
