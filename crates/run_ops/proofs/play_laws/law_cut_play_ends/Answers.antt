use Rattle.run_ops.proofs.Plays.{stays_cut}
use Rattle.run_ops.proofs.play_laws.law_cut_play_ends.Goals as goal

pub returns-clause-is : goal.returns-clause-is
returns-clause-is c = λ net number w s last prefix is whole. (stays_cut net number last w s prefix is whole).0

pub returns-clause-said : goal.returns-clause-said
returns-clause-said c = λ net number w s last prefix is whole. (stays_cut net number last w s prefix is whole).1
