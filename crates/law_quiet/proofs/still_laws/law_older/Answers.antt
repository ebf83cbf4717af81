use Rattle.law_quiet.proofs.Rounds.{at_first}
use Rattle.law_quiet.proofs.Standing.{older}
use Rattle.law_quiet.proofs.still_laws.law_older.Goals as goal

pub returns-clause-first : goal.returns-clause-first
returns-clause-first c = λ l vol. at_first l vol.window

pub returns-clause-older : goal.returns-clause-older
returns-clause-older c = λ net w l k puts old. older net w l puts k old
