-- Proofs of the rows of the generated load, by computation.
use Rattle.std.proofs.Common.{refl}
use Rattle.model_examples.specs.LoadRows.{SiteOfLoad, LoadOfOne, LaterRound}
use Rattle.model_examples.proofs.Opened.{opened}

pub site_of_load : SiteOfLoad
unfolding opened
site_of_load = (refl, refl, refl, refl, refl, refl)

pub load_of_one : LoadOfOne
unfolding opened
load_of_one = (refl, refl, refl, refl)

pub later_round : LaterRound
unfolding opened
later_round = refl
