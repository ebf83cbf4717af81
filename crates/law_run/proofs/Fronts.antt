-- Each prefix of a run is a run.
use Rattle.std.proofs.Common.{ℕ, zero, suc, List, [], ◌∷◌, refl}
use Rattle.std.specs.Prelude.{take}
use Rattle.net_model.specs.World.{Network, World}
use Rattle.net_model.specs.Action.{Action}
use Rattle.net_model.specs.Step.{step, is_step, is_run, IsRun}
use Rattle.law_base.proofs.Base.{and_left, and_right, and_both}

pub front_is_run : (net : Network) (w : World) (actions : List Action) (n : ℕ) → IsRun net w actions → IsRun net w (take n actions)
unfolding is_run
front_is_run net w [] zero h = refl
front_is_run net w [] (suc n) h = refl
front_is_run net w (a ∷ rest) zero h = refl
front_is_run net w (a ∷ rest) (suc n) h = and_both (is_step net w a) (is_run net (step net w a).0 (take n rest)) (and_left _ _ h) (front_is_run net (step net w a).0 rest n (and_right _ _ h))
