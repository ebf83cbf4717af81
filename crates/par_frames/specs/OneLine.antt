-- The frames of one line.
use Rattle.std.specs.Prelude.{◌≡◌, ℕ, List, map}
use Rattle.std.specs.List.{AllByRecursion}
use Rattle.net_model.specs.Tick.{Emission}
use Rattle.par_lanes.specs.declared.emitted.Emitted.{Emitted}
use Rattle.par_frames.specs.Working.{IsOfItsLine, wanted_for}

-- Each frame that the line sends is recorded with the line's place.
pub record AreOfLine (line : ℕ) (wants : List Emission) (outs : List (Emission × Emitted)) : Type 0 where
  pub each : AllByRecursion IsOfItsLine outs
  pub wanted : map wanted_for outs ≡ map (λ e. (line, e)) wants
