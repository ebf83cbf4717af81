-- What an event does to a manager's view.
use Rattle.std.specs.Prelude.{◌≡◌, ℕ, ◌⊎◌}
use Rattle.net_model.specs.World.{Network, World, no_volatile}
use Rattle.net_model.specs.Needed.{view_of}
use Rattle.net_model.specs.Decision.{Decision, Refuses, Does}
use Rattle.net_model.specs.Fold.{view_after}

-- The view is unchanged, or it lost its memory since the manager stopped, or it is what the effect makes of it.
abbrev pub GoesBy : Network → World → ℕ → Decision → World → Type 0
GoesBy net w v (Refuses reply) w' = view_of net w' v ≡ view_of net w v
GoesBy net w v (Does e) w' =
    (view_of net w' v ≡ view_of net w v) ⊎ ((view_of net w' v ≡ record (view_of net w v) { volatile = no_volatile }) ⊎ (view_of net w' v ≡ view_after (view_of net w v) e))
