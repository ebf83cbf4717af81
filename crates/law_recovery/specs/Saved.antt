-- The part of a manager that a start gives back, and how a step changes it.
use Rattle.std.specs.Prelude.{◌≡◌, ℕ, List, [], ◌⊎◌}
use Rattle.net_model.specs.declared.record.Record.{Record}
use Rattle.net_model.specs.World.{Network, World}
use Rattle.net_model.specs.View.{View}
use Rattle.net_model.specs.Needed.{view_of}
use Rattle.net_model.specs.Fold.{view_batch, view_restarted}
use Rattle.law_recovery.specs.Fitting.{AllFit}

-- The manager that a start makes of a node's view, without the batch in doubt.
abbrev pub saved : Network → World → ℕ → View
saved net w v = view_restarted (view_of net w v)

pub record Stays (net : Network) (w after : World) (v : ℕ) : Type 0 where
  pub view : saved net after v ≡ saved net w v
  pub doubt : (after.in_doubt v).batch ≡ (w.in_doubt v).batch

-- What the journal gives back stays, and the batch in doubt fits or there is none.
pub record Doubts (net : Network) (w after : World) (v : ℕ) : Type 0 where
  pub view : saved net after v ≡ saved net w v
  pub fits : AllFit net (saved net after v) (after.in_doubt v).batch

pub record Adds (net : Network) (w after : World) (v : ℕ) : Type 0 where
  pub batch : List Record
  pub view : saved net after v ≡ view_restarted (view_batch (saved net w v) batch)
  pub none : (after.in_doubt v).batch ≡ []

-- The journal gives back the same manager, or the doubt changes, or one batch is added and nothing is in doubt.
abbrev pub Moves : Network → World → World → ℕ → Type 0
Moves net w after v = Stays net w after v ⊎ (Doubts net w after v ⊎ Adds net w after v)

-- Each batch in doubt fits what its manager saw when it stopped.
abbrev pub DoubtsFit : Network → World → Type 0
DoubtsFit net w = (v : ℕ) → AllFit net (view_of net w v) (w.in_doubt v).batch
