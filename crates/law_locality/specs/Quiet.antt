-- The worlds between events, where no frame is waiting for its wire.
use Rattle.std.specs.Prelude.{◌≡◌, ℕ, []}
use Rattle.qkd_base.specs.declared.lane.Lane.{Lane}
use Rattle.net_model.specs.World.{World}

-- No order waits for its bytes, no frame waits for its wire, and the managers were told what became of every frame.
pub record IsQuiet (w : World) : Type 0 where
  pub claimed : (l : Lane) → w.unclaimed l ≡ []
  pub put : (l : Lane) → w.outgoing l ≡ []
  pub noted : (v : ℕ) → w.placings v ≡ []
