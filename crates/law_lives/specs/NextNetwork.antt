-- The network of a later life.
use Rattle.std.specs.Prelude.{◌≡◌, ℕ, ◌*◌, ◌<◌}
use Rattle.qkd_base.specs.declared.lane.Lane.{Lane}
use Rattle.net_model.specs.OctetSequence.{first_blocks}
use Rattle.net_model.specs.World.{Network, World}
use Rattle.net_model.specs.Needed.{view_of}
use Rattle.net_model.specs.Invariant.{Conserved}
use Rattle.net_model.specs.Drawn.{AreDrawn}

-- the world with other counts of the octets drawn
abbrev pub with_drawn : (ℕ → ℕ) → World → World
with_drawn counts w = record w { drawn = counts }

-- The later network has the same site. Its devices begin with the blocks that were taken. What its entropies give begins
-- anew, and has the bytes of all keys that are known.
pub record IsNextNetwork (earlier later : Network) (counts : ℕ → ℕ) (w : World) : Type 0 where
  pub site : later.site ≡ earlier.site
  pub blocks : (l : Lane) → first_blocks (later.device l.link) (w.durable.blocks l) ≡ first_blocks (earlier.device l.link) (w.durable.blocks l)
  pub drawn : AreDrawn later (with_drawn counts w)

-- All that is conserved holds of the world in the later network too, and each node sees the same.
pub record GoesOnIn (earlier later : Network) (counts : ℕ → ℕ) (w : World) : Type 0 where
  pub conserved : Conserved later (with_drawn counts w)
  pub sees : (v : ℕ) → view_of later (with_drawn counts w) v ≡ view_of earlier w v

-- The sites are the same. The later devices give the blocks that were taken, and the later entropies the octets that were
-- drawn, as the earlier ones did.
pub record BeginsAs (earlier later : Network) (w : World) : Type 0 where
  pub site : later.site ≡ earlier.site
  pub devices : (l : Lane) (i : ℕ) → i < 1024 * w.durable.blocks l → (later.device l.link).octet i ≡ (earlier.device l.link).octet i
  pub entropies : (v i : ℕ) → i < w.drawn v → (later.entropy v).octet i ≡ (earlier.entropy v).octet i
