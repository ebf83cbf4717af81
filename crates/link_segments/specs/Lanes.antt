-- The blocks that one end of a link received.
use Rattle.std.specs.Prelude.{◌≡◌, ◌≢◌, ℕ, ◌<◌, ◌≤◌, List, length}
use Rattle.std.specs.List.{AllByRecursion}
use Rattle.qkd_base.specs.declared.lane.Way.{Way}
use Rattle.qkd_base.specs.declared.lane.Way.TheVariants.{Up, Down}
use Rattle.link_segments.specs.declared.take_refusal.TakeRefusal.{TakeRefusal}
use Rattle.link_segments.specs.declared.take_refusal.TakeRefusal.TheVariants.{Full, OutOfOrder, Memory}

-- the blocks that an end received, in order, and how many more it has room for
pub record Held : Type 0 where
  pub blocks : List (List ℕ)
  pub spare : ℕ

-- there are at most 1,024 blocks, of 1,024 bytes each
pub record AreBlocks (blocks : List (List ℕ)) : Type 0 where
  pub number : length blocks ≤ 1024
  pub whole : AllByRecursion (λ b. length b ≡ 1024) blocks

-- the place of a lane's first block: 0 for Up, 1 for Down
abbrev pub first_place : Way → ℕ
first_place Up = 0
first_place Down = 1

-- When each refusal of a block is given, and what it says. Exactly one holds of these cases and the one in which the
-- block is taken.
abbrev pub Refuses : Held → ℕ → TakeRefusal → Type 0
Refuses held number Full = length held.blocks ≡ 1024
Refuses held number (OutOfOrder expected) = (length held.blocks < 1024) × (number ≢ length held.blocks) × (expected ≡ length held.blocks)
Refuses held number Memory = (length held.blocks < 1024) × (number ≡ length held.blocks) × (held.spare ≡ 0)
