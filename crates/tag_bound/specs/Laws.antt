-- Laws: only few keys give a chosen difference of hashes.
use Rattle.std.specs.Prelude.{◌≡◌, ℕ, ◌+◌, ◌<◌, ◌≤◌, ◌^◌, List, length}
use Rattle.std.specs.List.{All}
use Rattle.wc_tags.specs.Tag.{blocks_of}
use Rattle.tag_bound.specs.Keys.{AreDistinct}
use Rattle.tag_bound.specs.Differences.{difference_under}

-- a text: octets, fewer than 2 ^ 64 of them
pub record IsText (text : List ℕ) : Type 0 where
  pub octets : All (λ octet. octet < 256) text
  pub length_fits : length text < 2 ^ 64

-- the keys are elements of the field, and no two are equal
pub record AreKeys (keys : List ℕ) : Type 0 where
  pub elements : All (λ key. key < 2 ^ 64) keys
  pub distinct : AreDistinct keys

-- For two different texts of at most n blocks each, length blocks included, at most n keys give the same difference of
-- hashes.
abbrev pub FewKeys : Type 0
FewKeys = (a b : List ℕ) (n difference : ℕ) (keys : List ℕ) → IsText a → IsText b → ¬ (a ≡ b) → length (blocks_of a) ≤ n → length (blocks_of b) ≤ n →
    AreKeys keys → All (λ key. difference_under a b key ≡ difference) keys → length keys ≤ n

-- A frame of 585 octets, of which the tag takes 8, has a text of at most 74 blocks.
abbrev pub FrameBlocks : Type 0
FrameBlocks = (text : List ℕ) → length text + 8 ≤ 585 → length (blocks_of text) ≤ 74
