-- The hash of a text under a key, and the tag.
use Rattle.std.specs.Prelude.{ℕ, zero, suc, ◌+◌, ◌-◌, ◌*◌, ◌/◌, List, [], ◌∷◌, ◌++◌, length, take, drop, replicate, bit_xor}
use Rattle.std.specs.Int.{w64, from_be_bytes}
use Rattle.gf64.specs.Field.{product, power}

-- how many blocks of 8 octets a text fills, the last one in part
abbrev pub block_count : List ℕ → ℕ
block_count text = (length text + 7) / 8

-- a text, filled with zero octets to the end of its last block
abbrev pub padded : List ℕ → List ℕ
padded text = text ++ replicate (8 * block_count text - length text) 0

-- the first n blocks, each as a big-endian number
abbrev pub numbers : ℕ → List ℕ → List ℕ
numbers zero octets = []
numbers (suc n) octets = from_be_bytes w64 (take 8 octets) ∷ numbers n (drop 8 octets)

-- the blocks of a text, and then its length in octets
unfoldable pub blocks_of : List ℕ → List ℕ
blocks_of text = numbers (block_count text) (padded text) ++ length text ∷ []

-- the weighted sum of the blocks: m1 * k ^ n + .. + mn * k
unfoldable pub weighed : ℕ → List ℕ → ℕ
weighed k [] = 0
weighed k (m ∷ ms) = bit_xor (product m (power k (length ms + 1))) (weighed k ms)

unfoldable pub hash : ℕ → List ℕ → ℕ
hash k text = weighed k (blocks_of text)

abbrev pub tag : ℕ → List ℕ → ℕ → ℕ
tag k text mask = bit_xor (hash k text) mask
