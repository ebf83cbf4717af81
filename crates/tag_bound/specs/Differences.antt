-- Two texts, and the difference of their hashes.
use Rattle.std.specs.Prelude.{◌≡◌, ℕ, ◌<◌, ◌⊎◌, ◌==◌, List, length, max, bit_xor}
use Rattle.std.specs.List.{count_by}
use Rattle.wc_tags.specs.Tag.{blocks_of, hash}

-- the difference, in the field, of two texts' hashes under a key
abbrev pub difference_under : List ℕ → List ℕ → ℕ → ℕ
difference_under a b key = bit_xor (hash key a) (hash key b)

-- how many of the keys give this difference
abbrev pub count_giving : List ℕ → List ℕ → ℕ → List ℕ → ℕ
count_giving a b difference keys = count_by (λ key. difference_under a b key == difference) keys

-- how many blocks the text with more of them has, length blocks included
abbrev pub most_blocks : List ℕ → List ℕ → ℕ
most_blocks a b = max (length (blocks_of a)) (length (blocks_of b))

abbrev pub IsTooLong : List ℕ → List ℕ → Type 0
IsTooLong a b = (600 < length a) ⊎ (600 < length b)

-- two different texts, neither of which is too long
abbrev pub AreCompared : List ℕ → List ℕ → Type 0
AreCompared a b = ¬ (IsTooLong a b) × ¬ (a ≡ b)
