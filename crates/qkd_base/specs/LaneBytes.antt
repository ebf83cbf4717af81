-- The bytes of the two lanes of a link, from the blocks of its device.
use Rattle.std.specs.Prelude.{ℕ, ◌+◌, ◌*◌, ◌/◌, List, [], ◌∷◌}
use Rattle.std.specs.List.{flat_map}
use Rattle.qkd_base.specs.declared.lane.Way.{Way}
use Rattle.qkd_base.specs.declared.lane.Way.TheVariants.{Up, Down}

-- the items at places 0, 2, 4 .. of a list
abbrev pub even_places : {A : Type 0} → List A → List A
even_places [] = []
even_places (b ∷ []) = b ∷ []
even_places (b ∷ c ∷ bs) = b ∷ even_places bs

-- the items at places 1, 3, 5 .. of a list
abbrev pub odd_places : {A : Type 0} → List A → List A
odd_places [] = []
odd_places (b ∷ []) = []
odd_places (b ∷ c ∷ bs) = c ∷ odd_places bs

abbrev pub way_blocks : Way → List (List ℕ) → List (List ℕ)
way_blocks Up bs = even_places bs
way_blocks Down bs = odd_places bs

-- the bytes of a lane: for Up the even blocks of the link in order, for Down the odd ones
unfoldable pub lane_octets : Way → List (List ℕ) → List ℕ
lane_octets way bs = flat_map (λ b. b) (way_blocks way bs)

-- how many bytes a lane has at an end that received this number of blocks
abbrev pub lane_len : Way → ℕ → ℕ
lane_len Up blocks = 1024 * ((blocks + 1) / 2)
lane_len Down blocks = 1024 * (blocks / 2)
