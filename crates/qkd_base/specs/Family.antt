-- Families of states: one for each lane, or for each number. An update changes one of them.
use Rattle.std.specs.Prelude.{ℕ, ◌==◌, if◌then◌else◌}
use Rattle.qkd_base.specs.declared.lane.Lane.{Lane}
use Rattle.qkd_base.specs.Lane.{lane_eq}

-- the family f with state a for lane k
abbrev pub lane_set : {A : Type 0} → (Lane → A) → Lane → A → Lane → A
lane_set f k a l = if lane_eq l k then a else f l

-- the family f with state a for number k
abbrev pub number_set : {A : Type 0} → (ℕ → A) → ℕ → A → ℕ → A
number_set f k a n = if n == k then a else f n
