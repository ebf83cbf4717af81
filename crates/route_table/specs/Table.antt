-- The table of links, each with the two nodes that it joins.
use Rattle.std.specs.Prelude.{◌≡◌, ◌≢◌, ℕ, ◌<◌, nat_lt, List, length, replicate, slice_set, slice_index_or, Option, Some, None, if◌then◌else◌}

-- for each link number the lower and the higher node of the link, or None if there is no such link
abbrev pub Table : Type 0
Table = List (Option (ℕ × ℕ))

-- the table without links
abbrev pub no_links : Table
no_links = replicate 32 None

abbrev pub ends_of : Table → ℕ → Option (ℕ × ℕ)
ends_of t link = slice_index_or t link None

abbrev pub lower_then_higher : ℕ → ℕ → ℕ × ℕ
lower_then_higher a b = if nat_lt a b then (a, b) else (b, a)

abbrev pub with_link : Table → ℕ → ℕ → ℕ → Table
with_link t link a b = slice_set t link (Some (lower_then_higher a b))

-- no link joins these nodes
abbrev pub AreApart : Table → ℕ → ℕ → Type 0
AreApart t a b = (link : ℕ) → ends_of t link ≢ Some (lower_then_higher a b)

-- 32 places; each link has its lower node first, both below 16, and no two links join the same nodes
pub record IsTable (t : Table) : Type 0 where
  pub places : length t ≡ 32
  pub lower_first : (link v w : ℕ) → ends_of t link ≡ Some (v, w) → v < w
  pub nodes : (link v w : ℕ) → ends_of t link ≡ Some (v, w) → w < 16
  pub one_each : (link other v w : ℕ) → ends_of t link ≡ Some (v, w) → ends_of t other ≡ Some (v, w) → link ≡ other
