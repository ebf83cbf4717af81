-- Sources and sinks in memory as values. Calls are numbered from 0, and those whose numbers are in the list `fails`
-- fail.
use Rattle.std.specs.Prelude.{ℕ, ◌+◌, nat_lt, nat_le, ◌||◌, Bool, List, length, ◌==◌}
use Rattle.std.specs.List.{list_any}

pub record SourceForm : Type 0 where
  pub left : List ℕ
  pub fails : List ℕ
  pub calls : ℕ
  pub faults : ℕ

pub record SinkForm : Type 0 where
  pub taken : List ℕ
  pub pieces : List (List ℕ)
  -- the number of bytes, and of pieces, that the sink has room for
  pub room : ℕ
  pub fails : List ℕ
  pub calls : ℕ
  pub faults : ℕ

-- the next call is in the list of those that fail
abbrev pub is_listed : List ℕ → ℕ → Bool
is_listed fails call = list_any (λ f. f == call) fails

-- a write of n bytes fails: its call is in the list, or the sink has no room for the bytes or for the piece
abbrev pub write_fails : SinkForm → ℕ → Bool
write_fails s n = is_listed s.fails s.calls || nat_lt s.room (length s.taken + n) || nat_le s.room (length s.pieces)
