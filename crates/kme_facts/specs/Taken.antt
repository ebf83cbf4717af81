-- Which records fit the state, and how much room they need.
use Rattle.std.specs.Prelude.{ℕ, ◌≤◌, ◌==◌, ◌&&◌, ◌||◌, Bool}
use Rattle.qkd_base.specs.Name.{Name}
use Rattle.net_model.specs.declared.fact.Fact.{Fact}
use Rattle.net_model.specs.Table.{origin, target}
use Rattle.net_model.specs.Fold.{is_handed_by, is_stream_of}
use Rattle.stream_core.specs.Kept.{StreamEnds}

-- the node is the first or last node of the fact's route
abbrev pub is_end_at : ℕ → Fact → Bool
is_end_at me f = (origin f == me) || (target f == me)

-- this fact lets the application get the key of this name at this node
abbrev pub may_give : ℕ → Name → ℕ → Fact → Bool
may_give me n sae f = is_end_at me f && is_handed_by n sae f

-- this fact opens the stream of this name, with an end at this node
abbrev pub may_close : ℕ → Name → Fact → Bool
may_close me n f = is_end_at me f && is_stream_of n f

-- the state has room for this many further items of each list
pub record HasRoom (s : StreamEnds) (count : ℕ) : Type 0 where
  pub facts : count ≤ s.ends.known.facts_spare
  pub acked : count ≤ s.ends.known.acked_spare
  pub handed : count ≤ s.ends.handed_spare
  pub closed : count ≤ s.closed_spare
