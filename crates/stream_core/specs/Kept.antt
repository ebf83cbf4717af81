-- The store of a node that is an end of keys and streams, as a value.
use Rattle.std.specs.Prelude.{◌≡◌, ℕ, List, Option, Some, None}
use Rattle.qkd_base.specs.Name.{Name}
use Rattle.net_model.specs.declared.fact.Fact.{Fact}
use Rattle.net_model.specs.declared.fact.Fact.TheVariants.{Open}
use Rattle.net_model.specs.View.{View}
use Rattle.end_store.specs.Waiting.{Ends}
use Rattle.end_store.specs.Pooled.{Sees as SeesEnds}
use Rattle.stream_core.specs.declared.opened.Opened.{Opened}

-- the node's keys, which application has closed its end of which stream, and for how many more of these pairs there is room
pub record StreamEnds : Type 0 where
  pub ends : Ends
  pub closed : List (Name × ℕ)
  pub closed_spare : ℕ

-- a view agrees with a store in what the store keeps
pub record Sees (v : View) (s : StreamEnds) : Type 0 where
  pub ends : SeesEnds v s.ends
  pub closed : v.closed ≡ s.closed

-- the stream that a fact opens
abbrev pub opened_of : Option Fact → Option Opened
opened_of (Some (Open stream source peer size route)) = Some (record { stream = stream; source = source; peer = peer; octets = size; route = route })
opened_of _ = None
