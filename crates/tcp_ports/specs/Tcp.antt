-- A listener over TCP as a value. Contracts know its port and its counts, nothing else.
use Rattle.std.specs.Prelude.{ℕ, List, Option, None}
use Rattle.edge_io.specs.Connections.{Finished}

pub record TcpForm : Type 0 where
  pub port : ℕ
  pub accepted : ℕ
  pub finished : ℕ
  pub faults : ℕ

-- contracts don't know which ports were asked for
abbrev pub untold_asked : Option (List ℕ)
untold_asked = None

-- nor what a connection sends
abbrev pub untold_octets : Option (List ℕ)
untold_octets = None

-- nor which connections wait
abbrev pub untold_waiting : Option (List (List ℕ))
untold_waiting = None

-- nor which wait for twins
abbrev pub untold_twins : Option (List (List (List ℕ)))
untold_twins = None

-- nor which were finished
abbrev pub untold_done : Option (List Finished)
untold_done = None

-- nor what waits at ports
abbrev pub untold_queues : ℕ → Option (List (List (List ℕ)))
untold_queues port = None
