-- Listeners and ports in memory as values. Calls are numbered from 0, and those whose numbers are in the list `fails`
-- fail.
use Rattle.std.specs.Prelude.{ℕ, Bool, List, [], ◌∷◌, map, Option, Some, None, find, remove, ◌==◌}
use Rattle.std.specs.List.{position_or_len}
use Rattle.edge_io.specs.Forms.{SourceForm, SinkForm}
use Rattle.edge_io.specs.Connections.{Finished}

-- a waiting connection: what its peer sends, how many bytes its sink has room for, and the calls that fail at its
-- source and at its sink
pub record ConnectionForm : Type 0 where
  pub sent : List ℕ
  pub read_fails : List ℕ
  pub room : ℕ
  pub write_fails : List ℕ

-- the source and the sink of a connection when it is accepted
abbrev pub source_of : ConnectionForm → SourceForm
source_of c = record { left = c.sent; fails = c.read_fails; calls = 0; faults = 0 }

abbrev pub sink_of : ConnectionForm → SinkForm
sink_of c = record { taken = []; pieces = []; room = c.room; fails = c.write_fails; calls = 0; faults = 0 }

-- the connections that wait for one listener
pub record QueueForm : Type 0 where
  pub waiting : List ConnectionForm
  pub fails : List ℕ

-- a port that can be opened: the queue of its listener, and a queue for each of that listener's twins
pub record SocketForm : Type 0 where
  pub port : ℕ
  pub first : QueueForm
  pub twins : List QueueForm

pub record ListenerForm : Type 0 where
  pub port : ℕ
  pub waiting : List ConnectionForm
  pub done : List Finished
  pub twins : List QueueForm
  pub accepted : ℕ
  pub fails : List ℕ
  pub calls : ℕ
  pub faults : ℕ

-- a listener before its first call
abbrev pub door_of : ℕ → QueueForm → List QueueForm → ListenerForm
door_of port queue twins = record { port = port; waiting = queue.waiting; done = []; twins = twins; accepted = 0; fails = queue.fails; calls = 0; faults = 0 }

abbrev pub listener_of : SocketForm → ListenerForm
listener_of s = door_of s.port s.first s.twins

-- what the peers of these connections send
abbrev pub sent_of : List ConnectionForm → List (List ℕ)
sent_of cs = map (λ (c : ConnectionForm). c.sent) cs

-- the queues of a socket, each as what the peers of its connections send: that of its listener, and that of each twin
abbrev pub queues_of : List QueueForm → List (List (List ℕ))
queues_of qs = map (λ (q : QueueForm). sent_of q.waiting) qs

abbrev pub queues_in : Option SocketForm → List (List (List ℕ))
queues_in None = []
queues_in (Some s) = sent_of s.first.waiting ∷ queues_of s.twins

pub record PortsForm : Type 0 where
  -- the sockets that were not opened yet
  pub sockets : List SocketForm
  pub asked : List ℕ
  pub back : List ListenerForm
  pub fails : List ℕ
  pub calls : ℕ
  pub faults : ℕ

abbrev pub has_port : ℕ → SocketForm → Bool
has_port port s = s.port == port

-- the first socket of this port
abbrev pub socket_at : ℕ → List SocketForm → Option SocketForm
socket_at port sockets = find (has_port port) sockets

-- all but the first socket of this port
abbrev pub sockets_without : ℕ → List SocketForm → List SocketForm
sockets_without port sockets = remove sockets (position_or_len (has_port port) sockets)

-- what waits at each port: the queues of the first socket of that port
abbrev pub queues_told : List SocketForm → ℕ → Option (List (List (List ℕ)))
queues_told sockets port = Some (queues_in (socket_at port sockets))
