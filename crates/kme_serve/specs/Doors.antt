-- The listeners of the workers that serve.
use Rattle.std.specs.Prelude.{◌≡◌, ◌⊎◌, ℕ, ◌+◌, ◌/◌, ◌%◌, ◌≤◌, ◌<◌, min, List, [], map, take, length, slice_get, Option, Some, None, MatchOption}
use Rattle.qkd_base.specs.Faults.{Rose}
use Rattle.net_model.specs.Site.{count_up}
use Rattle.edge_io.specs.Connections.{Finished, IsFirstQueue, IsNewDoor}
use Rattle.edge_io.specs.Writes.{Adds}
use Rattle.kme_serve.specs.Door.{Door}

-- ---- ports

-- `many` consecutive ports from `port` on
abbrev pub ports_from : (port many : ℕ) → List ℕ
ports_from port many = map (λ n. port + n) (count_up many)

-- The ports of the nodes that the workers serve, in rising order. Worker w serves node w modulo the number of nodes.
abbrev pub ports_of : (port workers nodes : ℕ) → List ℕ
ports_of port workers nodes = ports_from port (min workers nodes)

-- The connections that wait at a port, where the port tells them: a queue for its listener, and one for each twin. A connection is told by the octets that its peer sends.
abbrev pub Queues : Type 0
Queues = Option (List (List (List ℕ)))

-- what ports tell: which were asked for, which listeners came back, and what waits at each port
pub record PortsTold (D : Type 0) : Type 0 where
  pub asked : Option (List ℕ)
  pub back : Option (List D)
  pub queues : ℕ → Queues

abbrev pub ports_told : {P D : Type 0} → (asked : P → Option (List ℕ)) → (back : P → Option (List D)) → (queues : P → ℕ → Queues) → P → PortsTold D
ports_told asked back queues ports = record { asked = asked ports; back = back ports; queues = queues ports }

-- If these ports tell this list, it has room for `many` more items. If they don't, no ports of this kind tell it.
abbrev pub HasRoom : {P A : Type 0} → (told : P → Option (List A)) → P → (many : ℕ) → Type 0
HasRoom {P} told ports many = MatchOption (told ports) ((other : P) → told other ≡ None) (λ list. length list + many ≤ 65536)

-- As far as these ports tell it, no port was asked for and no listener came back. What they don't tell, no ports of this kind
-- tell.
pub record AreFresh {P D : Type 0} (asked : P → Option (List ℕ)) (back : P → Option (List D)) (ports : P) : Type 0 where
  pub none_asked : MatchOption (asked ports) ((other : P) → asked other ≡ None) (λ list. list ≡ [])
  pub none_back : MatchOption (back ports) ((other : P) → back other ≡ None) (λ list. list ≡ [])

-- ---- listeners

-- what a listener tells of itself
abbrev pub telling : {D : Type 0} → (port accepted finished : D → ℕ) → (waiting : D → Option (List (List ℕ))) → (done : D → Option (List Finished)) → D → Door
telling port accepted finished waiting done d = record { port = port d; accepted = accepted d; finished = finished d; waiting = waiting d; done = done d }

-- Each of these listeners took the first queue of its port, and left the others for its twins.
abbrev pub HaveFirstQueues : {D : Type 0} → (tell : D → Door) → (twins : D → Queues) → (queues : ℕ → Queues) → (port : ℕ) → List D → Type 0
HaveFirstQueues {D} tell twins queues port doors = (k : ℕ) (d : D) → slice_get doors k ≡ Some d → IsFirstQueue (queues (port + k)) (tell d).waiting (twins d)

-- The connections of each listener are those that waited for it at its port, as far as the ports told them. The workers of a node take the queues of its port in their
-- order: worker k is number k / nodes of its node, from 0.
abbrev pub AreQueued : {D : Type 0} → (tell : D → Door) → (queues : ℕ → Queues) → (port nodes : ℕ) → List D → Type 0
AreQueued {D} tell queues port nodes doors =
    (k : ℕ) (d : D) → slice_get doors k ≡ Some d → MatchOption (queues (port + k % nodes)) (Unit {0}) (λ told. (tell d).waiting ≡ slice_get told (k / nodes))

module _ {D : Type 0} (tell : D → Door) (failed : D → ℕ) where
  -- a new listener at this port, of which nothing was asked yet
  abbrev pub IsNew : (told : Type 0) → (port : ℕ) → D → Type 0
  IsNew told port d = IsNewDoor told port (tell d).port (tell d).accepted (tell d).finished (failed d) (tell d).waiting (tell d).done

  -- a listener at this port that accepted no connection
  abbrev pub IsUnused : (port : ℕ) → D → Type 0
  IsUnused port d = ((tell d).port ≡ port) × ((tell d).accepted ≡ 0) × ((tell d).finished ≡ 0)

  -- Each listener is new, at the port of its worker's node.
  abbrev pub AreNew : (told : Type 0) → (port nodes : ℕ) → List D → Type 0
  AreNew told port nodes doors = (k : ℕ) (d : D) → slice_get doors k ≡ Some d → IsNew told (port + k % nodes) d

  -- No listener has accepted a connection, and each is at the port of its worker's node.
  abbrev pub AreUnused : (port nodes : ℕ) → List D → Type 0
  AreUnused port nodes doors = (k : ℕ) (d : D) → slice_get doors k ≡ Some d → IsUnused (port + k % nodes) d

  -- one new listener for each worker, at the port of its node, with the connections that waited for it there
  pub record AreOpened (told : Type 0) (queues : ℕ → Queues) (port workers nodes : ℕ) (doors : List D) : Type 0 where
    pub many : length doors ≡ workers
    pub new : AreNew told port nodes doors
    pub queued : AreQueued tell queues port nodes doors

  -- Listeners were opened for the first workers, perhaps for all. Each of them was given back, and none had accepted a
  -- connection. The ports that were asked for are those of these workers and of the next one.
  pub record WereOpened (port workers nodes : ℕ) (before after : PortsTold D) : Type 0 where
    pub doors : List D
    pub few : length doors ≤ workers
    pub unused : AreUnused port nodes doors
    pub asked : Adds before.asked after.asked (take (length doors + 1) (ports_of port workers nodes))
    pub given : Adds before.back after.back doors

-- one of these listeners has failed
abbrev pub HasFailed : {D : Type 0} → (failed : D → ℕ) → List D → Type 0
HasFailed {D} failed doors = (k : ℕ) × ((d : D) × (slice_get doors k ≡ Some d) × (0 < failed d))

-- A port failed, or one of the listeners that came back has failed.
abbrev pub IsListenFault : {D : Type 0} → (failed : D → ℕ) → (ports_before ports_after : ℕ) → (before after : PortsTold D) → Type 0
IsListenFault {D} failed ports_before ports_after before after =
    Rose ports_before ports_after ⊎ ((doors : List D) × Adds before.back after.back doors × HasFailed failed doors)
