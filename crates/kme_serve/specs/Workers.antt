-- What workers that serve listeners at the same time may do, and what they did.
use Rattle.std.specs.Prelude.{◌≡◌, ℕ, ◌+◌, ◌*◌, ◌≤◌, ◌^◌, List, [], ◌∷◌, Option, Result, Ok, OnOk}
use Rattle.qkd_base.specs.Faults.{HasCause}
use Rattle.net_model.specs.declared.event.Event.{Event}
use Rattle.edge_io.specs.Connections.{Finished}
use Rattle.sae_entitlements.specs.Grants.{Grants}
use Rattle.http_front.specs.declared.request.HttpRequest.{HttpRequest}
use Rattle.qkd014_api.specs.Calls.{asked}
use Rattle.kme_serve.specs.declared.turn.Turn.{Turn}
use Rattle.kme_serve.specs.Door.{Door, IsDoorServed}
use Rattle.kme_serve.specs.Endless.{endless}

-- what a listener tells of itself: its port, its counters, the connections that wait and those that are done
abbrev pub door_told : {D : Type 0} → (port accepted finished : D → ℕ) → (waiting : D → Option (List (List ℕ))) → (done : D → Option (List Finished)) → D → Door
door_told port accepted finished waiting done d = record { port = port d; accepted = accepted d; finished = finished d; waiting = waiting d; done = done d }

module _ {P : Type 0} where
  -- A worker may serve this number of connections to the manager of a node: its pass allows 1,000 requests for each, and its
  -- listener may accept that many.
  pub record MayServe (Fits : P → Type 0) (budget : P → ℕ) (Takes : Event → Type 0) (g : Grants) (node connections : ℕ) (pass : P) (door : Door) : Type 0 where
    pub fits : Fits pass
    pub enough : 1000 * connections ≤ budget pass
    pub takes : (request : HttpRequest) (event : Event) → asked g node request ≡ Ok event → Takes event
    pub few : door.accepted + connections ≤ 2 ^ 48
    pub finished : door.finished ≤ door.accepted

  -- A worker served its listener: all connections, or those that came before the listener failed.
  pub record HasServed {T E : Type 0} (Fits : P → Type 0) (Answers : P → Turn → P → Type 0) (seen : P → ℕ) (nodes : List (List ℕ)) (g : Grants) (node connections : ℕ)
      (before after : Door) (faults_before faults_after : ℕ) (pass next : P) (outcome : Result T E) : Type 0 where
    pub fits : Fits next
    pub served : IsDoorServed nodes g node Answers seen connections before after pass next outcome
    pub cause : HasCause faults_before faults_after outcome
    pub calm : OnOk outcome (faults_after ≡ faults_before)
    -- Without an end to its connections it came back only since the listener failed.
    pub lasts : OnOk outcome (¬ (connections ≡ endless))

-- a worker has at most one job, that of its own listener
abbrev pub IsOneJob : (ℕ → Type 0) → List ℕ → Type 0
IsOneJob May [] = Unit {0}
IsOneJob May (job ∷ []) = May job
IsOneJob May (job ∷ next ∷ jobs) = ⊥
