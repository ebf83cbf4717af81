-- The connections of one listener, one after another.
use Rattle.std.specs.Prelude.{◌≡◌, ℕ, ◌+◌, ◌<◌, List, [], ◌∷◌, length, map, Option, Result, MatchResult}
use Rattle.edge_io.specs.Connections.{Finished, IsNext}
use Rattle.edge_io.specs.Writes.{Adds}
use Rattle.sae_entitlements.specs.Grants.{Grants}
use Rattle.kme_serve.specs.declared.turn.Turn.{Turn}
use Rattle.kme_serve.specs.Connection.{Moment, IsServed}

-- a connection as it was accepted and as it was finished: what its source would give, and what its sink had taken
pub record Visit : Type 0 where
  pub left : Option (List ℕ)
  pub taken : Option (List ℕ)
  pub finished : Finished

abbrev pub finished_of : Visit → Finished
finished_of visit = visit.finished

-- The connections were accepted in this order from those that waited.
abbrev pub Come : Option (List (List ℕ)) → List Visit → Option (List (List ℕ)) → Type 0
Come waiting [] later = later ≡ waiting
Come waiting (visit ∷ visits) later = (next : Option (List (List ℕ))) × IsNext waiting next visit.left visit.taken × Come next visits later

module _ {P : Type 0} where
  abbrev pub first_moment : Visit → P → Moment P
  first_moment visit pass = record { left = visit.left; taken = visit.taken; read_faults = 0; write_faults = 0; pass = pass }

  abbrev pub last_moment : Visit → P → Moment P
  last_moment visit pass =
      record { left = visit.finished.left; taken = visit.finished.taken; read_faults = visit.finished.read_faults; write_faults = visit.finished.write_faults; pass = pass }

module _ (nodes : List (List ℕ)) (g : Grants) (node : ℕ) {P : Type 0} (Answers : P → Turn → P → Type 0) (seen : P → ℕ) where
  -- Each connection was served to its end, one after another.
  abbrev pub ServesAll : P → List Visit → P → Type 0
  ServesAll pass [] next = next ≡ pass
  ServesAll pass (visit ∷ visits) next =
      (between : P) × IsServed nodes g node Answers seen 0 [] [] (first_moment visit pass) (last_moment visit between) visit.finished.ended × ServesAll between visits next

-- what a listener tells of itself
pub record Door : Type 0 where
  pub port : ℕ
  pub accepted : ℕ
  pub finished : ℕ
  pub waiting : Option (List (List ℕ))
  pub done : Option (List Finished)

module _ (nodes : List (List ℕ)) (g : Grants) (node : ℕ) {P : Type 0} (Answers : P → Turn → P → Type 0) (seen : P → ℕ) where
  -- This number of connections were accepted, served and finished, each exactly once. If the listener failed, there were fewer.
  pub record IsDoorServed {T E : Type 0} (connections : ℕ) (before after : Door) (pass next : P) (result : Result T E) : Type 0 where
    pub visits : List Visit
    pub served : ServesAll nodes g node Answers seen pass visits next
    pub came : Come before.waiting visits after.waiting
    pub done : Adds before.done after.done (map finished_of visits)
    pub accepted : after.accepted ≡ before.accepted + length visits
    pub finished : after.finished ≡ before.finished + length visits
    pub port : after.port ≡ before.port
    pub count : MatchResult result (λ _. length visits ≡ connections) (λ _. length visits < connections)
