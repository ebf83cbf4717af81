-- Connections: those that wait, and those that were finished.
use Rattle.std.specs.Prelude.{◌≡◌, ℕ, List, [], ◌∷◌, Option, Some, None, IsSome}
use Rattle.edge_io.specs.declared.ended.Ended.{Ended}

-- a finished connection: what its source had left, what its sink took, how often each failed, and how it ended
pub record Finished : Type 0 where
  pub left : Option (List ℕ)
  pub taken : Option (List ℕ)
  pub read_faults : ℕ
  pub write_faults : ℕ
  pub ended : Ended

-- The first of the waiting connections was accepted. Contracts know a waiting connection by the bytes that its peer
-- sends, and these are what the new source has left. The new sink has taken nothing. If no connection waits, none is
-- accepted.
abbrev pub IsNext : Option (List (List ℕ)) → Option (List (List ℕ)) → Option (List ℕ) → Option (List ℕ) → Type 0
IsNext None new left taken = Unit {0}
IsNext (Some []) new left taken = ⊥
IsNext (Some (sent ∷ rest)) new left taken = (new ≡ Some rest) × (left ≡ Some sent) × (taken ≡ Some [])

-- A new listener took the first of these queues of connections, and left the others.
abbrev pub IsFirstQueue : Option (List (List (List ℕ))) → Option (List (List ℕ)) → Option (List (List (List ℕ))) → Type 0
IsFirstQueue None waiting rest = Unit {0}
IsFirstQueue (Some []) waiting rest = ⊥
IsFirstQueue (Some (queue ∷ queues)) waiting rest = (waiting ≡ Some queue) × (rest ≡ Some queues)

-- A new listener of this port. It has accepted and finished no connection, and has not failed. Contracts know its
-- connections if they know those of the listener, or the ports, that it was made from.
pub record IsNewDoor (told : Type 0) (port own accepted finished faults : ℕ) (waiting : Option (List (List ℕ))) (done : Option (List Finished)) : Type 0 where
  pub same_port : own ≡ port
  pub none_accepted : accepted ≡ 0
  pub none_finished : finished ≡ 0
  pub no_fault : faults ≡ 0
  pub tells : told → IsSome waiting × (done ≡ Some [])
