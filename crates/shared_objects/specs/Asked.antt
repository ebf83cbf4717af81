-- What workers ask of machines.
use Rattle.std.specs.Prelude.{◌≡◌, ℕ, ◌==◌, List, [], ◌∷◌, Option, Some, None, slice_get, if◌then◌else◌}
use Rattle.shared_objects.specs.declared.call.Call.{Call}

module _ {Q : Type 0} where
  -- the requests of a shift's calls of one machine, in order
  abbrev pub requests_on : ℕ → List (Option (Call Q)) → List Q
  requests_on i [] = []
  requests_on i (None ∷ entries) = requests_on i entries
  requests_on i (Some call ∷ entries) = if call.machine == i then call.request ∷ requests_on i entries else requests_on i entries

module _ {M C Q : Type 0} (charter : M → C) (takes : C → Q → Type 0) where
  -- The call is of one of the machines, and that machine's charter takes the request.
  abbrev pub IsTaken : List M → Call Q → Type 0
  IsTaken machines call = (machine : M) × (slice_get machines call.machine ≡ Some machine) × takes (charter machine) call.request
