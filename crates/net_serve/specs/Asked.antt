-- The calls that workers at doors made of managers.
use Rattle.std.specs.Prelude.{◌≡◌, ℕ, ◌%◌, Bool, List, [], length, slice_get, Some, Result, is_ok}
use Rattle.std.specs.List.{list_all}
use Rattle.edge_io.specs.declared.failed.Failed.{Failed}
use Rattle.qkd_base.specs.Faults.{Rose}
use Rattle.sae_entitlements.specs.Grants.{Grants}
use Rattle.kme_serve.specs.Door.{Door}
use Rattle.kme_serve.specs.Workers.{HasServed}
use Rattle.net_serve.specs.Serving.{Call, IsNextCall, next_place}
use Rattle.net_serve.specs.Served.{calls_of}

-- For each worker, at its own door: its calls of the manager of its node. The calls of a node's workers are exactly the known calls of that node.
pub record HaveAsked {D : Type 0} (tell : D → Door) (failed : D → ℕ) (names : List (List ℕ)) (g : Grants) (nodes connections : ℕ) (before after : List D) (known : ℕ → List Call) (all : Bool) : Type 0 where
  pub calls : List (List Call)
  pub workers : length calls ≡ length before
  pub doors : length after ≡ length before
  pub own : (v : ℕ) → known v ≡ calls_of v nodes 0 calls
  pub outcomes : List (Result (Unit {0}) Failed)
  pub ended : length outcomes ≡ length before
  pub served : (k : ℕ) (b a : D) (c : List Call) (outcome : Result (Unit {0}) Failed) → slice_get before k ≡ Some b → slice_get after k ≡ Some a → slice_get calls k ≡ Some c →
      slice_get outcomes k ≡ Some outcome →
      HasServed (λ p. Unit {0}) IsNextCall next_place names g (k % nodes) connections (tell b) (tell a) (failed b) (failed a) [] c outcome
  pub came : list_all is_ok outcomes ≡ all

-- a door failed
pub record DoorFailed {D : Type 0} (failed : D → ℕ) (before after : List D) : Type 0 where
  pub place : ℕ
  pub was : D
  pub is : D
  pub before' : slice_get before place ≡ Some was
  pub after' : slice_get after place ≡ Some is
  pub rose : Rose (failed was) (failed is)
