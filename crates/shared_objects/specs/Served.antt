-- What the calls of several workers do to the machines.
use Rattle.std.specs.Prelude.{◌≡◌, ℕ, List, map, length, Option, Some, slice_get}
use Rattle.net_model.specs.BlockOrder.{IsMerge}
use Rattle.turnstile.specs.Turns.{Leads}
use Rattle.shared_objects.specs.declared.call.Call.{Call}
use Rattle.shared_objects.specs.Asked.{requests_on}

module _ {M Q A : Type 0} (turn : M → Q → A → M → Type 0) where
  -- One history leads from the machine before to the machine after. Its requests are a merge of what each worker asks.
  pub record HasServed (asked : List (List Q)) (before after : M) : Type 0 where
    pub log : List (Q × A)
    pub leads : Leads turn before log after
    pub merged : IsMerge asked (map (λ e. e.0) log)

  -- Each machine has a history of its own.
  pub record HaveServed (shifts : List (List (Option (Call Q)))) (before after : List M) : Type 0 where
    pub same : length after ≡ length before
    pub each : (i : ℕ) (m n : M) → slice_get before i ≡ Some m → slice_get after i ≡ Some n → HasServed (map (requests_on i) shifts) m n
