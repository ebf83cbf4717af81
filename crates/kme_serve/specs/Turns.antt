-- The turns of a manager that one caller asked for.
use Rattle.std.specs.Prelude.{◌≡◌, ℕ, ◌+◌, ◌≤◌, List, [], ◌∷◌, Option, Some, None}
use Rattle.kme_serve.specs.declared.turn.Turn.{Turn}
use Rattle.kme_serve.specs.Exchange.{Exchange}

module _ {P : Type 0} (Answers : P → Turn → P → Type 0) (seen : P → ℕ) where
  -- One turn, or none. A turn's place in the manager's history is after all that the pass had seen.
  abbrev pub Takes : P → Option Turn → P → Type 0
  Takes pass None next = next ≡ pass
  Takes pass (Some turn) next = Answers pass turn next × (seen pass ≤ turn.place) × (seen next ≡ turn.place + 1)

  -- the turns of these exchanges, in their order, and no others
  abbrev pub TakesAll : P → List Exchange → P → Type 0
  TakesAll pass [] next = next ≡ pass
  TakesAll pass (x ∷ xs) next = (between : P) × Takes pass x.turn between × TakesAll between xs next
