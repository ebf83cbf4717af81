-- The calls of one caller of a machine, each with its place in the machine's history.
use Rattle.std.specs.Prelude.{ℕ, ◌+◌, ◌<◌, List, [], ◌∷◌, map}
use Rattle.std.specs.List.{AllByRecursion, flat_map}
use Rattle.turnstile.specs.Views.{places}

module _ {E : Type 0} where
  -- the calls without their places
  abbrev pub entries : List (ℕ × E) → List E
  entries calls = map (λ (c : ℕ × E). c.1) calls

  -- each call's place is below the places of all later calls
  abbrev pub Rises : List (ℕ × E) → Type 0
  Rises [] = Unit {0}
  Rises (c ∷ cs) = AllByRecursion (λ p. c.0 < p) (places cs) × Rises cs

-- the concatenation of the lists
abbrev pub together : {A : Type 0} → List (List A) → List A
together {A} parts = flat_map (λ (xs : List A). xs) parts

-- the entries of a history with their places, of which the first is `place`
abbrev pub placed_from : {A : Type 0} → (place : ℕ) → List A → List (ℕ × A)
placed_from place [] = []
placed_from place (x ∷ log) = (place, x) ∷ placed_from (place + 1) log
