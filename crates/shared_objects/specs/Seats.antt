-- A row of seats, one at each turnstile.
use Rattle.std.specs.Prelude.{◌≡◌, ℕ, ◌+◌, List, [], ◌∷◌, ◌++◌, map, reverse, length, slice_index_or}
use Rattle.turnstile.specs.declared.machine.Machine.{Ghosts}
use Rattle.turnstile.specs.declared.turnstile.Turnstile.{Turnstile}
use Rattle.shared_objects.specs.declared.pass.Post.{Post}
use Rattle.turnstile.specs.Names.{opening, all_calls, knows, Fits}
use Rattle.turnstile.specs.Views.{Stands, IsWhole}
use Rattle.turnstile.specs.Turns.{Leads}
use Rattle.shared_objects.specs.Rising.{Rises}

module _ {M Q A C : Type 0} {g : Ghosts M Q A C} where
  -- the calls that the seat in this place has made, and its budget
  abbrev pub calls_at : ℕ → List (Post M Q A C g) → List (ℕ × (Q × A))
  calls_at i posts = slice_index_or (map (λ p. (knows p.seat).mine) posts) i []

  abbrev pub budget_at : ℕ → List (Post M Q A C g) → ℕ
  budget_at i posts = slice_index_or (map (λ p. (knows p.seat).budget) posts) i 0

  -- the seat belongs to the turnstile
  abbrev pub Belongs : Turnstile M Q A C → Post M Q A C g → Type 0
  Belongs t p = Fits t p.seat

  -- The seat belongs to the turnstile, and its calls stand in the history that it has seen, at rising places.
  pub record Sits (t : Turnstile M Q A C) (p : Post M Q A C g) : Type 0 where
    pub fits : Fits t p.seat
    pub stands : Stands (knows p.seat).mine (knows p.seat).seen
    pub rises : Rises (knows p.seat).mine

  -- The seat belongs to the turnstile. The calls that it has made and those that it has left are all calls of the turnstile.
  pub record HoldsAll (t : Turnstile M Q A C) (p : Post M Q A C g) : Type 0 where
    pub fits : Fits t p.seat
    pub whole : (knows p.seat).budget + length (knows p.seat).mine ≡ all_calls t

  -- a new seat of the turnstile, which may make this number of calls
  pub record IsFresh (calls : ℕ) (t : Turnstile M Q A C) (p : Post M Q A C g) : Type 0 where
    pub fits : Fits t p.seat
    pub none : (knows p.seat).mine ≡ []
    pub budget : (knows p.seat).budget ≡ calls

  -- the first seat of a turnstile that allows this number of calls
  pub record IsOpened (calls : ℕ) (t : Turnstile M Q A C) (p : Post M Q A C g) : Type 0 where
    pub fresh : IsFresh calls t p
    pub all : all_calls t ≡ calls

  module _ (turn : M → Q → A → M → Type 0) where
    -- The machine behind the turnstile is at the end of a history that consists of the seat's calls.
    pub record Ends (t : Turnstile M Q A C) (p : Post M Q A C g) (machine : M) : Type 0 where
      pub log : List (Q × A)
      pub leads : Leads turn (opening t) log machine
      pub whole : IsWhole (knows p.seat).mine log

    abbrev pub EndAll : List (Turnstile M Q A C) → List (Post M Q A C g) → List M → Type 0
    EndAll [] [] [] = Unit {0}
    EndAll (t ∷ ts) (p ∷ ps) (m ∷ ms) = Ends t p m × EndAll ts ps ms
    EndAll _ _ _ = ⊥

    -- The machines of all turnstiles are appended to those before, beginning with the last one.
    pub record Closes (ts : List (Turnstile M Q A C)) (ps : List (Post M Q A C g)) (before after : List M) : Type 0 where
      pub ended : List M
      pub ends : EndAll ts ps ended
      pub behind : after ≡ before ++ reverse ended
