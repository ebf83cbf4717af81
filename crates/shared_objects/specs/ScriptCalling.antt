-- The calls that a caller makes from its seats.
use Rattle.std.specs.Prelude.{◌≡◌, ℕ, ◌+◌, List, [], ◌∷◌, ◌++◌, map, length, slice_index_or, Some, slice_get}
use mathlib.Core.List.{IsPrefix}
use Rattle.turnstile.specs.declared.machine.Machine.{Ghosts}
use Rattle.turnstile.specs.declared.turnstile.Turnstile.{Turnstile}
use Rattle.turnstile.specs.Names.{knows}
use Rattle.turnstile.specs.Turns.{Leads}
use Rattle.shared_objects.specs.declared.pass.Post.{Post}
use Rattle.shared_objects.specs.Seats.{calls_at, budget_at}
use Rattle.shared_objects.specs.Said.{Said, said_on}

module _ {M Q A C : Type 0} {g : Ghosts M Q A C} where
  -- the prefix of a machine's history that the seat in this place has seen
  abbrev pub seen_at : ℕ → List (Post M Q A C g) → List (Q × A)
  seen_at i posts = slice_index_or (map (λ p. (knows p.seat).seen) posts) i []

  -- Calls were made from the seats. At each machine they are appended to the earlier calls, and each takes one from the budget.
  pub record HasSaid (said : List (Said Q A)) (posts posts' : List (Post M Q A C g)) : Type 0 where
    pub calls : (i : ℕ) → calls_at i posts' ≡ calls_at i posts ++ said_on i said
    pub budget : (i : ℕ) → budget_at i posts' + length (said_on i said) ≡ budget_at i posts

  -- Calls were made from the seats, and the turnstiles stayed the same.
  pub record HasCalled (said : List (Said Q A)) (turnstiles : List (Turnstile M Q A C)) (posts : List (Post M Q A C g)) (turnstiles' : List (Turnstile M Q A C)) (posts' : List (Post M Q A C g)) : Type 0 where
    pub same : turnstiles' ≡ turnstiles
    pub told : HasSaid said posts posts'

module _ {M Q A : Type 0} (turn : M → Q → A → M → Type 0) where
  -- A call is the next entry of a legal history of the machine that begins with what was seen before. The machine's turn gave
  -- the reply.
  pub record IsAnswered (openings : List M) (said : Said Q A) (seen seen' : List (Q × A)) : Type 0 where
    pub opening : M
    pub there : slice_get openings said.machine ≡ Some opening
    pub earlier : List (Q × A)
    pub before : M
    pub after : M
    pub leads : Leads turn opening earlier before
    pub turned : turn before said.request said.reply after
    pub place : length earlier ≡ said.place
    pub prefix : IsPrefix seen earlier
    pub now_seen : seen' ≡ earlier ++ (said.request, said.reply) ∷ []
