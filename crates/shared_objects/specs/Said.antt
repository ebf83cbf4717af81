-- What a worker and the machines say to each other.
use Rattle.std.specs.Prelude.{ℕ, ◌==◌, List, [], ◌∷◌, if◌then◌else◌}
use Rattle.std.specs.List.{flat_map}

-- a call of one of several machines, its place in that machine's history, and its reply
pub record Said (Q A : Type 0) : Type 0 where
  pub machine : ℕ
  pub place : ℕ
  pub request : Q
  pub reply : A

module _ {Q A : Type 0} where
  -- what was said with one machine, in order, with the places in its history
  abbrev pub said_on : ℕ → List (Said Q A) → List (ℕ × (Q × A))
  said_on i [] = []
  said_on i (s ∷ said) = if s.machine == i then (s.place, (s.request, s.reply)) ∷ said_on i said else said_on i said

  -- what was said in several jobs, concatenated
  abbrev pub all_said : List (ℕ × List (Said Q A)) → List (Said Q A)
  all_said talks = flat_map (λ (t : ℕ × List (Said Q A)). t.1) talks
