-- Logs in which a put names its claim by the claim's place in the log, which is what a caller of the lane knows.
use Rattle.std.specs.Prelude.{◌≡◌, ℕ, ◌+◌, List, [], ◌∷◌, length, map, take}
use Rattle.std.specs.List.{list_all}
use Rattle.net_model.specs.Site.{count_up}
use Rattle.law_parallel.specs.Logs.{Deed, Claims, Puts, Repeats, claims_in, claims_put, done_for_plans, is_answered, HaveTheSame}

-- The places of the claims in a log whose first deed is at `place`.
abbrev pub claimed_at : (place : ℕ) → List Deed → List ℕ
claimed_at place [] = []
claimed_at place (Claims line order ∷ log) = place ∷ claimed_at (place + 1) log
claimed_at place (Puts claim answer ∷ log) = claimed_at (place + 1) log
claimed_at place (Repeats line repeat answer ∷ log) = claimed_at (place + 1) log

abbrev pub claims_before : List Deed → (place : ℕ) → ℕ
claims_before log place = length (claims_in (take place log))

-- The deed with the number of its claim instead of the claim's place.
abbrev pub with_number : List Deed → Deed → Deed
with_number log (Claims line order) = Claims line order
with_number log (Puts place answer) = Puts (claims_before log place) answer
with_number log (Repeats line repeat answer) = Repeats line repeat answer

abbrev pub numbered : List Deed → List Deed
numbered log = map (with_number log) log

-- The numbered log puts the frame of each claim once. It has the same claims, the same deeds for plans and the same
-- answers as the log.
pub record IsNumbered (log : List Deed) : Type 0 where
  pub put : HaveTheSame (claims_put (numbered log)) (count_up (length (claims_in (numbered log))))
  pub claims : claims_in (numbered log) ≡ claims_in log
  pub wanted : done_for_plans (numbered log) ≡ done_for_plans log
  pub answered : list_all is_answered (numbered log) ≡ list_all is_answered log
