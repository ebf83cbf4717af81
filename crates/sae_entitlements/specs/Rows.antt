-- How the applications store the allowed pairs: each has a row that says for each slave whether the pair is allowed.
use Rattle.std.specs.Prelude.{ℕ, ◌+◌, ◌≤◌, List, [], ◌∷◌, ◌++◌, length, map, Bool, true, false}
use Rattle.std.specs.FinSet as set
use Rattle.sae_entitlements.specs.declared.application.Application.{Application}
use Rattle.sae_entitlements.specs.Grants.{Sae, Grants, HasDistinctIds}

abbrev pub sae_of : Application → Sae
sae_of a = record { id = a.id; home = a.home }

-- the places of a row that hold true
abbrev pub slaves_of : List Bool → List ℕ
slaves_of [] = []
slaves_of (true ∷ row) = 0 ∷ map (λ n. n + 1) (slaves_of row)
slaves_of (false ∷ row) = map (λ n. n + 1) (slaves_of row)

abbrev pub pairs_of : List Application → List (ℕ × ℕ)
pairs_of [] = []
pairs_of (a ∷ rest) = map (λ (s : ℕ). (0, s)) (slaves_of a.slaves) ++ map (λ (p : ℕ × ℕ). (p.0 + 1, p.1)) (pairs_of rest)

abbrev pub grants_of : List Application → Grants
grants_of all = record { saes = map sae_of all; allowed = set.from_list (pairs_of all) }

-- at most 256 applications, each with an ID of its own
pub record AreApplications (all : List Application) : Type 0 where
  pub room : length all ≤ 256
  pub distinct : HasDistinctIds (map sae_of all)
