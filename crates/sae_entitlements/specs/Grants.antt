-- Applications with their homes, and the allowed pairs of them.
use Rattle.std.specs.Prelude.{◌≡◌, ℕ, ◌<◌, List, [], ◌∷◌, ◌++◌, length, slice_get, Option, Some, Bool, refl}
use Rattle.std.specs.List.{position_from}
use Rattle.std.specs.Option.{option_map}
use Rattle.std.specs.Str.{bytes_eq}
use Rattle.std.specs.Coded.{Coded, code_by, coded×, coded_ℕ, coded_list}
use Rattle.std.specs.FinSet as set
use Rattle.sae_entitlements.specs.Pair.{pair_cmp}

-- an application: its ID, and the node at which it gets its keys
pub record Sae : Type 0 where
  pub id : List ℕ
  pub home : ℕ

-- the applications in order of their numbers, and the allowed pairs of a master and a slave
pub record Grants : Type 0 where
  pub saes : List Sae
  pub allowed : set.FinSet pair_cmp

abbrev pub sae_code : Coded Sae
sae_code = code_by (List ℕ × ℕ) (coded× (coded_list coded_ℕ) coded_ℕ) (λ s. (s.id, s.home)) (λ p. record { id = p.0; home = p.1 }) (λ _. refl)

abbrev pub grants_code : Coded Grants
grants_code = code_by (List Sae × set.FinSet pair_cmp) (coded× (coded_list sae_code) (set.code (coded× coded_ℕ coded_ℕ))) (λ g. (g.saes, g.allowed)) (λ p. record { saes = p.0; allowed = p.1 }) (λ _. refl)

abbrev pub none : Grants
none = record { saes = []; allowed = set.empty }

-- the number of the first application with this ID
abbrev pub find_sae : List Sae → List ℕ → Option ℕ
find_sae saes id = position_from (λ (s : Sae). bytes_eq s.id id) 0 saes

abbrev pub id_of : Grants → ℕ → Option (List ℕ)
id_of g n = option_map (λ (s : Sae). s.id) (slice_get g.saes n)

abbrev pub home_of : Grants → ℕ → Option ℕ
home_of g n = option_map (λ (s : Sae). s.home) (slice_get g.saes n)

abbrev pub with_sae : Grants → List ℕ → ℕ → Grants
with_sae g id home = record g { saes = g.saes ++ (record { id = id; home = home }) ∷ [] }

abbrev pub is_allowed : Grants → ℕ → ℕ → Bool
is_allowed g master slave = set.contains g.allowed (master, slave)

abbrev pub with_pair : Grants → ℕ → ℕ → Grants
with_pair g master slave = record g { allowed = set.insert g.allowed (master, slave) }

abbrev pub IsKnown : Grants → ℕ → Type 0
IsKnown g n = n < length g.saes

-- no two applications have the same ID, so each is found by its own
abbrev pub HasDistinctIds : List Sae → Type 0
HasDistinctIds saes = (n : ℕ) (s : Sae) → slice_get saes n ≡ Some s → find_sae saes s.id ≡ Some n
