-- What a node knows: its facts, and which of them were acknowledged.
use Rattle.std.specs.Prelude.{◌≡◌, ℕ, zero, suc, ◌<◌, ◌^◌, ◌&&◌, not, is_some, Bool, true, List, [], ◌∷◌, ◌++◌, map, filter, slice_get, Option, Some, if◌then◌else◌}
use Rattle.std.specs.List.{position_from, list_any}
use Rattle.qkd_base.specs.Name.{Name, IsName, name_eq, has}
use Rattle.qkd_base.specs.Route.{next_after}
use Rattle.net_model.specs.declared.fact.Fact.{Fact}
use Rattle.net_model.specs.Table.{name_of, route_of, has_fact, without_bytes}
use Rattle.net_model.specs.Decision.{last_count}
use Rattle.relay_core.specs.Index.{IsIndex, is_owed_to}

-- Facts are in the order in which they were learned, acknowledged names in the order of their acknowledgements. The
-- spare fields say for how many more there is reserved memory.
pub record Knowledge : Type 0 where
  pub me : ℕ
  pub facts : List Fact
  pub acked : List Name
  pub facts_spare : ℕ
  pub acked_spare : ℕ

-- The place of the first fact with a name.
abbrev pub place_of : List Fact → Name → Option ℕ
place_of facts n = position_from (λ f. name_eq (name_of f) n) 0 facts

-- The fact is owed to some neighbour: it has a next node on its route, which hasn't acknowledged it.
abbrev pub is_owed_by : ℕ → List Name → Fact → Bool
is_owed_by me acked f = is_some (next_after (route_of f) me) && not (has acked (name_of f))

-- The fact with this name is owed to some neighbour.
abbrev pub owes_fact : ℕ → List Name → List Fact → Name → Bool
owes_fact me acked facts n = list_any (λ f. name_eq (name_of f) n && is_owed_by me acked f) facts

-- The names of the facts that are owed to a neighbour, in the order in which the facts were learned.
abbrev pub owed_names : ℕ → List Name → List Fact → ℕ → List Name
owed_names me acked facts to = map name_of (filter (is_owed_to me acked to) facts)

-- The acknowledged names after an acknowledgement of `n`. The name is appended only if its fact was owed.
abbrev pub acked_with : ℕ → List Name → List Fact → Name → List Name
acked_with me acked facts n = if owes_fact me acked facts n then acked ++ n ∷ [] else acked

-- The facts, with zeros in place of the bytes of the fact at one place.
abbrev pub forgotten : List Fact → ℕ → List Fact
forgotten [] place = []
forgotten (f ∷ fs) zero = without_bytes f ∷ fs
forgotten (f ∷ fs) (suc place) = f ∷ forgotten fs place

-- The fact at place `i` has the name `n`.
pub record IsNamedAt (facts : List Fact) (i : ℕ) (n : Name) : Type 0 where
  pub fact : Fact
  pub there : slice_get facts i ≡ Some fact
  pub named : name_of fact ≡ n

-- Every fact has a valid name, and no two facts have the same name.
pub record AreDistinct (facts : List Fact) : Type 0 where
  pub names : (i : ℕ) (n : Name) → IsNamedAt facts i n → IsName n
  pub apart : (i j : ℕ) (n : Name) → IsNamedAt facts i n → IsNamedAt facts j n → i ≡ j

-- The invariant of a node's table of facts.
pub record IsKnown (me : ℕ) (facts : List Fact) (acked : List Name) (entries : List (List ℕ)) (catalogued last : ℕ) : Type 0 where
  pub distinct : AreDistinct facts
  pub index : IsIndex me acked facts entries catalogued
  pub known : (n : Name) → has acked n ≡ true → has_fact facts n ≡ true
  pub told : (i : ℕ) (f : Fact) → slice_get facts i ≡ Some f → has acked (name_of f) ≡ true → is_some (next_after (route_of f) me) ≡ true
  pub last_is : last ≡ last_count me facts
  pub bound : last < 2 ^ 48
