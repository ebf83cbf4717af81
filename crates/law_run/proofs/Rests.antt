-- The octets that are left of a list.
use Rattle.std.proofs.Common.{◌≡◌, ◌∙◌, ℕ, ◌+◌, ◌-◌, List, length, sym, Some, drop, length-drop}
use Rattle.std.specs.Prelude.{slice_index_or}
use Rattle.std.proofs.lemmas.List.{get_or-drop}
use Rattle.std.proofs.lemmas.Grind.{same_number_lists}

some_same : (a b : ℕ) → Some a ≡ Some b → a ≡ b
some_same a b h = cc

pub rest_is : (told rest : List ℕ) (n : ℕ) → ((i : ℕ) → slice_index_or rest i 0 ≡ slice_index_or told (n + i) 0) → Some (length rest) ≡ Some (length told - n) → rest ≡ drop n told
rest_is told rest n octets end =
    same_number_lists rest (drop n told) (some_same (length rest) (length told - n) end ∙ sym (length-drop n told)) (λ k below. octets k ∙ sym (get_or-drop n told k 0))
