-- Merges whose parts a function makes from other lists.
use Rattle.std.specs.Prelude.{◌≡◌, List, map}
use Rattle.net_model.specs.BlockOrder.{IsMerge}

-- The list `out` is made by the function from a merge of the lists `kept`.
pub record IsMade {A B : Type 0} (made : B → A) (kept : List (List B)) (out : List A) : Type 0 where
  pub merge : List B
  pub is : IsMerge kept merge
  pub of : map made merge ≡ out
