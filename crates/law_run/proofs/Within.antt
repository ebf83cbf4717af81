-- If a list of handings contains another list in order, everything handed in the shorter list is handed in the longer one.
use Rattle.std.proofs.Common.{◌≡◌, ℕ, Bool, true, false, ◌||◌, ◌&&◌, List, refl}
use Rattle.std.specs.Prelude.{◌==◌}
use Rattle.qkd_base.specs.Name.{Name, name_eq}
use Rattle.net_model.specs.Table.{was_handed}
use Rattle.net_model.specs.Deliveries.{IsWithin, Empty, Next, Skip}
use Rattle.law_base.proofs.Base.{or_right}

next_any : (a b c : Bool) → (b ≡ true → c ≡ true) → (a || b) ≡ true → (a || c) ≡ true
next_any true b c more h = refl
next_any false b c more h = more h

pub handed_within : (xs ys : List (Name × ℕ)) → IsWithin xs ys → (n : Name) (sae : ℕ) → was_handed xs n sae ≡ true → was_handed ys n sae ≡ true
handed_within _ _ (Empty ys) n sae h = cc
handed_within _ _ (Next x xs ys more) n sae h = next_any (name_eq x.0 n && (x.1 == sae)) _ _ (handed_within xs ys more n sae) h
handed_within _ _ (Skip y xs ys more) n sae h = or_right (name_eq y.0 n && (y.1 == sae)) _ (handed_within xs ys more n sae h)
