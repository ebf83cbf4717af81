-- Names that are asked for, and those that are handed out.
use Rattle.std.proofs.Common.{◌≡◌, ◌≢◌, ℕ, suc, ◌+◌, ◌-◌, ◌<◌, Bool, true, false, not, ◌&&◌, List, [], ◌∷◌, length, refl, sym, ap, ◌∙◌, arith}
use Rattle.qkd_base.specs.Name.{Name, name_eq}
use Rattle.item_audit.specs.Handing.{have_names, repeats_at, are_different}

and_false : (b : Bool) → (b && false) ≡ false
and_false true = refl
and_false false = refl

pub other_lengths : (ns : List Name) (keys : List (Name × List ℕ)) → length ns ≢ length keys → false ≡ have_names ns keys
other_lengths [] [] h = absurd (h refl)
other_lengths [] (k ∷ keys) h = refl
other_lengths (n ∷ ns) [] h = refl
other_lengths (n ∷ ns) (k ∷ keys) h = sym (and_false (name_eq k.0 n)) ∙ ap (λ (b : Bool). name_eq k.0 n && b) (other_lengths ns keys (λ e. h (ap suc e)))

pub one_fewer : (names : List Name) (count steps : ℕ) → steps < count → repeats_at names (count - 1 - steps) ≡ false → are_different names (count - (steps + 1)) ≡ are_different names (count - steps)
one_fewer names count steps lt once =
    let here : count - steps ≡ suc (count - 1 - steps) = omega (arith, lt) in
    let next : count - (steps + 1) ≡ count - 1 - steps = omega (arith, lt) in
    ap (are_different names) next ∙ sym (ap (are_different names) here ∙ ap (λ (b : Bool). not b && are_different names (count - 1 - steps)) once)
