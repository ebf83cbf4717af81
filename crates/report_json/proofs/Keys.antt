-- The objects of keys, one after another.
use Rattle.std.proofs.Common.{◌≡◌, ℕ, suc, ◌+◌, ◌<◌, List, [], ◌∷◌, ◌++◌, map, length, get_or, drop, sym, ◌∙◌, ap, append_assoc, add-one}
use Rattle.std.proofs.Math.Seq.{drop-cons}
use Rattle.std.proofs.lemmas.List.{map-append}
use Rattle.serde_json.specs.Data.{Data}
use Rattle.serde_json.specs.View.{view}
use Rattle.serde_json.specs.declared.value.Value.{Value}
use Rattle.qkd_base.specs.Name.{Name}
use Rattle.report_json.specs.Objects.{key_object}

-- With one value more, the values so far and the keys that are left are still all keys.
pub one_more : (old new : List Value) (v : Value) (keys : List (Name × List ℕ)) (i : ℕ) (k : Name × List ℕ) → i < length keys → k ≡ get_or keys i k → view v ≡ key_object k → new ≡ old ++ v ∷ []
    → map view old ++ map key_object (drop i keys) ≡ map key_object keys → map view new ++ map key_object (drop (i + 1) keys) ≡ map key_object keys
one_more old new v keys i k within there is e before =
    let at : drop i keys ≡ k ∷ drop (i + 1) keys = rw add-one (drop-cons keys i k within ∙ ap (λ (x : Name × List ℕ). x ∷ drop (suc i) keys) (sym there)) in
    let grown : map view new ≡ map view old ++ key_object k ∷ [] = ap (map view) e ∙ map-append view old (v ∷ []) ∙ ap (λ (d : Data). map view old ++ d ∷ []) is in
    ap (λ (ds : List Data). ds ++ map key_object (drop (i + 1) keys)) grown
    ∙ append_assoc (map view old) (key_object k ∷ []) (map key_object (drop (i + 1) keys))
    ∙ sym (ap (λ (ks : List (Name × List ℕ)). map view old ++ map key_object ks) at) ∙ before
