-- The length of a body where there isn't exactly one value of Content-Length.
use Rattle.std.proofs.Common.{◌≡◌, ℕ, ◌≤◌, Bool, true, false, List, [], ◌∷◌, length, None, refl, sym, ◌∙◌, ltb, rules, codes}
use Rattle.std.specs.Str.{bytes_eq}
use Rattle.http_front.specs.Fields.{Pair, values_of, only_of}
use Rattle.http_front.specs.Front.{framing_of, length_in, length_of_none}

length-none : (posts : Bool) (vs : List (List ℕ)) → only_of vs ≡ None → length_of_none posts (length vs) ≡ length_in posts vs
length-none true [] none = refl
length-none false [] none = refl
length-none true (v ∷ []) none = cc
length-none false (v ∷ []) none = cc
length-none true (v ∷ w ∷ vs) none = search rules
length-none false (v ∷ w ∷ vs) none = search rules

pub framing-none : (method : List ℕ) (fields : List Pair) → length (values_of (codes "transfer-encoding") fields) ≤ 0
    → only_of (values_of (codes "content-length") fields) ≡ None
    → length_of_none (bytes_eq method (codes "POST")) (length (values_of (codes "content-length") fields)) ≡ framing_of method fields
framing-none method fields plain none =
    let no : ltb 0 (length (values_of (codes "transfer-encoding") fields)) ≡ false = search rules in
    length-none (bytes_eq method (codes "POST")) (values_of (codes "content-length") fields) none ∙ sym (rw no refl)
