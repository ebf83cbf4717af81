-- What is found of a parameter, pair by pair.
use Rattle.std.proofs.Common.{◌≡◌, ℕ, true, false, List, [], ◌∷◌, refl, sym, ap, ◌∙◌}
use Rattle.std.specs.Str.{bytes_eq}
use Rattle.qkd014_api.specs.Queries.{text_of, values_among, one_of}
use Rattle.qkd014_api.specs.declared.query.Given.{Given}
use Rattle.qkd014_api.specs.declared.query.Given.TheVariants.{Absent, Once, Often}

-- what was found so far, and more values after it
abbrev pub with_more : Given → List (List ℕ) → Given
with_more Absent vs = one_of vs
with_more (Once v) vs = one_of (v ∷ vs)
with_more Often vs = Often

pub with_more-none : (g : Given) → with_more g [] ≡ g
with_more-none Absent = refl
with_more-none (Once v) = refl
with_more-none Often = refl

-- what was found so far, and one more value
abbrev pub one_more : Given → List ℕ → Given
one_more Absent v = Once v
one_more (Once w) v = Often
one_more Often v = Often

pub with_more-value : (g : Given) (v : List ℕ) (vs : List (List ℕ)) → with_more (one_more g v) vs ≡ with_more g (v ∷ vs)
with_more-value Absent v vs = refl
with_more-value (Once w) v vs = refl
with_more-value Often v vs = refl

pub values-pair : (name : List ℕ) (p : List ℕ × List ℕ) (pairs : List (List ℕ × List ℕ)) → bytes_eq (text_of p.0) name ≡ true
    → values_among name (p ∷ pairs) ≡ text_of p.1 ∷ values_among name pairs
values-pair name p pairs same = rw same refl

pub values-other : (name : List ℕ) (p : List ℕ × List ℕ) (pairs : List (List ℕ × List ℕ)) → bytes_eq (text_of p.0) name ≡ false
    → values_among name (p ∷ pairs) ≡ values_among name pairs
values-other name p pairs other = rw other refl
