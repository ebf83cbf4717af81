-- Lists in which another list's items stand at the marked places.
use Rattle.std.proofs.Common.{◌≡◌, ℕ, zero, suc, ◌+◌, ◌<◌, ◌≤◌, Bool, true, false, List, [], ◌∷◌, ◌++◌, length, map, take, refl, sym, ap, ap₂, subst, ◌∙◌, arith, Option, Some}
use Rattle.std.specs.Prelude.{get_or, slice_get, slice_index_or, if◌then◌else◌}
use Rattle.std.specs.List.{AllZip}
use Rattle.std.proofs.Math.ListN.{set}
use Rattle.std.proofs.lemmas.List.{map-append, length-map, take_more, length-take-le}
use Rattle.kme_shared.specs.Rows.{mix}

module _ {A : Type 0} where
  pub mix_false : (bs : List Bool) (xs ys : List A) → mix (bs ++ false ∷ []) xs ys ≡ mix bs xs ys
  mix_false [] [] ys = refl
  mix_false [] (x ∷ xs) [] = refl
  mix_false [] (x ∷ xs) (y ∷ ys) = refl
  mix_false (b ∷ bs) [] ys = refl
  mix_false (b ∷ bs) (x ∷ xs) [] = refl
  mix_false (b ∷ bs) (x ∷ xs) (y ∷ ys) = ap₂ (λ (u : A) (us : List A). u ∷ us) refl (mix_false bs xs ys)

  pub mix_true : (bs : List Bool) (xs ys : List A) (n : ℕ) (y : A) → length bs ≡ n → n < length xs → length ys ≡ length xs → y ≡ get_or ys n y → mix (bs ++ true ∷ []) xs ys ≡ set (mix bs xs ys) n y
  mix_true [] [] ys n y long below same is = absurd (omega (arith, below))
  mix_true [] (x ∷ xs) [] n y long below same is = absurd (omega (arith, same))
  mix_true [] (x ∷ xs) (z ∷ ys) zero y long below same is = ap (λ (u : A). u ∷ xs) (sym is)
  mix_true [] (x ∷ xs) (z ∷ ys) (suc n) y long below same is = absurd (omega (arith, long))
  mix_true (b ∷ bs) xs ys zero y long below same is = absurd (omega (arith, long))
  mix_true (b ∷ bs) [] ys (suc n) y long below same is = absurd (omega (arith, below))
  mix_true (b ∷ bs) (x ∷ xs) [] (suc n) y long below same is = absurd (omega (arith, same))
  mix_true (b ∷ bs) (x ∷ xs) (z ∷ ys) (suc n) y long below same is = ap₂ (λ (u : A) (us : List A). u ∷ us) refl (mix_true bs xs ys n y (omega (arith, long)) (omega (arith, below)) (omega (arith, same)) is)

  pub mix_behind : (bs : List Bool) (xs ys : List A) (n : ℕ) (d : A) → length bs ≤ n → get_or (mix bs xs ys) n d ≡ get_or xs n d
  mix_behind [] xs ys n d above = refl
  mix_behind (b ∷ bs) [] ys n d above = refl
  mix_behind (b ∷ bs) (x ∷ xs) [] n d above = refl
  mix_behind (b ∷ bs) (x ∷ xs) (y ∷ ys) zero d above = absurd (omega (arith, above))
  mix_behind (b ∷ bs) (x ∷ xs) (y ∷ ys) (suc n) d above = mix_behind bs xs ys n d (omega (arith, above))

some_is : {A : Type 0} {a b : A} → ◌≡◌ {A = Option A} (Some a) (Some b) → a ≡ b
some_is h = cc

-- a function of the items of such a list

module _ {A B : Type 0} (f : A → B) where
  pub mix_other : (bs : List Bool) (xs ys : List A) (i : ℕ) (d : B) → slice_get bs i ≡ Some false → slice_index_or (map f (mix bs xs ys)) i d ≡ slice_index_or (map f xs) i d
  mix_other [] xs ys i d at = refl
  mix_other (b ∷ bs) [] ys i d at = refl
  mix_other (b ∷ bs) (x ∷ xs) [] i d at = refl
  mix_other (b ∷ bs) (x ∷ xs) (y ∷ ys) zero d at = ap (λ (t : Bool). f (if t then y else x)) (some_is at)
  mix_other (b ∷ bs) (x ∷ xs) (y ∷ ys) (suc i) d at = mix_other bs xs ys i d at

  pub mix_mine : (bs : List Bool) (xs ys : List A) (i : ℕ) (d : B) → length ys ≡ length xs → slice_get bs i ≡ Some true → slice_index_or (map f (mix bs xs ys)) i d ≡ slice_index_or (map f ys) i d
  mix_mine [] xs ys i d long at = cc
  mix_mine (b ∷ bs) [] [] i d long at = refl
  mix_mine (b ∷ bs) [] (y ∷ ys) i d long at = absurd (omega (arith, long))
  mix_mine (b ∷ bs) (x ∷ xs) [] i d long at = absurd (omega (arith, long))
  mix_mine (b ∷ bs) (x ∷ xs) (y ∷ ys) zero d long at = ap (λ (t : Bool). f (if t then y else x)) (some_is at)
  mix_mine (b ∷ bs) (x ∷ xs) (y ∷ ys) (suc i) d long at = mix_mine bs xs ys i d (omega (arith, long)) at

pub mix_zip : {A B : Type 0} (R : B → A → Type 0) (bs : List Bool) (ds : List B) (xs ys : List A) → AllZip R ds xs → AllZip R ds ys → AllZip R ds (mix bs xs ys)
mix_zip R [] ds xs ys h k = h
mix_zip R (b ∷ bs) ds [] ys h k = h
mix_zip R (b ∷ bs) ds (x ∷ xs) [] h k = h
mix_zip R (b ∷ bs) [] (x ∷ xs) (y ∷ ys) h k = absurd h
mix_zip R (b ∷ bs) (d ∷ ds) (x ∷ xs) (y ∷ ys) h k = (one b, mix_zip R bs ds xs ys h.1 k.1)
  where
    one : (t : Bool) → R d (if t then y else x)
    one true = k.0
    one false = h.0

-- the marks are given by a test of the items of a third list

abbrev marks : {B : Type 0} → (B → Bool) → List B → ℕ → List Bool
marks test bs n = map test (take n bs)

module _ {B : Type 0} (test : B → Bool) (bs : List B) (i : ℕ) (b : B) (below : i < length bs) (is : b ≡ get_or bs i b) where
  marks_long : length (marks test bs i) ≡ i
  marks_long = length-map (take i bs) test ∙ length-take-le i bs (omega (arith, below))

  marks_next : (t : Bool) → test b ≡ t → marks test bs (i + 1) ≡ marks test bs i ++ t ∷ []
  marks_next t e = ap (map test) (take_more bs i b below ∙ ap (λ (u : B). take i bs ++ u ∷ []) (sym is)) ∙ map-append test (take i bs) (b ∷ []) ∙ ap (λ (u : Bool). marks test bs i ++ u ∷ []) e

  -- the next item is marked, and taken from the other list
  pub mixed_in : {A : Type 0} (xs ys xs₀ xs₁ ys₀ : List A) (y : A) → length xs ≡ length bs → length ys ≡ length bs → test b ≡ true → xs₀ ≡ mix (marks test bs i) xs ys → ys₀ ≡ mix (marks test bs i) ys xs → y ≡ get_or ys₀ i y →
      xs₁ ≡ set xs₀ i y → xs₁ ≡ mix (marks test bs (i + 1)) xs ys
  mixed_in {A} xs ys xs₀ xs₁ ys₀ y long other e front back there now =
      let long' = marks_long in
      let read : y ≡ get_or ys i y = there ∙ ap (λ (us : List A). get_or us i y) back ∙ mix_behind (marks test bs i) ys xs i y (omega (arith, long')) in
      now ∙ ap (λ (us : List A). set us i y) front ∙ sym (mix_true (marks test bs i) xs ys i y long' (omega (arith, below, long)) (other ∙ sym long) read) ∙ sym (ap (λ (ms : List Bool). mix ms xs ys) (marks_next true e))

  -- the next item is not marked, and stays
  pub mixed_out : {A : Type 0} (xs ys xs₀ xs₁ : List A) → test b ≡ false → xs₀ ≡ mix (marks test bs i) xs ys → xs₁ ≡ xs₀ → xs₁ ≡ mix (marks test bs (i + 1)) xs ys
  mixed_out {A} xs ys xs₀ xs₁ e front now =
      now ∙ front ∙ sym (mix_false (marks test bs i) xs ys) ∙ sym (ap (λ (ms : List Bool). mix ms xs ys) (marks_next false e))
