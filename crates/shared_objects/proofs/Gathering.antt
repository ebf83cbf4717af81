-- A list made from two lists, place by place.
use Rattle.std.proofs.Common.{◌≡◌, ℕ, zero, suc, List, [], ◌∷◌, map, length, slice_get, Some, refl, ap, subst, arith}

-- a list of the same length, with an item related to the two lists' items at each place
pub record Gathered {X Y T : Type 0} (R : ℕ → X → Y → T → Type 0) (xs : List X) (ys : List Y) : Type 0 where
  pub all : List T
  pub many : length all ≡ length xs
  pub each : (i : ℕ) (x : X) (y : Y) (t : T) → slice_get xs i ≡ Some x → slice_get ys i ≡ Some y → slice_get all i ≡ Some t → R i x y t

one_before : {X Y T : Type 0} (R : ℕ → X → Y → T → Type 0) (x : X) (xs : List X) (y : Y) (ys : List Y) (t : T) → R 0 x y t → Gathered (λ i. R (suc i)) xs ys → Gathered R (x ∷ xs) (y ∷ ys)
one_before {X} {Y} {T} R x xs y ys t r rest = record { all = t ∷ rest.all; many = ap suc rest.many; each = at }
  where
    at : (i : ℕ) (a : X) (b : Y) (u : T) → slice_get (x ∷ xs) i ≡ Some a → slice_get (y ∷ ys) i ≡ Some b → slice_get (t ∷ rest.all) i ≡ Some u → R i a b u
    at zero a b u e f h =
        let p : x ≡ a = cc in
        let q : y ≡ b = cc in
        let s : t ≡ u = cc in
        subst (λ (a : X). R 0 a b u) p (subst (λ (b : Y). R 0 x b u) q (subst (λ (u : T). R 0 x y u) s r))
    at (suc i) a b u e f h = rest.each i a b u e f h

pub gather : {X Y T : Type 0} (R : ℕ → X → Y → T → Type 0) (xs : List X) (ys : List Y) → length ys ≡ length xs →
    ((i : ℕ) (x : X) (y : Y) → slice_get xs i ≡ Some x → slice_get ys i ≡ Some y → (t : T) × R i x y t) → Gathered R xs ys
gather R [] [] e h = record { all = []; many = refl; each = λ i x y t a b c. cc }
gather R [] (y ∷ ys) e h = absurd (omega (arith, e))
gather R (x ∷ xs) [] e h = absurd (omega (arith, e))
gather R (x ∷ xs) (y ∷ ys) e h =
    let t = h 0 x y refl refl in
    one_before R x xs y ys t.0 t.1 (gather (λ i. R (suc i)) xs ys (omega (arith, e)) (λ i a b u v. h (suc i) a b u v))

-- An item of a mapped list is the image of the item at the same place.
pub at_map : {X Y : Type 0} (f : X → Y) (xs : List X) (i : ℕ) (x : X) → slice_get xs i ≡ Some x → slice_get (map f xs) i ≡ Some (f x)
at_map f [] i x e = cc
at_map f (y ∷ ys) zero x e = let p : y ≡ x = cc in ap (λ z. Some (f z)) p
at_map f (y ∷ ys) (suc i) x e = at_map f ys i x e
