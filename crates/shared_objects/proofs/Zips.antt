-- Relations of two lists, place by place.
use Rattle.std.proofs.Common.{◌≡◌, ℕ, zero, suc, ◌<◌, List, [], ◌∷◌, ◌++◌, Option, Some, ◌≤◌, slice_get, set, get_or, take, length, map, refl, ap, subst, arith}
use Rattle.std.specs.List.{AllZip, AllByRecursion}

module _ {X Y : Type 0} (R : X → Y → Type 0) where
  pub zip_less : (xs : List X) (ys : List Y) (x : X) (y : Y) → AllZip R (xs ++ x ∷ []) (ys ++ y ∷ []) → AllZip R xs ys × R x y
  zip_less [] [] x y h = (tt, h.0)
  zip_less [] (b ∷ []) x y h = absurd h.1
  zip_less [] (b ∷ e ∷ bs) x y h = absurd h.1
  zip_less (a ∷ []) [] x y h = absurd h.1
  zip_less (a ∷ e ∷ cs) [] x y h = absurd h.1
  zip_less (a ∷ cs) (b ∷ bs) x y h = let r = zip_less cs bs x y h.1 in ((h.0, r.0), r.1)

  pub zip_last : (xs xs' : List X) (x : X) (ys ys' : List Y) (y : Y) → AllZip R xs ys → xs ≡ xs' ++ x ∷ [] → ys ≡ ys' ++ y ∷ [] → AllZip R xs' ys' × R x y
  zip_last xs xs' x ys ys' y h e f = zip_less xs' ys' x y (subst (λ (u : List X). AllZip R u (ys' ++ y ∷ [])) e (subst (λ (v : List Y). AllZip R xs v) f h))

  pub zip_of : (xs : List X) (ys : List Y) → length ys ≡ length xs → ((i : ℕ) (x : X) (y : Y) → slice_get xs i ≡ Some x → slice_get ys i ≡ Some y → R x y) → AllZip R xs ys
  zip_of [] [] e h = tt
  zip_of [] (b ∷ bs) e h = absurd (omega arith)
  zip_of (a ∷ cs) [] e h = absurd (omega arith)
  zip_of (a ∷ cs) (b ∷ bs) e h = (h 0 a b refl refl, zip_of cs bs (omega arith) (λ i x y u v. h (suc i) x y u v))

  pub zip_at : (xs : List X) (ys : List Y) (i : ℕ) (x : X) (y : Y) → AllZip R xs ys → slice_get xs i ≡ Some x → slice_get ys i ≡ Some y → R x y
  zip_at [] ys i x y h e f = cc
  zip_at (a ∷ cs) [] i x y h e f = absurd h
  zip_at (a ∷ cs) (b ∷ bs) zero x y h e f =
      let p : a ≡ x = cc in
      let q : b ≡ y = cc in
      subst (λ (u : X). R u y) p (subst (λ (v : Y). R a v) q h.0)
  zip_at (a ∷ cs) (b ∷ bs) (suc i) x y h e f = zip_at cs bs i x y h.1 e f

  pub zip_set : (xs : List X) (ys : List Y) (i : ℕ) (y : Y) → AllZip R xs ys → ((x : X) → slice_get xs i ≡ Some x → R x y) → AllZip R xs (set ys i y)
  zip_set [] [] i y h r = tt
  zip_set [] (b ∷ bs) i y h r = absurd h
  zip_set (a ∷ cs) [] i y h r = absurd h
  zip_set (a ∷ cs) (b ∷ bs) zero y h r = (r a refl, h.1)
  zip_set (a ∷ cs) (b ∷ bs) (suc i) y h r = (h.0, zip_set cs bs i y h.1 r)

  pub zip_same : (xs : List X) (ys : List Y) → AllZip R xs ys → length ys ≡ length xs
  zip_same [] [] h = refl
  zip_same [] (b ∷ bs) h = absurd h
  zip_same (a ∷ cs) [] h = absurd h
  zip_same (a ∷ cs) (b ∷ bs) h = let e = zip_same cs bs h.1 in cc

-- A relation may be replaced by a weaker one.
pub zip_weaker : {X Y : Type 0} (R S : X → Y → Type 0) → ((x : X) (y : Y) → R x y → S x y) → (xs : List X) (ys : List Y) → AllZip R xs ys → AllZip S xs ys
zip_weaker R S w [] [] h = tt
zip_weaker R S w [] (b ∷ bs) h = absurd h
zip_weaker R S w (a ∷ cs) [] h = absurd h
zip_weaker R S w (a ∷ cs) (b ∷ bs) h = (w a b h.0, zip_weaker R S w cs bs h.1)

-- If each related pair tells something of its second member, it holds of all members of the second list.
pub zip_each : {X Y : Type 0} (R : X → Y → Type 0) (P : Y → Type 0) → ((x : X) (y : Y) → R x y → P y) → (xs : List X) (ys : List Y) → AllZip R xs ys → AllByRecursion P ys
zip_each R P w [] [] h = tt
zip_each R P w [] (b ∷ bs) h = absurd h
zip_each R P w (a ∷ cs) [] h = absurd h
zip_each R P w (a ∷ cs) (b ∷ bs) h = (w a b h.0, zip_each R P w cs bs h.1)

-- An index within a list has an item.
pub item_at : {X : Type 0} (xs : List X) (i : ℕ) → i < length xs → (x : X) × (slice_get xs i ≡ Some x)
item_at [] i h = absurd (omega arith)
item_at (x ∷ xs) zero h = (x, refl)
item_at (x ∷ xs) (suc i) h = item_at xs i (omega arith)

-- the item written in a place, and the items in the others
module _ {X B : Type 0} (f : X → B) (d : B) where
  pub was_at : (xs : List X) (k : ℕ) (x : X) → slice_get xs k ≡ Some x → get_or (map f xs) k d ≡ f x
  was_at [] k x e = cc
  was_at (y ∷ ys) zero x e = let p : y ≡ x = cc in ap f p
  was_at (y ∷ ys) (suc k) x e = was_at ys k x e

  pub new_at : (xs : List X) (k : ℕ) (x y : X) → slice_get xs k ≡ Some x → get_or (map f (set xs k y)) k d ≡ f y
  new_at [] k x y e = cc
  new_at (z ∷ zs) zero x y e = refl
  new_at (z ∷ zs) (suc k) x y e = new_at zs k x y e

  pub other_at : (xs : List X) (k i : ℕ) (y : X) → (k ≡ i → ⊥) → get_or (map f (set xs k y)) i d ≡ get_or (map f xs) i d
  other_at [] k i y h = refl
  other_at (z ∷ zs) zero zero y h = absurd (h refl)
  other_at (z ∷ zs) zero (suc i) y h = refl
  other_at (z ∷ zs) (suc k) zero y h = refl
  other_at (z ∷ zs) (suc k) (suc i) y h = other_at zs k i y (λ e. h (ap suc e))

-- A place has at most one item.
pub same_item : {X : Type 0} (o : Option X) (x y : X) → o ≡ Some x → o ≡ Some y → x ≡ y
same_item o x y e f = cc

-- Past the end of a row is the default.
pub past_end : {X B : Type 0} (f : X → B) (d : B) (xs : List X) (i : ℕ) → length xs ≤ i → get_or (map f xs) i d ≡ d
past_end f d [] i h = refl
past_end f d (x ∷ xs) zero h = absurd (omega arith)
past_end f d (x ∷ xs) (suc i) h = past_end f d xs i (omega arith)

-- Taking at least as many items as a list has takes the whole list.
pub take_whole : {X : Type 0} (n : ℕ) (xs : List X) → length xs ≤ n → take n xs ≡ xs
take_whole zero [] h = refl
take_whole zero (x ∷ xs) h = absurd (omega arith)
take_whole (suc n) [] h = refl
take_whole {X} (suc n) (x ∷ xs) h = ap (λ (ys : List X). x ∷ ys) (take_whole n xs (omega arith))

-- If all items pass and the new one passes, all pass with the new one appended.
pub all_push : {X : Type 0} (P : X → Type 0) (xs : List X) (x : X) → AllByRecursion P xs → P x → AllByRecursion P (xs ++ x ∷ [])
all_push P [] x h p = (p, tt)
all_push P (y ∷ ys) x h p = (h.0, all_push P ys x h.1 p)
