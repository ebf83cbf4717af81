-- Lists whose last items move to the end of another list.
use Rattle.std.proofs.Common.{◌≡◌, ℕ, zero, suc, ◌+◌, ◌<◌, ◌≤◌, List, [], ◌∷◌, ◌++◌, map, reverse, length, take, drop, refl, sym, ap, subst, ◌∙◌, arith, append_assoc, length-append, Some, Vec, Global, vec_capacity}
use Rattle.std.specs.Vec.{vec_ptr}
use denote.RawPtr.{Ptr}
use base.Stored.{Coded-set}
use base.Stored.{coded_ℕ}
use native.Mathlib.Bridge.{le_prop}
use Rattle.std.specs.Prelude.{slice_get}
use Rattle.std.specs.List.{AllByRecursion, flat_map}
use Rattle.std.proofs.lemmas.List.{reverse-append, map-append}
use Rattle.net_model.specs.Site.{count_up}

-- The items left, followed by the reverse of the items moved, are all items.
pub put_back : {A B : Type 0} (f : A → B) (done done' : List A) (a : A) (b : B) (left left' all : List B) → done' ≡ done ++ a ∷ [] → f a ≡ b → left ≡ left' ++ b ∷ [] →
    left ++ reverse (map f done) ≡ all → left' ++ reverse (map f done') ≡ all
put_back {A} {B} f done done' a b left left' all more is less so =
    ap (λ (xs : List A). left' ++ reverse (map f xs)) more ∙ ap (λ (xs : List B). left' ++ reverse xs) (map-append f done (a ∷ []))
    ∙ ap (λ (xs : List B). left' ++ xs) (reverse-append (map f done) (f a ∷ [])) ∙ ap (λ (x : B). left' ++ x ∷ reverse (map f done)) is
    ∙ sym (append_assoc left' (b ∷ []) (reverse (map f done))) ∙ ap (λ (xs : List B). xs ++ reverse (map f done)) (sym less) ∙ so

pub map_reverse : {A B : Type 0} (f : A → B) (xs : List A) → map f (reverse xs) ≡ reverse (map f xs)
map_reverse f [] = refl
map_reverse {A} {B} f (x ∷ xs) =
    ap (map f) (reverse-append (x ∷ []) xs) ∙ map-append f (reverse xs) (x ∷ []) ∙ ap (λ (ys : List B). ys ++ f x ∷ []) (map_reverse f xs) ∙ sym (reverse-append (f x ∷ []) (map f xs))

-- When no item is left, the items moved are all items.
pub all_back : {A B : Type 0} (f : A → B) (done done' : List A) (left all : List B) → left ≡ [] → done' ≡ reverse done → left ++ reverse (map f done) ≡ all → map f done' ≡ all
all_back {A} {B} f done done' left all none turned so =
    ap (map f) turned ∙ map_reverse f done ∙ sym (ap (λ (xs : List B). xs ++ reverse (map f done)) none) ∙ so

pub all_first : {A : Type 0} (P : A → Type 0) (xs rest : List A) (x : A) → xs ≡ rest ++ x ∷ [] → AllByRecursion P xs → AllByRecursion P rest
all_first {A} P xs rest x is h = front rest (subst (AllByRecursion P) is h)
  where
    front : (ys : List A) → AllByRecursion P (ys ++ x ∷ []) → AllByRecursion P ys
    front [] k = tt
    front (y ∷ ys) k = (k.0, front ys k.1)

pub the_last : {A : Type 0} (P : A → Type 0) (xs rest : List A) (x : A) → xs ≡ rest ++ x ∷ [] → AllByRecursion P xs → P x
the_last {A} P xs rest x is h = last rest (subst (AllByRecursion P) is h)
  where
    last : (ys : List A) → AllByRecursion P (ys ++ x ∷ []) → P x
    last [] k = k.0
    last (y ∷ ys) k = last ys k.1

pub all_and_one : {A : Type 0} (P : A → Type 0) (xs more : List A) (x : A) → more ≡ xs ++ x ∷ [] → AllByRecursion P xs → P x → AllByRecursion P more
all_and_one {A} P xs more x is h one = subst (AllByRecursion P) (sym is) (both xs h)
  where
    both : (ys : List A) → AllByRecursion P ys → AllByRecursion P (ys ++ x ∷ [])
    both [] k = (one, tt)
    both (y ∷ ys) k = (k.0, both ys k.1)

pub all_reversed : {A : Type 0} (P : A → Type 0) (xs ys : List A) → ys ≡ reverse xs → AllByRecursion P xs → AllByRecursion P ys
all_reversed {A} P xs ys is h = subst (AllByRecursion P) (sym is) (turned xs h)
  where
    turned : (zs : List A) → AllByRecursion P zs → AllByRecursion P (reverse zs)
    turned [] k = tt
    turned (z ∷ zs) k = all_and_one P (reverse zs) (reverse (z ∷ zs)) z (reverse-append (z ∷ []) zs) (turned zs k.1) k.0

pub last_there : {A : Type 0} (xs rest : List A) (x : A) (all : List A) (after : List A) (n : ℕ) → xs ≡ rest ++ x ∷ [] → xs ++ after ≡ all → length rest ≡ n → slice_get all n ≡ Some x
last_there {A} xs rest x all after n is so long = ap (λ (ys : List A). slice_get ys n) (sym so ∙ ap (λ (ys : List A). ys ++ after) is) ∙ there rest n long
  where
    there : (ys : List A) (k : ℕ) → length ys ≡ k → slice_get ((ys ++ x ∷ []) ++ after) k ≡ Some x
    there [] zero h = refl
    there [] (suc k) h = absurd (omega (arith, h))
    there (y ∷ ys) zero h = absurd (omega (arith, h))
    there (y ∷ ys) (suc k) h = there ys k (omega (arith, h))

pub no_items : {A : Type 0} (xs : List A) → length xs ≡ 0 → xs ≡ []
no_items [] h = refl
no_items (x ∷ xs) h = cc

-- Counting up to m + 1 is counting up to m, and then m.
pub count_down : (n m : ℕ) → n ≡ m + 1 → count_up n ≡ count_up m ++ m ∷ []
count_down n m is = ap count_up (is ∙ next m)
  where
    next : (m : ℕ) → m + 1 ≡ suc m
    next m = omega arith

-- If a list's items are made from the numbers below n, one more item is made from n.
pub map_up : {A B : Type 0} (f : ℕ → B) (g : A → B) (xs after : List A) (x : A) (n m : ℕ) → after ≡ xs ++ x ∷ [] → map g xs ≡ map f (count_up n) → g x ≡ f m → m ≡ n → map g after ≡ map f (count_up (n + 1))
map_up {A} {B} f g xs after x n m more so one is =
    ap (map g) more ∙ map-append g xs (x ∷ []) ∙ ap (λ (ys : List B). ys ++ g x ∷ []) so ∙ ap (λ (y : B). map f (count_up n) ++ y ∷ []) (one ∙ ap f is)
    ∙ sym (map-append f (count_up n) (n ∷ [])) ∙ sym (ap (map f) (count_down (n + 1) n refl))

-- The first items of a list move to the end of another.

pub front_moved : {A B : Type 0} (f : A → B) (done done' : List B) (x : A) (y : B) (left left' : List A) (all : List B) → left ≡ x ∷ left' → done' ≡ done ++ y ∷ [] → y ≡ f x → done ++ map f left ≡ all → done' ++ map f left' ≡ all
front_moved {A} {B} f done done' x y left left' all less more is so =
    ap (λ (ds : List B). ds ++ map f left') more ∙ append_assoc done (y ∷ []) (map f left') ∙ ap (λ (z : B). done ++ z ∷ map f left') is ∙ sym (ap (λ (xs : List A). done ++ map f xs) less) ∙ so

pub front_flat : {A B : Type 0} (f : A → List B) (done done' : List B) (x : A) (ys : List B) (left left' : List A) (all : List B) → left ≡ x ∷ left' → done' ≡ done ++ ys → ys ≡ f x → done ++ flat_map f left ≡ all →
    done' ++ flat_map f left' ≡ all
front_flat {A} {B} f done done' x ys left left' all less more is so =
    ap (λ (ds : List B). ds ++ flat_map f left') more ∙ append_assoc done ys (flat_map f left') ∙ ap (λ (zs : List B). done ++ (zs ++ flat_map f left')) is ∙ sym (ap (λ (xs : List A). done ++ flat_map f xs) less) ∙ so

pub flat_long : {A B : Type 0} (f : A → List B) (x : A) (left left' : List A) → left ≡ x ∷ left' → length (flat_map f left) ≡ length (f x) + length (flat_map f left')
flat_long {A} f x left left' less = ap (λ (xs : List A). length (flat_map f xs)) less ∙ length-append (f x) (flat_map f left')

-- Taking the first list's length from a concatenation gives the first list.

front : {A : Type 0} (xs ys : List A) → take (length xs) (xs ++ ys) ≡ xs
front [] [] = refl
front [] (y ∷ ys) = refl
front {A} (x ∷ xs) ys = ap (λ (zs : List A). x ∷ zs) (front xs ys)

pub written_back : {A : Type 0} (n : ℕ) (xs ys : List A) → length xs ≡ n → take n (xs ++ drop (length xs) ys) ≡ xs
written_back {A} n xs ys long = ap (λ (m : ℕ). take m (xs ++ drop (length xs) ys)) (sym long) ∙ front xs (drop (length xs) ys)

-- Two lists in the same memory with the same items are the same list.

module _ {A : Type 0} (a : Global) where
  make : (p : Ptr) (n c : ℕ) (xs : List A) → (n ≡ length xs) × (n ≤ c) → c < 9223372036854775808 → Vec A Global
  make p n c xs ok small = record { ptr = p; len = n; cap = c; alloc = a; items = xs; ok = ok; small = small }

  Alike : (p q : Ptr) (n m c d : ℕ) (xs ys : List A) → Type 0
  Alike p q n m c d xs ys = (ok : (n ≡ length xs) × (n ≤ c)) (ok' : (m ≡ length ys) × (m ≤ d)) (small : c < 9223372036854775808) (small' : d < 9223372036854775808) → make p n c xs ok small ≡ make q m d ys ok' small'

  alike_self : (p : Ptr) (n c : ℕ) (xs : List A) → Alike p p n n c c xs xs
  unfolding Alike make
  alike_self p n c xs ok ok' small small' i =
      record { ptr = p; len = n; cap = c; alloc = a; items = xs; ok = (Coded-set coded_ℕ n (length xs) ok.0 ok'.0 i, le_prop ok.1 ok'.1 i); small = le_prop small small' i }

  alike : (p q : Ptr) (n m c d : ℕ) (xs ys : List A) → p ≡ q → n ≡ m → c ≡ d → xs ≡ ys → Alike p q n m c d xs ys
  alike p q n m c d xs ys ep en ec ex =
      subst (λ (r : Ptr). Alike p r n m c d xs ys) ep
      (subst (λ (k : ℕ). Alike p p n k c d xs ys) en (subst (λ (k : ℕ). Alike p p n n c k xs ys) ec (subst (λ (zs : List A). Alike p p n n c c xs zs) ex (alike_self p n c xs))))

  pub made_same : (p q : Ptr) (n m c d : ℕ) (xs ys : List A) (ok : (n ≡ length xs) × (n ≤ c)) (ok' : (m ≡ length ys) × (m ≤ d)) (small : c < 9223372036854775808) (small' : d < 9223372036854775808) → p ≡ q → n ≡ m → c ≡ d → xs ≡ ys →
      ◌≡◌ {A = Vec A Global} (record { ptr = p; len = n; cap = c; alloc = a; items = xs; ok = ok; small = small }) (record { ptr = q; len = m; cap = d; alloc = a; items = ys; ok = ok'; small = small' })
  unfolding Alike make
  made_same p q n m c d xs ys ok ok' small small' ep en ec ex = alike p q n m c d xs ys ep en ec ex ok ok' small small'

pub same_vec : {A : Type 0} (v w : Vec A Global) → vec_ptr v ≡ vec_ptr w → vec_capacity v ≡ vec_capacity w → v.items ≡ w.items → v ≡ w
same_vec {A} v w ptr cap items =
    made_same v.alloc v.ptr w.ptr v.len w.len v.cap w.cap v.items w.items v.ok w.ok v.small w.small ptr (v.ok.0 ∙ ap (λ (xs : List A). length xs) items ∙ sym w.ok.0) cap items
