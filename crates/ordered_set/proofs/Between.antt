-- Entries between two entries of a group.
use Rattle.std.proofs.Common.{◌≡◌, ℕ, zero, suc, ◌-◌, ◌<◌, ◌≤◌, ◌≢◌, ◌^◌, Bool, true, false, cond, ◌||◌, List, [], ◌∷◌, length, refl, sym, ◌∙◌, ap, subst, arith, ◌⊎◌, inl, inr, length-append}
use Rattle.std.specs.Prelude.{slice_index, slice_set, if◌then◌else◌}
use Rattle.std.specs.declared.cmp.Ordering.{Ordering}
use Rattle.std.specs.declared.cmp.Ordering.TheVariants.{Less, Equal, Greater}
use Rattle.std.specs.Ordering.{nat_cmp, is_gt, ordering_then}
use Rattle.std.specs.Cmp.{nat_cmp_is, upto}
use Rattle.std.specs.Cmp.Lexicographic.{slice_cmp, nat_list_cmp_total}
use Rattle.std.specs.BTreeSet.{BTreeSet, contains, Updates}
use Rattle.std.specs.Str.{bytes_eq}
use Rattle.std.proofs.lemmas.Map.Text.{is_eq-slice_cmp}
use Rattle.ordered_set.specs.Entries.{has_entry, entry_at, IsNextIn, IsLastIn, IsBetween, IsFirstFrom, IsFirstIn, IsNoneIn}

-- of two numbers, one is the lesser or both are equal

three : (x y : ℕ) → (x < y) ⊎ ((x ≡ y) ⊎ (y < x))
three zero zero = inr (inl refl)
three zero (suc y) = inl (omega arith)
three (suc x) zero = inr (inr (omega arith))
three (suc x) (suc y) = elim (three x y) [
  | inl h ↦ inl (omega arith)
  | inr (inl h) ↦ inr (inl (omega arith))
  | inr (inr h) ↦ inr (inr (omega arith))
]

less : (x y : ℕ) → x < y → nat_cmp x y ≡ Less
less x y h = sym (nat_cmp_is x y Less h)

pub equal : (x : ℕ) → nat_cmp x x ≡ Equal
equal x = sym (nat_cmp_is x x Equal refl)

greater : (x y : ℕ) → y < x → nat_cmp x y ≡ Greater
greater x y h = sym (nat_cmp_is x y Greater h)

-- if the first numbers differ, they decide the order
pub unequal : (x y : ℕ) (rest : Ordering) → x ≢ y → ordering_then (nat_cmp x y) rest ≡ nat_cmp x y
unequal x y rest differ = elim (three x y) [
  | inl p ↦ rw (less x y p) refl
  | inr (inl p) ↦ absurd (differ p)
  | inr (inr p) ↦ rw (greater x y p) refl
]

le_of : (x y : ℕ) → is_gt (nat_cmp x y) ≡ false → x ≤ y
le_of x y h = elim (three x y) [
  | inl p ↦ omega arith
  | inr (inl p) ↦ omega arith
  | inr (inr p) ↦ let t : true ≡ false = sym (ap is_gt (greater x y p)) ∙ h in absurd (let u : ⊥ = cc in u)
]

not_gt : (x y : ℕ) → x ≤ y → is_gt (nat_cmp x y) ≡ false
not_gt x y h = elim (three x y) [
  | inl p ↦ ap is_gt (less x y p)
  | inr (inl p) ↦ ap (λ (z : ℕ). is_gt (nat_cmp x z)) (sym p) ∙ ap is_gt (equal x)
  | inr (inr p) ↦ absurd (omega arith)
]

then_equal : (o : Ordering) → ordering_then o Equal ≡ o
then_equal Less = refl
then_equal Equal = refl
then_equal Greater = refl

-- entries of one group are ordered by their places
cmp_places : (group : List ℕ) (a b : ℕ) → slice_cmp nat_cmp (entry_at group a) (entry_at group b) ≡ nat_cmp a b
cmp_places [] a b = then_equal (nat_cmp a b)
cmp_places (g ∷ group) a b = ap (λ (o : Ordering). ordering_then o (slice_cmp nat_cmp (entry_at group a) (entry_at group b))) (equal g) ∙ cmp_places group a b

between : (group : List ℕ) (a b c : ℕ) → a ≤ c → c ≤ b → IsBetween (entry_at group a) (entry_at group b) (entry_at group c)
between group a b c low high = (ap is_gt (cmp_places group a c) ∙ not_gt a c low, ap is_gt (cmp_places group c b) ∙ not_gt c b high)

-- a list between two lists of the same head has that head too
squeeze : (x y : ℕ) (r t : Ordering) → is_gt (ordering_then (nat_cmp x y) r) ≡ false → is_gt (ordering_then (nat_cmp y x) t) ≡ false → (x ≡ y) × (is_gt r ≡ false) × (is_gt t ≡ false)
squeeze x y r t h k = elim (three x y) [
  | inl p ↦ let e : true ≡ false = sym (ap (λ (o : Ordering). is_gt (ordering_then o t)) (greater y x p)) ∙ k in absurd (let u : ⊥ = cc in u)
  | inr (inl p) ↦
      let a : nat_cmp x y ≡ Equal = ap (λ (z : ℕ). nat_cmp x z) (sym p) ∙ equal x in
      let b : nat_cmp y x ≡ Equal = ap (λ (z : ℕ). nat_cmp z x) (sym p) ∙ equal x in
      (p, sym (ap (λ (o : Ordering). is_gt (ordering_then o r)) a) ∙ h, sym (ap (λ (o : Ordering). is_gt (ordering_then o t)) b) ∙ k)
  | inr (inr p) ↦ let e : true ≡ false = sym (ap (λ (o : Ordering). is_gt (ordering_then o r)) (greater x y p)) ∙ h in absurd (let u : ⊥ = cc in u)
]

-- k is an entry of the group, at a place from a to b
pub record IsInGroup (group : List ℕ) (a b : ℕ) (k : List ℕ) : Type 0 where
  pub place : ℕ
  pub is : k ≡ entry_at group place
  pub low : a ≤ place
  pub high : place ≤ b

in_group : (group : List ℕ) (a b : ℕ) (k : List ℕ) → length k ≡ suc (length group) → IsBetween (entry_at group a) (entry_at group b) k → IsInGroup group a b k
in_group [] a b [] e h = absurd (omega arith)
in_group [] a b (x ∷ []) e h =
    let low : is_gt (nat_cmp a x) ≡ false = sym (ap is_gt (then_equal (nat_cmp a x))) ∙ h.0 in
    let high : is_gt (nat_cmp x b) ≡ false = sym (ap is_gt (then_equal (nat_cmp x b))) ∙ h.1 in
    record { place = x; is = refl; low = le_of a x low; high = le_of x b high }
in_group [] a b (x ∷ y ∷ k) e h = absurd (omega arith)
in_group (g ∷ group) a b [] e h = absurd (omega arith)
in_group (g ∷ group) a b (x ∷ k) e h =
    let s = squeeze g x _ _ h.0 h.1 in
    let rest = in_group group a b k (omega arith) (s.1, s.2) in
    record { place = rest.place; is = cons (sym s.0) rest.is; low = rest.low; high = rest.high }
  where
    cons : {x y : ℕ} {k l : List ℕ} → x ≡ y → k ≡ l → (x ∷ k) ≡ (y ∷ l)
    cons p q = cc

last_of_group : (group : List ℕ) (place : ℕ) → slice_index (entry_at group place) (length group) ≡ place
last_of_group [] place = refl
last_of_group (g ∷ group) place = last_of_group group place

set_last : (group : List ℕ) (a b : ℕ) → slice_set (entry_at group a) (length group) b ≡ entry_at group b
set_last [] a b = refl
set_last (g ∷ group) a b = ap (λ (k : List ℕ). g ∷ k) (set_last group a b)

-- the group of an entry of five numbers has four
pub four : (entry group : List ℕ) (a : ℕ) → length entry ≡ 5 → entry ≡ entry_at group a → length group ≡ 4
four entry group a size e =
    let s = ap (λ (k : List ℕ). length k) e ∙ length-append group (a ∷ []) in
    omega arith

pub to_is : (entry group : List ℕ) (a b : ℕ) → length entry ≡ 5 → entry ≡ entry_at group a → slice_set entry 4 b ≡ entry_at group b
to_is entry group a b size e =
    ap (λ (k : List ℕ). slice_set k 4 b) e
    ∙ ap (λ (n : ℕ). slice_set (entry_at group a) n b) (sym (four entry group a size e))
    ∙ set_last group a b

-- k is an entry: a group, and then a place
pub record IsAnEntry (k : List ℕ) : Type 0 where
  pub group : List ℕ
  pub place : ℕ
  pub is : k ≡ entry_at group place

pub as_entry : (x : ℕ) (k : List ℕ) → IsAnEntry (x ∷ k)
as_entry x [] = record { group = []; place = x; is = refl }
as_entry x (y ∷ k) = let r = as_entry y k in record { group = x ∷ r.group; place = r.place; is = ap (λ (l : List ℕ). x ∷ l) r.is }

pub forward : (entry to : List ℕ) → length entry ≡ 5 → to ≡ slice_set entry 4 (2 ^ 64 - 1) → slice_index entry 4 < 2 ^ 64 → is_gt (slice_cmp nat_cmp entry to) ≡ false
forward [] to size e small = absurd (omega arith)
forward (x ∷ k) to size e small =
    let r = as_entry x k in
    let four_is = four (x ∷ k) r.group r.place size r.is in
    let bound : r.place < 2 ^ 64 =
    let q : slice_index (x ∷ k) 4 ≡ r.place = ap (λ (l : List ℕ). slice_index l 4) r.is ∙ ap (slice_index (entry_at r.group r.place)) (sym four_is) ∙ last_of_group r.group r.place in
    omega arith in
    let high : r.place ≤ 2 ^ 64 - 1 = omega arith in
    ap (λ (l : List ℕ). is_gt (slice_cmp nat_cmp l to)) r.is
    ∙ ap (λ (l : List ℕ). is_gt (slice_cmp nat_cmp (entry_at r.group r.place) l)) (e ∙ to_is (x ∷ k) r.group r.place (2 ^ 64 - 1) size r.is)
    ∙ ap is_gt (cmp_places r.group r.place (2 ^ 64 - 1)) ∙ not_gt r.place (2 ^ 64 - 1) high

-- the next place of a group, from the first entry between two entries of it

not_true : (b : Bool) → (b ≡ true → ⊥) → b ≡ false
not_true true h = absurd (h refl)
not_true false h = refl

pub is_next : (es : BTreeSet (List ℕ)) (entry to group : List ℕ) (a place : ℕ) → length entry ≡ 5 → to ≡ slice_set entry 4 (2 ^ 64 - 1) → entry ≡ entry_at group a →
    IsFirstIn es entry to place → IsNextIn es.keys group a place
is_next es entry to group a place size et e first =
    let four_is = four entry group a size e in
    let to_at = et ∙ to_is entry group a (2 ^ 64 - 1) size e in
    let inside = subst (λ (o : List ℕ). IsBetween o to first.entry) e first.inside in
    let inside2 = subst (λ (o : List ℕ). IsBetween (entry_at group a) o first.entry) to_at inside in
    let full : length first.entry ≡ suc (length group) = let s = first.size in omega arith in
    let at = in_group group a (2 ^ 64 - 1) first.entry full inside2 in
    let same : at.place ≡ place =
    sym (ap (λ (l : List ℕ). slice_index l 4) at.is ∙ ap (slice_index (entry_at group at.place)) (sym four_is) ∙ last_of_group group at.place) ∙ first.last in
    let key_is : first.entry ≡ entry_at group place = at.is ∙ ap (entry_at group) same in
    record {
      behind = let low = at.low in omega arith;
      there = ap (contains (slice_cmp nat_cmp) es) (sym key_is) ∙ first.there;
      first = λ p lt gt. not_true (has_entry es.keys (entry_at group p)) (λ t.
          let high = at.high in
          let inside3 = between group a (2 ^ 64 - 1) p lt (omega arith) in
          let inside4 = subst (λ (o : List ℕ). IsBetween o (entry_at group (2 ^ 64 - 1)) (entry_at group p)) (sym e) inside3 in
          let inside5 = subst (λ (o : List ℕ). IsBetween entry o (entry_at group p)) (sym to_at) inside4 in
          let le = first.first (entry_at group p) inside5 t in
          let le2 = sym (ap is_gt (ap (λ (k : List ℕ). slice_cmp nat_cmp k (entry_at group p)) key_is ∙ cmp_places group place p)) ∙ le in
          let le3 = le_of place p le2 in
          omega arith);
    }

pub is_last : (es : BTreeSet (List ℕ)) (entry to group : List ℕ) (a : ℕ) → length entry ≡ 5 → to ≡ slice_set entry 4 (2 ^ 64 - 1) → entry ≡ entry_at group a →
    IsNoneIn es entry to → IsLastIn es.keys group a
is_last es entry to group a size et e none p lt high =
    let to_at = et ∙ to_is entry group a (2 ^ 64 - 1) size e in
    let inside3 = between group a (2 ^ 64 - 1) p lt (omega arith) in
    let inside4 = subst (λ (o : List ℕ). IsBetween o (entry_at group (2 ^ 64 - 1)) (entry_at group p)) (sym e) inside3 in
    let inside5 = subst (λ (o : List ℕ). IsBetween entry o (entry_at group p)) (sym to_at) inside4 in
    none (entry_at group p) inside5

-- if the first entry from `from` on is after `to`, no entry lies between `from` and `to`
pub none_up_to : (es : BTreeSet (List ℕ)) (from to entry : List ℕ) → IsFirstFrom es from entry → is_gt (slice_cmp nat_cmp entry to) ≡ true → IsNoneIn es from to
none_up_to es from to entry first past q inside = not_true (contains (slice_cmp nat_cmp) es q) (λ there.
    let le : is_gt (slice_cmp nat_cmp entry to) ≡ false = upto nat_list_cmp_total entry q to (first.first q inside.0 there) inside.1 in
    let t : true ≡ false = sym past ∙ le in
    let u : ⊥ = cc in u)

-- which entries are there after an insertion or a removal

pub has_more : (es after : BTreeSet (List ℕ)) (entry e : List ℕ) → Updates (slice_cmp nat_cmp) es after entry true → has_entry after.keys e ≡ (bytes_eq entry e || has_entry es.keys e)
has_more es after entry e updates =
    updates.0 e ∙ ap (λ (b : Bool). cond b true (has_entry es.keys e)) (is_eq-slice_cmp entry e) ∙ either (bytes_eq entry e) (has_entry es.keys e)
  where
    either : (a b : Bool) → cond a true b ≡ (a || b)
    either true b = refl
    either false b = refl

pub has_less : (es after : BTreeSet (List ℕ)) (entry e : List ℕ) → Updates (slice_cmp nat_cmp) es after entry false → has_entry after.keys e ≡ (if bytes_eq entry e then false else has_entry es.keys e)
has_less es after entry e updates = updates.0 e ∙ ap (λ (b : Bool). cond b false (has_entry es.keys e)) (is_eq-slice_cmp entry e)
