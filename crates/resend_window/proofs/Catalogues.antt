-- The index from groups to places.
use Rattle.std.proofs.Common.{◌≡◌, ℕ, zero, suc, ◌+◌, ◌<◌, ◌≤◌, ◌^◌, Bool, true, false, ◌||◌, ◌&&◌, List, [], ◌∷◌, ◌++◌, length, refl, sym, ◌∙◌, ap, subst, arith, Option, Some, None}
use Rattle.std.specs.Prelude.{map, slice_get, slice_set, ◌==◌, if◌then◌else◌, IfSome, IfNone}
use Rattle.std.specs.List.{list_any}
use Rattle.std.specs.Str.{bytes_eq}
use Rattle.std.proofs.lemmas.Bool.Decides.{nat_tests}
use Rattle.ordered_set.specs.Entries.{has_entry, entry_at, IsNextIn, IsLastIn}
use Rattle.relay_core.specs.Firsts.{IsFirstFrom, IsNoneFrom}
use Rattle.relay_core.proofs.Firsts.{not_true}
use Rattle.relay_core.proofs.Names.{eq_same, eq_from, and_left, and_right}
use Rattle.resend_window.specs.Catalogued.{groups_at, IsCatalogue}

eq_sym : (a b : ℕ) → (a == b) ≡ (b == a)
eq_sym a b = grind (arith, nat_tests)

and_true : (b : Bool) → (b && true) ≡ b
and_true true = refl
and_true false = refl

and_false : (b : Bool) → (b && false) ≡ false
and_false true = refl
and_false false = refl

and_assoc : (a b c : Bool) → (a && (b && c)) ≡ ((a && b) && c)
and_assoc true b c = refl
and_assoc false b c = refl

bytes_sym : (a b : List ℕ) → bytes_eq a b ≡ bytes_eq b a
bytes_sym [] [] = refl
bytes_sym [] (y ∷ b) = refl
bytes_sym (x ∷ a) [] = refl
bytes_sym (x ∷ a) (y ∷ b) = ap (λ (c : Bool). c && bytes_eq a b) (eq_sym x y) ∙ ap (λ (c : Bool). (y == x) && c) (bytes_sym a b)

none_ends : (b : List ℕ) (q : ℕ) → bytes_eq [] (b ++ q ∷ []) ≡ false
none_ends [] q = refl
none_ends (y ∷ b) q = refl

ends_none : (a : List ℕ) (p : ℕ) → bytes_eq (a ++ p ∷ []) [] ≡ false
ends_none [] p = refl
ends_none (x ∷ a) p = refl

-- two entries are equal exactly if their groups and their places are
pub entry_eq : (a b : List ℕ) (p q : ℕ) → bytes_eq (entry_at a p) (entry_at b q) ≡ (bytes_eq a b && (p == q))
entry_eq [] [] p q = and_true (p == q)
entry_eq [] (y ∷ b) p q = ap (λ (c : Bool). (p == y) && c) (none_ends b q) ∙ and_false (p == y)
entry_eq (x ∷ a) [] p q = ap (λ (c : Bool). (x == q) && c) (ends_none a p) ∙ and_false (x == q)
entry_eq (x ∷ a) (y ∷ b) p q = ap (λ (c : Bool). (x == y) && c) (entry_eq a b p q) ∙ and_assoc (x == y) (bytes_eq a b) (p == q)

-- the groups at a place

groups_end : (keys : List (List (List ℕ))) → groups_at keys (length keys) ≡ []
groups_end [] = refl
groups_end (k ∷ keys) = groups_end keys

zero_suc : (p : ℕ) → (0 == suc p) ≡ false
zero_suc p = grind (arith, nat_tests)

suc_zero : (p : ℕ) → (suc p == 0) ≡ false
suc_zero p = grind (arith, nat_tests)

suc_suc : (a b : ℕ) → (suc a == suc b) ≡ (a == b)
suc_suc a b = grind (arith, nat_tests)

pub groups_push : (keys : List (List (List ℕ))) (k : List (List ℕ)) (p : ℕ) → groups_at (keys ++ k ∷ []) p ≡ (if length keys == p then k else groups_at keys p)
groups_push [] k zero = refl
groups_push [] k (suc p) = sym (ap (λ (b : Bool). if b then k else []) (zero_suc p))
groups_push (j ∷ keys) k zero = sym (ap (λ (b : Bool). if b then k else j) (suc_zero (length keys)))
groups_push (j ∷ keys) k (suc p) = groups_push keys k p ∙ sym (ap (λ (b : Bool). if b then k else groups_at keys p) (suc_suc (length keys) p))

pub groups_set : (keys : List (List (List ℕ))) (n p : ℕ) → groups_at (slice_set keys n []) p ≡ (if n == p then [] else groups_at keys p)
groups_set [] n p = elim (n == p) as (λ b. (let none : List (List ℕ) = [] in none ≡ (if b then [] else none))) [ true ↦ refl | false ↦ refl ]
groups_set (j ∷ keys) zero zero = refl
groups_set (j ∷ keys) zero (suc p) = sym (ap (λ (b : Bool). if b then [] else groups_at keys p) (zero_suc p))
groups_set (j ∷ keys) (suc n) zero = sym (ap (λ (b : Bool). if b then [] else j) (suc_zero n))
groups_set (j ∷ keys) (suc n) (suc p) = groups_set keys n p ∙ sym (ap (λ (b : Bool). if b then [] else groups_at keys p) (suc_suc n p))

-- adding a place to two groups, and removing it

two_or : (a b c d : Bool) → a ≡ c → b ≡ d → (b || (a || false)) ≡ (c || (d || false))
two_or a b c d p q = ap (λ (x : Bool). x || (a || false)) q ∙ ap (λ (x : Bool). d || (x || false)) p ∙ by c d
  where
    by : (c d : Bool) → (d || (c || false)) ≡ (c || (d || false))
    by true true = refl
    by true false = refl
    by false true = refl
    by false false = refl

pub catalogue_more : (keys : List (List (List ℕ))) (first second : List ℕ) (place : ℕ) (old mid new : List (List ℕ)) → IsCatalogue keys old → length keys ≡ place →
    ((e : List ℕ) → has_entry mid e ≡ (bytes_eq (entry_at first place) e || has_entry old e)) → ((e : List ℕ) → has_entry new e ≡ (bytes_eq (entry_at second place) e || has_entry mid e)) →
    IsCatalogue (keys ++ (first ∷ second ∷ []) ∷ []) new
catalogue_more keys first second place old mid new is size one two = record {
  has = λ g p.
      two (entry_at g p) ∙ ap (λ (b : Bool). bytes_eq (entry_at second place) (entry_at g p) || b) (one (entry_at g p))
      ∙ ap (λ (b : Bool). b || (bytes_eq (entry_at first place) (entry_at g p) || has_entry old (entry_at g p))) (entry_eq second g place p)
      ∙ ap (λ (b : Bool). (bytes_eq second g && (place == p)) || (b || has_entry old (entry_at g p))) (entry_eq first g place p)
      ∙ ap (λ (b : Bool). (bytes_eq second g && (place == p)) || ((bytes_eq first g && (place == p)) || b)) (is.has g p)
      ∙ by g p (place == p) refl
      ∙ sym (ap (list_any (bytes_eq g)) (groups_push keys (first ∷ second ∷ []) p ∙ ap (λ (n : ℕ). if n == p then first ∷ second ∷ [] else groups_at keys p) size));
}
  where
    by : (g : List ℕ) (p : ℕ) (b : Bool) → (place == p) ≡ b → ((bytes_eq second g && (place == p)) || ((bytes_eq first g && (place == p)) || list_any (bytes_eq g) (groups_at keys p)))
        ≡ list_any (bytes_eq g) (if place == p then first ∷ second ∷ [] else groups_at keys p)
    by g p true e =
        let here : p ≡ length keys = sym (eq_from place p e) ∙ sym size in
        ap (λ (b : Bool). (bytes_eq second g && b) || ((bytes_eq first g && b) || list_any (bytes_eq g) (groups_at keys p))) e
        ∙ ap (λ (ks : List (List ℕ)). (bytes_eq second g && true) || ((bytes_eq first g && true) || list_any (bytes_eq g) ks)) (ap (groups_at keys) here ∙ groups_end keys)
        ∙ ap (λ (b : Bool). b || ((bytes_eq first g && true) || false)) (and_true (bytes_eq second g))
        ∙ ap (λ (b : Bool). bytes_eq second g || (b || false)) (and_true (bytes_eq first g))
        ∙ two_or (bytes_eq first g) (bytes_eq second g) (bytes_eq g first) (bytes_eq g second) (bytes_sym first g) (bytes_sym second g)
        ∙ sym (ap (λ (b : Bool). list_any (bytes_eq g) (if b then first ∷ second ∷ [] else groups_at keys p)) e)
    by g p false e =
        ap (λ (b : Bool). (bytes_eq second g && b) || ((bytes_eq first g && b) || list_any (bytes_eq g) (groups_at keys p))) e
        ∙ ap (λ (b : Bool). b || ((bytes_eq first g && false) || list_any (bytes_eq g) (groups_at keys p))) (and_false (bytes_eq second g))
        ∙ ap (λ (b : Bool). b || list_any (bytes_eq g) (groups_at keys p)) (and_false (bytes_eq first g))
        ∙ sym (ap (λ (b : Bool). list_any (bytes_eq g) (if b then first ∷ second ∷ [] else groups_at keys p)) e)

pub catalogue_less : (keys : List (List (List ℕ))) (first second : List ℕ) (place : ℕ) (old mid new : List (List ℕ)) → IsCatalogue keys old → groups_at keys place ≡ first ∷ second ∷ [] →
    ((e : List ℕ) → has_entry mid e ≡ (if bytes_eq (entry_at first place) e then false else has_entry old e)) → ((e : List ℕ) → has_entry new e ≡ (if bytes_eq (entry_at second place) e then false else has_entry mid e)) →
    IsCatalogue (slice_set keys place []) new
catalogue_less keys first second place old mid new is there one two = record {
  has = λ g p.
      two (entry_at g p) ∙ ap (λ (b : Bool). if bytes_eq (entry_at second place) (entry_at g p) then false else b) (one (entry_at g p))
      ∙ ap (λ (b : Bool). if b then false else (if bytes_eq (entry_at first place) (entry_at g p) then false else has_entry old (entry_at g p))) (entry_eq second g place p)
      ∙ ap (λ (b : Bool). if bytes_eq second g && (place == p) then false else (if b then false else has_entry old (entry_at g p))) (entry_eq first g place p)
      ∙ ap (λ (b : Bool). if bytes_eq second g && (place == p) then false else (if bytes_eq first g && (place == p) then false else b)) (is.has g p)
      ∙ by g p (place == p) refl
      ∙ sym (ap (list_any (bytes_eq g)) (groups_set keys place p));
}
  where
    all_gone : (a b : Bool) → (if b then false else (if a then false else (a || (b || false)))) ≡ false
    all_gone true true = refl
    all_gone true false = refl
    all_gone false true = refl
    all_gone false false = refl

    by : (g : List ℕ) (p : ℕ) (b : Bool) → (place == p) ≡ b → (if bytes_eq second g && (place == p) then false else (if bytes_eq first g && (place == p) then false else list_any (bytes_eq g) (groups_at keys p)))
        ≡ list_any (bytes_eq g) (if place == p then [] else groups_at keys p)
    by g p true e =
        ap (λ (b : Bool). if bytes_eq second g && b then false else (if bytes_eq first g && b then false else list_any (bytes_eq g) (groups_at keys p))) e
        ∙ ap (λ (ks : List (List ℕ)). if bytes_eq second g && true then false else (if bytes_eq first g && true then false else list_any (bytes_eq g) ks)) (ap (groups_at keys) (sym (eq_from place p e)) ∙ there)
        ∙ ap (λ (b : Bool). if b then false else (if bytes_eq first g && true then false else list_any (bytes_eq g) (first ∷ second ∷ []))) (and_true (bytes_eq second g) ∙ bytes_sym second g)
        ∙ ap (λ (b : Bool). if bytes_eq g second then false else (if b then false else list_any (bytes_eq g) (first ∷ second ∷ []))) (and_true (bytes_eq first g) ∙ bytes_sym first g)
        ∙ all_gone (bytes_eq g first) (bytes_eq g second)
        ∙ sym (ap (λ (b : Bool). list_any (bytes_eq g) (if b then [] else groups_at keys p)) e)
    by g p false e =
        ap (λ (b : Bool). if bytes_eq second g && b then false else (if bytes_eq first g && b then false else list_any (bytes_eq g) (groups_at keys p))) e
        ∙ ap (λ (b : Bool). if b then false else (if bytes_eq first g && false then false else list_any (bytes_eq g) (groups_at keys p))) (and_false (bytes_eq second g))
        ∙ ap (λ (b : Bool). if b then false else list_any (bytes_eq g) (groups_at keys p)) (and_false (bytes_eq first g))
        ∙ sym (ap (λ (b : Bool). list_any (bytes_eq g) (if b then [] else groups_at keys p)) e)

-- adding an empty slot
pub catalogue_gap : (keys : List (List (List ℕ))) (es : List (List ℕ)) → IsCatalogue keys es → IsCatalogue (keys ++ [] ∷ []) es
catalogue_gap keys es is = record { has = λ g p. is.has g p ∙ sym (ap (list_any (bytes_eq g)) (groups_push keys [] p) ∙ by g p (length keys == p) refl) }
  where
    by : (g : List ℕ) (p : ℕ) (b : Bool) → (length keys == p) ≡ b → list_any (bytes_eq g) (if length keys == p then [] else groups_at keys p) ≡ list_any (bytes_eq g) (groups_at keys p)
    by g p true e =
        ap (λ (b : Bool). list_any (bytes_eq g) (if b then [] else groups_at keys p)) e
        ∙ sym (ap (list_any (bytes_eq g)) (ap (groups_at keys) (sym (eq_from (length keys) p e)) ∙ groups_end keys))
    by g p false e = ap (λ (b : Bool). list_any (bytes_eq g) (if b then [] else groups_at keys p)) e

-- the places of a group are those with items that pass a test

pub record AreGroups {A : Type 0} (keys : Option A → List (List ℕ)) (test : Option A → Bool) (g : List ℕ) : Type 0 where
  pub asked : (o : Option A) → list_any (bytes_eq g) (keys o) ≡ test o
  pub nothing : test None ≡ false

some_at : {A : Type 0} (keys : Option A → List (List ℕ)) (xs : List (Option A)) (p : ℕ) (o : Option A) → slice_get xs p ≡ Some o → groups_at (map keys xs) p ≡ keys o
some_at keys [] p o h = cc
some_at keys (x ∷ xs) zero o h = let same : x ≡ o = cc in ap keys same
some_at keys (x ∷ xs) (suc p) o h = some_at keys xs p o h

none_at : {A : Type 0} (keys : Option A → List (List ℕ)) (xs : List (Option A)) (p : ℕ) → slice_get xs p ≡ None → groups_at (map keys xs) p ≡ []
none_at keys [] p h = refl
none_at keys (x ∷ xs) zero h = cc
none_at keys (x ∷ xs) (suc p) h = none_at keys xs p h

pub found : {A : Type 0} (keys : Option A → List (List ℕ)) (test : Option A → Bool) (g : List ℕ) (xs : List (Option A)) (es : List (List ℕ)) (from place : ℕ) → AreGroups keys test g → IsCatalogue (map keys xs) es →
    IsNextIn es g from place → IsFirstFrom test xs from place
found {A} keys test g xs es from place are is next = by (slice_get xs place) refl
  where
    here : list_any (bytes_eq g) (groups_at (map keys xs) place) ≡ true
    here = sym (is.has g place) ∙ next.there

    by : (r : Option (Option A)) → slice_get xs place ≡ r → IsFirstFrom test xs from place
    by None e = let u : false ≡ true = sym (ap (list_any (bytes_eq g)) (none_at keys xs place e)) ∙ here in absurd (let z : ⊥ = cc in z)
    by (Some o) e = record {
      behind = next.behind;
      item = o;
      there = e;
      passes = sym (ap (list_any (bytes_eq g)) (some_at keys xs place o e) ∙ are.asked o) ∙ here;
      before = λ p x le lt got. sym (ap (list_any (bytes_eq g)) (some_at keys xs p x got) ∙ are.asked x) ∙ sym (is.has g p) ∙ next.first p le lt;
    }

get_within : {A : Type 0} (xs : List A) (i : ℕ) (x : A) → slice_get xs i ≡ Some x → i < length xs
get_within [] i x h = cc
get_within (y ∷ ys) zero x h = omega arith
get_within (y ∷ ys) (suc i) x h = let lt = get_within ys i x h in omega arith

pub not_found : {A : Type 0} (keys : Option A → List (List ℕ)) (test : Option A → Bool) (g : List ℕ) (xs : List (Option A)) (es : List (List ℕ)) (from : ℕ) → AreGroups keys test g → IsCatalogue (map keys xs) es →
    length xs < 2 ^ 64 → IsLastIn es g from → IsNoneFrom test xs from
not_found keys test g xs es from are is size last = record {
  none = λ p x le got.
      let within = get_within xs p x got in
      sym (ap (list_any (bytes_eq g)) (some_at keys xs p x got) ∙ are.asked x) ∙ sym (is.has g p) ∙ last p le (omega arith);
}

-- removing an empty slot changes nothing
pub catalogue_same : (keys : List (List (List ℕ))) (place : ℕ) (es : List (List ℕ)) → IsCatalogue keys es → groups_at keys place ≡ [] → IsCatalogue (slice_set keys place []) es
catalogue_same keys place es is none = record { has = λ g p. is.has g p ∙ sym (ap (list_any (bytes_eq g)) (groups_set keys place p) ∙ by g p (place == p) refl) }
  where
    by : (g : List ℕ) (p : ℕ) (b : Bool) → (place == p) ≡ b → list_any (bytes_eq g) (if place == p then [] else groups_at keys p) ≡ list_any (bytes_eq g) (groups_at keys p)
    by g p true e =
        ap (λ (b : Bool). list_any (bytes_eq g) (if b then [] else groups_at keys p)) e
        ∙ sym (ap (list_any (bytes_eq g)) (ap (groups_at keys) (sym (eq_from place p e)) ∙ none))
    by g p false e = ap (λ (b : Bool). list_any (bytes_eq g) (if b then [] else groups_at keys p)) e

pub there_at : {A : Type 0} (keys : Option A → List (List ℕ)) (xs : List (Option A)) (p : ℕ) (o : Option A) → slice_get xs p ≡ Some o → groups_at (map keys xs) p ≡ keys o
there_at keys xs p o h = some_at keys xs p o h

-- adding a place to one more group, and removing it from one

pub groups_put : (keys : List (List (List ℕ))) (n : ℕ) (gs : List (List ℕ)) (p : ℕ) → n < length keys → groups_at (slice_set keys n gs) p ≡ (if n == p then gs else groups_at keys p)
groups_put [] n gs p within = absurd (omega arith)
groups_put (j ∷ keys) zero gs zero within = refl
groups_put (j ∷ keys) zero gs (suc p) within = sym (ap (λ (b : Bool). if b then gs else groups_at keys p) (zero_suc p))
groups_put (j ∷ keys) (suc n) gs zero within = sym (ap (λ (b : Bool). if b then gs else j) (suc_zero n))
groups_put (j ∷ keys) (suc n) gs (suc p) within = groups_put keys n gs p (omega arith) ∙ sym (ap (λ (b : Bool). if b then gs else groups_at keys p) (suc_suc n p))

groups_same : (keys : List (List (List ℕ))) (n p : ℕ) → groups_at (slice_set keys n (groups_at keys n)) p ≡ groups_at keys p
groups_same [] n p = refl
groups_same (j ∷ keys) zero zero = refl
groups_same (j ∷ keys) zero (suc p) = refl
groups_same (j ∷ keys) (suc n) zero = refl
groups_same (j ∷ keys) (suc n) (suc p) = groups_same keys n p

groups_within : (keys : List (List (List ℕ))) (p : ℕ) (g : List ℕ) (gs : List (List ℕ)) → groups_at keys p ≡ g ∷ gs → p < length keys
groups_within [] p g gs h = cc
groups_within (j ∷ keys) zero g gs h = omega arith
groups_within (j ∷ keys) (suc p) g gs h = let r = groups_within keys p g gs h in omega arith

bytes_from : (a b : List ℕ) → bytes_eq a b ≡ true → a ≡ b
bytes_from [] [] h = refl
bytes_from [] (y ∷ b) h = cc
bytes_from (x ∷ a) [] h = cc
bytes_from (x ∷ a) (y ∷ b) h =
    ap (λ z. z ∷ a) (eq_from x y (and_left (x == y) (bytes_eq a b) h)) ∙ ap (λ zs. y ∷ zs) (bytes_from a b (and_right (x == y) (bytes_eq a b) h))

-- if a place is given the groups that it already has, nothing changes
pub catalogue_kept : (keys : List (List (List ℕ))) (place : ℕ) (gs : List (List ℕ)) (es : List (List ℕ)) → IsCatalogue keys es → groups_at keys place ≡ gs → IsCatalogue (slice_set keys place gs) es
catalogue_kept keys place gs es is there = record {
  has = λ g p. is.has g p ∙ sym (ap (list_any (bytes_eq g)) (ap (λ (k : List (List ℕ)). groups_at (slice_set keys place k) p) (sym there) ∙ groups_same keys place p));
}

pub catalogue_join : (keys : List (List (List ℕ))) (group : List ℕ) (place : ℕ) (old new : List (List ℕ)) → IsCatalogue keys old → place < length keys →
    ((e : List ℕ) → has_entry new e ≡ (bytes_eq (entry_at group place) e || has_entry old e)) → IsCatalogue (slice_set keys place (group ∷ groups_at keys place)) new
catalogue_join keys group place old new is within one = record {
  has = λ g p.
      one (entry_at g p)
      ∙ ap (λ (b : Bool). b || has_entry old (entry_at g p)) (entry_eq group g place p)
      ∙ ap (λ (b : Bool). (bytes_eq group g && (place == p)) || b) (is.has g p)
      ∙ by g p (place == p) refl
      ∙ sym (ap (list_any (bytes_eq g)) (groups_put keys place (group ∷ groups_at keys place) p within));
}
  where
    by : (g : List ℕ) (p : ℕ) (b : Bool) → (place == p) ≡ b → ((bytes_eq group g && (place == p)) || list_any (bytes_eq g) (groups_at keys p))
        ≡ list_any (bytes_eq g) (if place == p then group ∷ groups_at keys place else groups_at keys p)
    by g p true e =
        ap (λ (b : Bool). (bytes_eq group g && b) || list_any (bytes_eq g) (groups_at keys p)) e
        ∙ ap (λ (b : Bool). b || list_any (bytes_eq g) (groups_at keys p)) (and_true (bytes_eq group g) ∙ bytes_sym group g)
        ∙ ap (λ (q : ℕ). bytes_eq g group || list_any (bytes_eq g) (groups_at keys q)) (sym (eq_from place p e))
        ∙ sym (ap (λ (b : Bool). list_any (bytes_eq g) (if b then group ∷ groups_at keys place else groups_at keys p)) e)
    by g p false e =
        ap (λ (b : Bool). (bytes_eq group g && b) || list_any (bytes_eq g) (groups_at keys p)) e
        ∙ ap (λ (b : Bool). b || list_any (bytes_eq g) (groups_at keys p)) (and_false (bytes_eq group g))
        ∙ sym (ap (λ (b : Bool). list_any (bytes_eq g) (if b then group ∷ groups_at keys place else groups_at keys p)) e)

pub catalogue_leave : (keys : List (List (List ℕ))) (group : List ℕ) (rest : List (List ℕ)) (place : ℕ) (old new : List (List ℕ)) → IsCatalogue keys old → groups_at keys place ≡ group ∷ rest →
    list_any (bytes_eq group) rest ≡ false → ((e : List ℕ) → has_entry new e ≡ (if bytes_eq (entry_at group place) e then false else has_entry old e)) → IsCatalogue (slice_set keys place rest) new
catalogue_leave keys group rest place old new is there apart one = record {
  has = λ g p.
      one (entry_at g p)
      ∙ ap (λ (b : Bool). if b then false else has_entry old (entry_at g p)) (entry_eq group g place p)
      ∙ ap (λ (b : Bool). if bytes_eq group g && (place == p) then false else b) (is.has g p)
      ∙ by g p (place == p) refl
      ∙ sym (ap (list_any (bytes_eq g)) (groups_put keys place rest p (groups_within keys place group rest there)));
}
  where
    gone : (g : List ℕ) (b : Bool) → bytes_eq g group ≡ b → (if bytes_eq g group then false else (bytes_eq g group || list_any (bytes_eq g) rest)) ≡ list_any (bytes_eq g) rest
    gone g true q = ap (λ (b : Bool). if b then false else (b || list_any (bytes_eq g) rest)) q ∙ sym (ap (λ (h : List ℕ). list_any (bytes_eq h) rest) (bytes_from g group q) ∙ apart)
    gone g false q = ap (λ (b : Bool). if b then false else (b || list_any (bytes_eq g) rest)) q

    by : (g : List ℕ) (p : ℕ) (b : Bool) → (place == p) ≡ b → (if bytes_eq group g && (place == p) then false else list_any (bytes_eq g) (groups_at keys p))
        ≡ list_any (bytes_eq g) (if place == p then rest else groups_at keys p)
    by g p true e =
        ap (λ (b : Bool). if bytes_eq group g && b then false else list_any (bytes_eq g) (groups_at keys p)) e
        ∙ ap (λ (ks : List (List ℕ)). if bytes_eq group g && true then false else list_any (bytes_eq g) ks) (ap (groups_at keys) (sym (eq_from place p e)) ∙ there)
        ∙ ap (λ (b : Bool). if b then false else list_any (bytes_eq g) (group ∷ rest)) (and_true (bytes_eq group g) ∙ bytes_sym group g)
        ∙ gone g (bytes_eq g group) refl
        ∙ sym (ap (λ (b : Bool). list_any (bytes_eq g) (if b then rest else groups_at keys p)) e)
    by g p false e =
        ap (λ (b : Bool). if bytes_eq group g && b then false else list_any (bytes_eq g) (groups_at keys p)) e
        ∙ ap (λ (b : Bool). if b then false else list_any (bytes_eq g) (groups_at keys p)) (and_false (bytes_eq group g))
        ∙ sym (ap (λ (b : Bool). list_any (bytes_eq g) (if b then rest else groups_at keys p)) e)
