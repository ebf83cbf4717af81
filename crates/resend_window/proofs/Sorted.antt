-- Entries in order of offset.
use Rattle.std.proofs.Common.{◌≡◌, ℕ, zero, suc, ◌+◌, ◌-◌, ◌<◌, ◌≤◌, Bool, true, false, ◌||◌, ◌&&◌, List, [], ◌∷◌, ◌++◌, length, take, refl, sym, ◌∙◌, ap, subst, arith, Option, Some, None}
use Rattle.std.specs.Prelude.{map, filter, find, slice_get, ◌==◌, nat_lt, nat_le, is_some, if◌then◌else◌}
use Rattle.std.specs.List.{list_any}
use Rattle.std.specs.Option.{option_map}
use Rattle.std.proofs.lemmas.Bool.Decides.{nat_tests}
use Rattle.net_model.specs.World.{Entry}
use Rattle.net_model.specs.Window.{insert_entry, by_offset}
use Rattle.relay_core.proofs.Names.{eq_same, eq_from, and_left, and_right}
use Rattle.resend_window.specs.Repeating.{is_above}
use Rattle.resend_window.proofs.Least.{any_less}

or_first : (a b : Bool) → (a || b) ≡ false → a ≡ false
or_first true b e = e
or_first false b e = refl

or_second : (a b : Bool) → (a || b) ≡ false → b ≡ false
or_second true b e = cc
or_second false b e = e

or_none : (a b : Bool) → a ≡ false → b ≡ false → (a || b) ≡ false
or_none true b h k = h
or_none false b h k = k

or_swap : (a b c : Bool) → (a || (b || c)) ≡ (b || (a || c))
or_swap true true c = refl
or_swap true false c = refl
or_swap false true c = refl
or_swap false false c = refl

unfoldable pub AreDifferent : List Entry → Type 0
AreDifferent [] = Unit {0}
AreDifferent (e ∷ es) = (list_any (λ x. x.offset == e.offset) es ≡ false) × AreDifferent es

pub IsStrict : List Entry → Type 0
IsStrict [] = Unit {0}
IsStrict (e ∷ es) = (list_any (λ x. nat_le x.offset e.offset) es ≡ false) × IsStrict es

any_insert : (t : Entry → Bool) (e : Entry) (es : List Entry) → list_any t (insert_entry e es) ≡ (t e || list_any t es)
any_insert t e [] = refl
any_insert t e (x ∷ xs) =
    elim (nat_lt e.offset x.offset) as (λ b. list_any t (if b then e ∷ x ∷ xs else x ∷ insert_entry e xs) ≡ (t e || (t x || list_any t xs))) [
      | true ↦ refl
      | false ↦ ap (λ (b : Bool). t x || b) (any_insert t e xs) ∙ or_swap (t x) (t e) (list_any t xs)
    ]

pub any_sorted : (t : Entry → Bool) (es : List Entry) → list_any t (by_offset es) ≡ list_any t es
any_sorted t [] = refl
any_sorted t (e ∷ es) = any_insert t e (by_offset es) ∙ ap (λ (b : Bool). t e || b) (any_sorted t es)

not_behind : (a b : ℕ) → nat_lt a b ≡ true → nat_le b a ≡ false
not_behind a b h = grind (arith, nat_tests)

behind_yet : (z a b : ℕ) → nat_lt a b ≡ true → nat_le z a ≡ true → nat_le z b ≡ true
behind_yet z a b h k = grind (arith, nat_tests)

not_before : (a b : ℕ) → nat_lt a b ≡ false → (b == a) ≡ false → nat_le a b ≡ false
not_before a b h k = grind (arith, nat_tests)

insert_strict : (e : Entry) (es : List Entry) → IsStrict es → list_any (λ x. x.offset == e.offset) es ≡ false → IsStrict (insert_entry e es)
unfolding IsStrict
insert_strict e [] strict free = (refl, tt)
insert_strict e (x ∷ xs) strict free = by (nat_lt e.offset x.offset) refl (insert_strict e xs strict.1 (or_second (x.offset == e.offset) (list_any (λ y. y.offset == e.offset) xs) free))
  where
    by : (b : Bool) → nat_lt e.offset x.offset ≡ b → IsStrict (insert_entry e xs) → IsStrict (if b then e ∷ x ∷ xs else x ∷ insert_entry e xs)
    by true lt rest = (
      or_none (nat_le x.offset e.offset) (list_any (λ y. nat_le y.offset e.offset) xs) (not_behind e.offset x.offset lt)
          (any_less (λ y. nat_le y.offset x.offset) (λ y. nat_le y.offset e.offset) (λ y h. behind_yet y.offset e.offset x.offset lt h) xs strict.0),
      (strict.0, strict.1),
    )
    by false lt rest = (
      any_insert (λ y. nat_le y.offset x.offset) e xs
          ∙ or_none (nat_le e.offset x.offset) (list_any (λ y. nat_le y.offset x.offset) xs) (not_before e.offset x.offset lt (or_first (x.offset == e.offset) (list_any (λ y. y.offset == e.offset) xs) free)) strict.0,
      rest,
    )

pub sorted_strict : (es : List Entry) → AreDifferent es → IsStrict (by_offset es)
unfolding AreDifferent IsStrict
sorted_strict [] apart = tt
sorted_strict (e ∷ es) apart = insert_strict e (by_offset es) (sorted_strict es apart.1) (any_sorted (λ x. x.offset == e.offset) es ∙ apart.0)

find_insert : (t : Entry → Bool) (e : Entry) (es : List Entry) → (t e ≡ true → list_any t es ≡ false) → find t (insert_entry e es) ≡ (if t e then Some e else find t es)
find_insert t e [] once = refl
find_insert t e (x ∷ xs) once = by (nat_lt e.offset x.offset) (find_insert t e xs (λ h. or_second (t x) (list_any t xs) (once h)))
  where
    both : (a b : Bool) → t e ≡ a → t x ≡ b → (if b then Some x else (if a then Some e else find t xs)) ≡ (if a then Some e else (if b then Some x else find t xs))
    both true true p q = let u : true ≡ false = sym q ∙ or_first (t x) (list_any t xs) (once p) in absurd (let z : ⊥ = cc in z)
    both true false p q = refl
    both false true p q = refl
    both false false p q = refl

    by : (b : Bool) → find t (insert_entry e xs) ≡ (if t e then Some e else find t xs) →
        find t (if b then e ∷ x ∷ xs else x ∷ insert_entry e xs) ≡ (if t e then Some e else (if t x then Some x else find t xs))
    by true r = refl
    by false r = ap (λ (o : Option Entry). if t x then Some x else o) r ∙ both (t e) (t x) refl refl

pub find_sorted : (k : ℕ) (es : List Entry) → AreDifferent es → find (λ x. x.offset == k) (by_offset es) ≡ find (λ x. x.offset == k) es
unfolding AreDifferent
find_sorted k [] apart = refl
find_sorted k (e ∷ es) apart =
    find_insert (λ x. x.offset == k) e (by_offset es)
    (λ h. any_sorted (λ x. x.offset == k) es ∙ ap (λ (j : ℕ). list_any (λ x. x.offset == j) es) (sym (eq_from e.offset k h)) ∙ apart.0)
    ∙ ap (λ (o : Option Entry). if e.offset == k then Some e else o) (find_sorted k es apart.1)

-- the entries above the least one

filter_agree : {A : Type 0} (t u w : A → Bool) (xs : List A) → ((x : A) → w x ≡ false → t x ≡ u x) → list_any w xs ≡ false → filter t xs ≡ filter u xs
filter_agree t u w [] same none = refl
filter_agree {A} t u w (x ∷ xs) same none =
    ap (λ (b : Bool). if b then x ∷ filter t xs else filter t xs) (same x (or_first (w x) (list_any w xs) none))
    ∙ ap (λ (ys : List A). if u x then x ∷ ys else ys) (filter_agree t u w xs same (or_second (w x) (list_any w xs) none))

above_both : (after : Option ℕ) (x z : ℕ) → is_above after x ≡ true → nat_le z x ≡ false → is_above after z ≡ nat_lt x z
above_both None x z h k = grind (arith, nat_tests)
above_both (Some a) x z h k = grind (arith, nat_tests)

not_self : (x : ℕ) → nat_lt x x ≡ false
not_self x = grind (arith, nat_tests)

found_any : (k : ℕ) (es : List Entry) (e : Entry) → find (λ x. x.offset == k) es ≡ Some e → list_any (λ x. x.offset == k) es ≡ true
found_any k [] e h = cc
found_any k (x ∷ xs) e h =
    elim (x.offset == k) as (λ b. (if b then Some x else find (λ x. x.offset == k) xs) ≡ Some e → (b || list_any (λ x. x.offset == k) xs) ≡ true) [
      | true ↦ λ g. refl
      | false ↦ λ g. found_any k xs e g
    ] h

-- inserting an entry before entries with greater offsets
before_found : (y : Entry) (es : List Entry) (k : ℕ) (e : Entry) → list_any (λ x. nat_le x.offset y.offset) es ≡ false → find (λ x. x.offset == k) es ≡ Some e → nat_lt y.offset k ≡ true
before_found y es k e above found = by (nat_lt y.offset k) refl
  where
    none_behind : (j : ℕ) → nat_lt j k ≡ false → (x : Entry) → (x.offset == k) ≡ true → nat_le x.offset j ≡ true
    none_behind j h x g = grind (arith, nat_tests)

    by : (b : Bool) → nat_lt y.offset k ≡ b → nat_lt y.offset k ≡ true
    by true h = h
    by false h =
        let none = any_less (λ x. nat_le x.offset y.offset) (λ x. x.offset == k) (none_behind y.offset h) es above in
        let u : true ≡ false = sym (found_any k es e found) ∙ none in
        absurd (let z : ⊥ = cc in z)

not_ahead : (k y : ℕ) → nat_lt y k ≡ true → nat_lt k y ≡ false
not_ahead k y h = grind (arith, nat_tests)

and_false_left : (a b : Bool) → (a && b) ≡ false → b ≡ true → a ≡ false
and_false_left true b h k = let u : true ≡ false = sym k ∙ h in absurd (let z : ⊥ = cc in z)
and_false_left false b h k = refl

pub least_rest : (es : List Entry) (after : Option ℕ) (k : ℕ) (e : Entry) → IsStrict es → find (λ x. x.offset == k) es ≡ Some e → is_above after k ≡ true →
    list_any (λ x. is_above after x.offset && nat_lt x.offset k) es ≡ false → filter (λ x. is_above after x.offset) es ≡ e ∷ filter (λ x. nat_lt k x.offset) es
unfolding IsStrict
least_rest [] after k e strict found above least = cc
least_rest (y ∷ ys) after k e strict found above least = by (y.offset == k) refl (least_rest ys after k e strict.1)
  where
    by : (b : Bool) → (y.offset == k) ≡ b →
        (find (λ x. x.offset == k) ys ≡ Some e → is_above after k ≡ true → list_any (λ x. is_above after x.offset && nat_lt x.offset k) ys ≡ false →
        filter (λ x. is_above after x.offset) ys ≡ e ∷ filter (λ x. nat_lt k x.offset) ys) →
        filter (λ x. is_above after x.offset) (y ∷ ys) ≡ e ∷ filter (λ x. nat_lt k x.offset) (y ∷ ys)
    by true same rest =
        let is : Some y ≡ Some e = sym (ap (λ (b : Bool). if b then Some y else find (λ x. x.offset == k) ys) same) ∙ found in
        let here : y ≡ e = cc in
        let at : y.offset ≡ k = eq_from y.offset k same in
        ap (λ (b : Bool). if b then y ∷ filter (λ x. is_above after x.offset) ys else filter (λ x. is_above after x.offset) ys) (ap (is_above after) at ∙ above)
        ∙ ap (λ (z : Entry). z ∷ filter (λ x. is_above after x.offset) ys) here
        ∙ ap (λ zs. e ∷ zs) (filter_agree (λ x. is_above after x.offset) (λ x. nat_lt k x.offset) (λ x. nat_le x.offset k) ys (λ x h. above_both after k x.offset above h)
        (ap (λ (j : ℕ). list_any (λ x. nat_le x.offset j) ys) (sym at) ∙ strict.0)
        ∙ sym (ap (λ (b : Bool). if b then y ∷ filter (λ x. nat_lt k x.offset) ys else filter (λ x. nat_lt k x.offset) ys) (ap (λ (j : ℕ). nat_lt k j) at ∙ not_self k)))
    by false other rest =
        let found_there = sym (ap (λ (b : Bool). if b then Some y else find (λ x. x.offset == k) ys) other) ∙ found in
        let before = before_found y ys k e strict.0 found_there in
        let low = and_false_left (is_above after y.offset) (nat_lt y.offset k) (or_first (is_above after y.offset && nat_lt y.offset k) (list_any (λ x. is_above after x.offset && nat_lt x.offset k) ys) least) before in
        ap (λ (b : Bool). if b then y ∷ filter (λ x. is_above after x.offset) ys else filter (λ x. is_above after x.offset) ys) low
        ∙ rest found_there above (or_second (is_above after y.offset && nat_lt y.offset k) (list_any (λ x. is_above after x.offset && nat_lt x.offset k) ys) least)
        ∙ ap (λ zs. e ∷ zs) (sym (ap (λ (b : Bool). if b then y ∷ filter (λ x. nat_lt k x.offset) ys else filter (λ x. nat_lt k x.offset) ys) (not_ahead k y.offset before)))

pub none_above : {A : Type 0} (t : A → Bool) (xs : List A) → list_any t xs ≡ false → filter t xs ≡ []
none_above t [] h = refl
none_above {A} t (x ∷ xs) h = ap (λ (b : Bool). if b then x ∷ filter t xs else filter t xs) (or_first (t x) (list_any t xs) h) ∙ none_above t xs (or_second (t x) (list_any t xs) h)

pub all_above : (es : List Entry) → filter (λ e. is_above None e.offset) es ≡ es
all_above [] = refl
all_above (e ∷ es) = ap (λ zs. e ∷ zs) (all_above es)
