-- Pairs of a name and an application, and their index entries.
use Rattle.std.proofs.Common.{◌-◌, ◌≡◌, ℕ, zero, suc, ◌+◌, Bool, true, false, ◌&&◌, ◌||◌, List, [], ◌∷◌, ◌++◌, length, take, drop, refl, sym, ◌∙◌, ap, subst, arith, Some, ◌⊎◌, inl, inr, add-one, length-append}
use Rattle.std.specs.Prelude.{slice_get, slice_index, ◌/◌, ◌%◌, ◌==◌}
use Rattle.std.specs.List.{list_any}
use Rattle.std.specs.Str.{bytes_eq}
use Rattle.std.proofs.lemmas.Slice.Eq.{bytes_eq-Decides}
use Rattle.std.proofs.lemmas.List.{take-append-le, take-append-drop, take_all, length-drop}
use Rattle.std.proofs.lemmas.List.Folds.{list_any-append}
use Rattle.qkd_base.specs.Name.{Name, name_eq}
use Rattle.net_model.specs.Table.{was_handed}
use Rattle.ordered_set.specs.Entries.{has_entry}
use Rattle.relay_core.proofs.Firsts.{get_within, not_true, any_at}
use Rattle.relay_core.proofs.Names.{origin_kind, origin_node, same_name, names_same, name_eq_from, eq_same, eq_from}
use Rattle.end_store.specs.Marked.{AreMarked, mark_entry}

bytes_same : (a b : List ℕ) → a ≡ b → bytes_eq a b ≡ true
bytes_same a b e = (bytes_eq-Decides a b).1 e

bytes_from : (a b : List ℕ) → bytes_eq a b ≡ true → a ≡ b
bytes_from a b h = (bytes_eq-Decides a b).0 h

-- equal entries are those of the same pair
pub same_pair : (n m : Name) (s t : ℕ) → mark_entry n s ≡ mark_entry m t → (n ≡ m) × (s ≡ t)
same_pair n m s t e = (
  same_name n m
      (sym (origin_node n) ∙ ap (λ (l : List ℕ). slice_index l 1 / 4) e ∙ origin_node m)
      (sym (origin_kind n) ∙ ap (λ (l : List ℕ). slice_index l 1 % 4) e ∙ origin_kind m)
      (ap (λ (l : List ℕ). slice_index l 0) e),
  ap (λ (l : List ℕ). slice_index l 2) e,
)

pub is_pair : (n m : Name) (s t : ℕ) → (n ≡ m) × (s ≡ t) → (name_eq n m && (s == t)) ≡ true
is_pair n m s t e = ap (λ (b : Bool). b && (s == t)) (names_same n m e.0) ∙ ap (λ (x : ℕ). s == x) (sym e.1) ∙ eq_same s

or_cases : (a b : Bool) → (a || b) ≡ true → (a ≡ true) ⊎ (b ≡ true)
or_cases true b h = inl refl
or_cases false b h = inr h

or_right : (a b : Bool) → b ≡ true → (a || b) ≡ true
or_right true b h = refl
or_right false b h = h

or_left : (a b : Bool) → a ≡ true → (a || b) ≡ true
or_left true b h = refl
or_left false b h = cc

and_left : (a b : Bool) → (a && b) ≡ true → a ≡ true
and_left true b h = refl
and_left false b h = h

and_right : (a b : Bool) → (a && b) ≡ true → b ≡ true
and_right true b h = h
and_right false b h = cc

pub any_take : {A : Type 0} (p : A → Bool) (xs : List A) (i : ℕ) (x : A) → slice_get xs i ≡ Some x → list_any p (take (i + 1) xs) ≡ (list_any p (take i xs) || p x)
any_take p xs i x h = ap (λ (n : ℕ). list_any p (take n xs)) (add-one i) ∙ upto p xs i x h
  where
    upto : {A : Type 0} (p : A → Bool) (xs : List A) (i : ℕ) (x : A) → slice_get xs i ≡ Some x → list_any p (take (suc i) xs) ≡ (list_any p (take i xs) || p x)
    upto p [] i x h = cc
    upto p (y ∷ ys) zero x h =
        let same : y ≡ x = cc in
        elim (p y) as (λ b. p y ≡ b → (b || false) ≡ (false || p x)) [ true ↦ λ e. sym (ap p (sym same) ∙ e) | false ↦ λ e. sym (ap p (sym same) ∙ e) ] refl
    upto p (y ∷ ys) (suc i) x h =
        elim (p y) as (λ b. (b || list_any p (take (suc i) ys)) ≡ ((b || list_any p (take i ys)) || p x)) [ true ↦ refl | false ↦ upto p ys i x h ]

-- the index stays right if one more pair is listed
pub marked_more : (pairs : List (Name × ℕ)) (old new : List (List ℕ)) (place : ℕ) (n : Name) (s : ℕ) → AreMarked pairs old place → slice_get pairs place ≡ Some (n, s) →
    ((e : List ℕ) → has_entry new e ≡ (bytes_eq (mark_entry n s) e || has_entry old e)) → AreMarked pairs new (place + 1)
marked_more pairs old new place n s marked there grows = record {
  within = let lt = get_within pairs place (n, s) there in omega arith;
  sound = λ m t h. elim (or_cases (bytes_eq (mark_entry n s) (mark_entry m t)) (has_entry old (mark_entry m t)) (sym (grows (mark_entry m t)) ∙ h)) [
    | inl same ↦ any_at (λ p. name_eq p.0 m && (p.1 == t)) pairs place (n, s) there (is_pair n m s t (same_pair n m s t (bytes_from (mark_entry n s) (mark_entry m t) same)))
    | inr was ↦ marked.sound m t was
  ];
  complete = λ m t h. elim (or_cases (was_handed (take place pairs) m t) (name_eq n m && (s == t)) (sym (any_take (λ p. name_eq p.0 m && (p.1 == t)) pairs place (n, s) there) ∙ h)) [
    | inl was ↦ grows (mark_entry m t) ∙ or_right (bytes_eq (mark_entry n s) (mark_entry m t)) (has_entry old (mark_entry m t)) (marked.complete m t was)
    | inr same ↦
        let is_n : n ≡ m = name_eq_from n m (and_left (name_eq n m) (s == t) same) in
        let is_s : s ≡ t = eq_from s t (and_right (name_eq n m) (s == t) same) in
        grows (mark_entry m t) ∙ or_left (bytes_eq (mark_entry n s) (mark_entry m t)) (has_entry old (mark_entry m t))
        (bytes_same (mark_entry n s) (mark_entry m t) (ap (λ (k : Name). mark_entry k s) is_n ∙ ap (mark_entry m) is_s))
  ];
}

-- the index stays right if one more pair is added at the end
pub marked_push : (pairs after : List (Name × ℕ)) (es : List (List ℕ)) (count : ℕ) (p : Name × ℕ) → AreMarked pairs es count → after ≡ pairs ++ p ∷ [] → AreMarked after es count
marked_push pairs after es count p marked e = subst (λ (ps : List (Name × ℕ)). AreMarked ps es count) (sym e) (record {
  within = let w = marked.within in let l = length-append pairs (p ∷ []) in omega arith;
  sound = λ n s h. list_any-append (λ q. name_eq q.0 n && (q.1 == s)) pairs (p ∷ []) ∙ or_left (was_handed pairs n s) (was_handed (p ∷ []) n s) (marked.sound n s h);
  complete = λ n s h. marked.complete n s (sym (ap (λ (ps : List (Name × ℕ)). was_handed ps n s) (take-append-le count pairs (p ∷ []) marked.within)) ∙ h);
})

pub nothing_marked : (pairs : List (Name × ℕ)) (es : List (List ℕ)) → pairs ≡ [] → es ≡ [] → AreMarked pairs es 0
nothing_marked pairs es p e = subst (λ (ps : List (Name × ℕ)). AreMarked ps es 0) (sym p) (subst (λ (l : List (List ℕ)). AreMarked [] l 0) (sym e) nothing)
  where
    nothing : AreMarked [] [] 0
    nothing = record { within = omega arith; sound = λ n s h. h; complete = λ n s h. h }

-- an entry in the index is that of a pair of the set

pub found_pair : (pairs : List (Name × ℕ)) (es : List (List ℕ)) (count : ℕ) (n : Name) (s : ℕ) → AreMarked pairs es count → has_entry es (mark_entry n s) ≡ true → true ≡ was_handed pairs n s
found_pair pairs es count n s marked h = sym (marked.sound n s h)

pub other_pair : (pairs : List (Name × ℕ)) (es : List (List ℕ)) (count : ℕ) (n : Name) (s : ℕ) → AreMarked pairs es count → has_entry es (mark_entry n s) ≡ false →
    was_handed (drop count pairs) n s ≡ was_handed pairs n s
other_pair pairs es count n s marked miss =
    let none = not_true (was_handed (take count pairs) n s) (λ h. let t : true ≡ false = sym (marked.complete n s h) ∙ miss in let u : ⊥ = cc in u) in
    ap (λ (b : Bool). b || was_handed (drop count pairs) n s) (sym none)
    ∙ sym (list_any-append (λ q. name_eq q.0 n && (q.1 == s)) (take count pairs) (drop count pairs))
    ∙ ap (λ (ps : List (Name × ℕ)). was_handed ps n s) (take-append-drop count pairs)

pub take_rest : {A : Type 0} (xs : List A) (c : ℕ) → take (length xs - c) (drop c xs) ≡ drop c xs
take_rest xs c = let e = length-drop c xs in take_all (length xs - c) (drop c xs) (omega arith)
