-- In a list without repetition, each place or name is counted at most once.
use Rattle.std.proofs.Common.{◌≡◌, ℕ, ◌≤◌, Bool, true, false, ◌&&◌, List, [], ◌∷◌, ◌++◌, refl, sym, ◌∙◌, ap, arith}
use Rattle.std.specs.Prelude.{◌==◌, count_by}
use Rattle.qkd_base.specs.Name.{Name, name_eq, has}
use Rattle.qkd_base.specs.Lane.{lane_eq}
use Rattle.qkd_base.specs.declared.lane.Lane.{Lane}
use Rattle.net_model.specs.Knowledge.{AllDiffer}
use Rattle.net_model.specs.Windows.{has_place, PlacesDiffer}
use Rattle.law_base.proofs.Base.{and_left, and_right, eq_from, lane_eq_from, name_eq_from, name_eq_same, not_false, not_both, or_first, or_second}
use Rattle.law_locality.proofs.Counting.{count_more}
use Rattle.law_parallel.proofs.Counting.{one_false, at_most_one, none_found, count-append}

-- A new first item keeps the count at most one, if no later item passes the same test.
more_once : {A : Type 0} (p : A → Bool) (x : A) (xs : List A) → (p x ≡ true → count_by p xs ≡ 0) → count_by p xs ≤ 1 → count_by p (x ∷ xs) ≤ 1
more_once p x xs h k =
    let more = count_more p x xs in
    elim (p x) as (λ t. p x ≡ t → count_by p (x ∷ xs) ≤ 1) [
      | true ↦ λ e. let none = h e in let few = at_most_one (p x) in omega (arith, more, none, few)
      | false ↦ λ e. let none = one_false (p x) e in omega (arith, more, none, k)
    ] refl

abbrev pub is_at : Lane × ℕ → Lane × ℕ → Bool
is_at q p = lane_eq p.0 q.0 && (p.1 == q.1)

place_from : (q p : Lane × ℕ) → is_at q p ≡ true → p ≡ q
place_from q p h =
    let lane = lane_eq_from p.0 q.0 (and_left (lane_eq p.0 q.0) (p.1 == q.1) h) in
    let offset = eq_from p.1 q.1 (and_right (lane_eq p.0 q.0) (p.1 == q.1) h) in
    λ i. (lane i, offset i)

pub place_once : (q : Lane × ℕ) (ps : List (Lane × ℕ)) → PlacesDiffer ps → count_by (is_at q) ps ≤ 1
place_once q [] d = omega arith
place_once q (p ∷ ps) d =
    more_once (is_at q) p ps (λ e. none_found (is_at q) ps (ap (has_place ps) (sym (place_from q p e)) ∙ d.0)) (place_once q ps d.1)

pub first_places : (q : Lane × ℕ) (ps qs : List (Lane × ℕ)) → PlacesDiffer (ps ++ qs) → count_by (is_at q) ps ≤ 1
first_places q ps qs d = let all = place_once q (ps ++ qs) d in let both = count-append (is_at q) ps qs in omega (arith, all, both)

abbrev pub is_name : Name → Name → Bool
is_name m n = name_eq m n

none_named : (m : Name) (ns : List Name) → has ns m ≡ false → count_by (is_name m) ns ≡ 0
none_named m [] h = refl
none_named m (n ∷ ns) h =
    let rest = none_named m ns (or_second (name_eq n m) (has ns m) h) in
    let none = one_false (name_eq m n) (other m n (or_first (name_eq n m) (has ns m) h)) in
    let more = count_more (is_name m) n ns in
    omega (arith, rest, none, more)
  where
    other : (m n : Name) → name_eq n m ≡ false → name_eq m n ≡ false
    other m n h = not_false (name_eq m n) (λ e. not_both (name_eq n m) (ap (name_eq n) (name_eq_from m n e) ∙ name_eq_same n) h)

pub name_once : (m : Name) (ns : List Name) → AllDiffer ns → count_by (is_name m) ns ≤ 1
name_once m [] d = omega arith
name_once m (n ∷ ns) d =
    more_once (is_name m) n ns (λ e. none_named m ns (ap (has ns) (name_eq_from m n e) ∙ d.0)) (name_once m ns d.1)
