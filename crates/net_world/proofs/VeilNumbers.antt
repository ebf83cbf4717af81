-- The numbers of a list without repeats.
use Rattle.std.proofs.Common.{◌≡◌, ℕ, zero, suc, true, false, ◌||◌, List, [], ◌∷◌, ◌++◌, map, refl, sym, subst, ◌∙◌, arith, inl, inr}
use Rattle.std.specs.Prelude.{◌==◌}
use Rattle.std.specs.List.{All, AllPairs, AllByRecursion}
use Rattle.std.proofs.lemmas.List.Elements.{All-nil, All-cons, All-head, All-tail}
use Rattle.std.proofs.lemmas.List.Folds.{list_any-append}
use Rattle.law_base.proofs.Base.{eq_from, or_cases, or_first, or_second, or_same}
use Rattle.net_world.specs.Other.{stands_in, unless_seen, new_after}

seen_more : (earlier : List ℕ) (n j : ℕ) → stands_in (earlier ++ n ∷ []) j ≡ (stands_in earlier j || (n == j || false))
seen_more earlier n j = list_any-append (λ m. m == j) earlier (n ∷ [])

module _ (P : ℕ → Type 0) where
  -- if all numbers of a list have a property, so have those without repeats
  pub each_kept : (earlier ns : List ℕ) → AllByRecursion P ns → AllByRecursion P (new_after earlier ns)
  unfolding new_after
  each_kept earlier [] h = tt
  each_kept earlier (n ∷ ns) h =
      elim (stands_in earlier n) as (λ b. AllByRecursion P (unless_seen b n (new_after (earlier ++ n ∷ []) ns))) [
        | true ↦ each_kept (earlier ++ n ∷ []) ns h.1
        | false ↦ (h.0, each_kept (earlier ++ n ∷ []) ns h.1)
      ]

  known_more : (earlier : List ℕ) (n : ℕ) → ((j : ℕ) → stands_in earlier j ≡ true → P j) → P n → (j : ℕ) → stands_in (earlier ++ n ∷ []) j ≡ true → P j
  known_more earlier n known here j h = elim (or_cases (stands_in earlier j) (n == j || false) (sym (seen_more earlier n j) ∙ h)) [
    | inl old ↦ known j old
    | inr new ↦ subst P (eq_from n j (sym (or_same (n == j) false refl) ∙ new)) here
  ]

  -- if the numbers without repeats have a property, so have all numbers of the list
  pub each_back : (earlier ns : List ℕ) → ((j : ℕ) → stands_in earlier j ≡ true → P j) → AllByRecursion P (new_after earlier ns) → AllByRecursion P ns
  unfolding new_after
  each_back earlier [] known h = tt
  each_back earlier (n ∷ ns) known h =
      elim (stands_in earlier n) as (λ b. stands_in earlier n ≡ b → AllByRecursion P (unless_seen b n (new_after (earlier ++ n ∷ []) ns)) → AllByRecursion P (n ∷ ns)) [
        | true ↦ λ seen all. (known n seen, each_back (earlier ++ n ∷ []) ns (known_more earlier n known (known n seen)) all)
        | false ↦ λ new all. (all.0, each_back (earlier ++ n ∷ []) ns (known_more earlier n known all.0) all.1)
      ] refl h

weaker : (P Q : ℕ → Type 0) → ((j : ℕ) → P j → Q j) → (ns : List ℕ) → AllByRecursion P ns → AllByRecursion Q ns
weaker P Q f [] h = tt
weaker P Q f (n ∷ ns) h = (f n h.0, weaker P Q f ns h.1)

-- none of the new numbers is among the earlier ones
new_are_new : (earlier ns : List ℕ) → AllByRecursion (λ j. stands_in earlier j ≡ false) (new_after earlier ns)
unfolding new_after
new_are_new earlier [] = tt
new_are_new earlier (n ∷ ns) =
    let rest = weaker (λ j. stands_in (earlier ++ n ∷ []) j ≡ false) (λ j. stands_in earlier j ≡ false)
    (λ j h. or_first (stands_in earlier j) (n == j || false) (sym (seen_more earlier n j) ∙ h)) (new_after (earlier ++ n ∷ []) ns) (new_are_new (earlier ++ n ∷ []) ns) in
    elim (stands_in earlier n) as (λ b. stands_in earlier n ≡ b → AllByRecursion (λ j. stands_in earlier j ≡ false) (unless_seen b n (new_after (earlier ++ n ∷ []) ns))) [
      | true ↦ λ seen. rest
      | false ↦ λ new. (new, rest)
    ] refl

-- no two of the numbers are equal
pub AllDiffer : List ℕ → Type 0
AllDiffer [] = Unit {0}
AllDiffer (n ∷ ns) = AllByRecursion (λ j. (n == j) ≡ false) ns × AllDiffer ns

pub new_differ : (earlier ns : List ℕ) → AllDiffer (new_after earlier ns)
unfolding new_after AllDiffer
new_differ earlier [] = tt
new_differ earlier (n ∷ ns) =
    let rest = new_differ (earlier ++ n ∷ []) ns in
    let others = weaker (λ j. stands_in (earlier ++ n ∷ []) j ≡ false) (λ j. (n == j) ≡ false)
    (λ j h. or_first (n == j) false (or_second (stands_in earlier j) (n == j || false) (sym (seen_more earlier n j) ∙ h))) (new_after (earlier ++ n ∷ []) ns) (new_are_new (earlier ++ n ∷ []) ns) in
    elim (stands_in earlier n) as (λ b. AllDiffer (unless_seen b n (new_after (earlier ++ n ∷ []) ns))) [
      | true ↦ rest
      | false ↦ (others, rest)
    ]

-- ---- the image of each number

module _ {A : Type 0} (f : ℕ → A) where
  pub all_mapped : (P : A → Type 0) (ns : List ℕ) → AllByRecursion (λ j. P (f j)) ns → All P (map f ns)
  all_mapped P [] h = All-nil P
  all_mapped P (n ∷ ns) h = All-cons P (f n) (map f ns) h.0 (all_mapped P ns h.1)

  pub mapped_all : (P : A → Type 0) (ns : List ℕ) → All P (map f ns) → AllByRecursion (λ j. P (f j)) ns
  mapped_all P [] h = tt
  mapped_all P (n ∷ ns) h = (All-head P (f n) (map f ns) h, mapped_all P ns (All-tail P (f n) (map f ns) h))

  pub same_mapped : (g : ℕ → A) (ns : List ℕ) → AllByRecursion (λ j. f j ≡ g j) ns → map f ns ≡ map g ns
  same_mapped g [] h = refl
  same_mapped g (n ∷ ns) h = let here : f n ≡ g n = h.0 in let rest : map f ns ≡ map g ns = same_mapped g ns h.1 in cc

  pairs_cons : (R : A → A → Type 0) (x : A) (xs : List A) → All (R x) xs → AllPairs R xs → AllPairs R (x ∷ xs)
  pairs_cons R x xs one all i zero d lt le = absurd (omega (arith, lt))
  pairs_cons R x xs one all zero (suc j) d lt le = one j d (omega (arith, le))
  pairs_cons R x xs one all (suc i) (suc j) d lt le = all i j d (omega (arith, lt)) (omega (arith, le))

  pub pairs_mapped : (P : ℕ → Type 0) (R : A → A → Type 0) → ((i j : ℕ) → P i → P j → (i == j) ≡ false → R (f i) (f j)) → (ns : List ℕ) → AllByRecursion P ns → AllDiffer ns → AllPairs R (map f ns)
  unfolding AllDiffer
  pairs_mapped P R apart [] all differ = λ i j d lt le. absurd (omega (arith, le))
  pairs_mapped P R apart (n ∷ ns) all differ =
      pairs_cons R (f n) (map f ns) (all_mapped (R (f n)) ns (both ns all.1 differ.0)) (pairs_mapped P R apart ns all.1 differ.1)
    where
      both : (ms : List ℕ) → AllByRecursion P ms → AllByRecursion (λ j. (n == j) ≡ false) ms → AllByRecursion (λ j. R (f n) (f j)) ms
      both [] p q = tt
      both (m ∷ ms) p q = (apart n m all.0 p.0 q.0, both ms p.1 q.1)
