-- Where all keys of a pair are confirmed at their origin, its pool has just as many keys as the master hasn't got.
use Rattle.std.proofs.Common.{◌≡◌, ℕ, zero, suc, ◌+◌, Bool, true, false, not, ◌&&◌, ◌||◌, List, [], ◌∷◌, map, length, refl, sym, ◌∙◌, ap, subst, arith, Option, Some, None, inl, inr}
use Rattle.std.specs.Prelude.{count_by, slice_get, option_map, if◌then◌else◌}
use Rattle.std.specs.List.{cons_option}
use Rattle.std.proofs.lemmas.List.Sums.{length-filter}
use Rattle.qkd_base.specs.Name.{Name, name_eq, has}
use Rattle.qkd_base.specs.declared.key_name.NameKind.TheVariants.{Key as KeyKind}
use Rattle.net_model.specs.declared.fact.Fact.{Fact}
use Rattle.net_model.specs.Table.{name_of, origin, fact_at, facts_of, was_handed}
use Rattle.net_model.specs.World.{Network, World}
use Rattle.net_model.specs.View.{View}
use Rattle.net_model.specs.Needed.{masked_fact, masked, view_of}
use Rattle.net_model.specs.Decision.{last_count, is_confirmed}
use Rattle.net_model.specs.Pools.{own_names, is_key_of, is_in_pool, pool, unhanded}
use Rattle.net_model.specs.Knowledge.{AllDiffer}
use Rattle.net_model.specs.Invariant.{Conserved}
use Rattle.law_base.proofs.Base.{name_eq_from, name_eq_same, and_left, or_cases, or_left, or_right, not_false, not_both}
use Rattle.law_base.proofs.Lists.{any_of}
use Rattle.law_base.proofs.Masked.{masked_same, name_blind}
use Rattle.law_base.proofs.Tables.{found_name}
use Rattle.law_base.proofs.Views.{view_is_known}
use Rattle.law_invariant.proofs.Names.{differ_up_to}
use Rattle.law_locality.proofs.Counting.{one_if, count_more}
use Rattle.law_quiet.specs.Delivered.{IsBack}
use Rattle.law_quiet.proofs.Readiness.{key_blind, key_home, is_own}
use Rattle.law_quiet.proofs.Counts.{count_zero, count_agree}

-- Facts with different names are counted by their names.

module _ (p : Fact → Bool) where
  abbrev holds : Option Fact → Bool
  holds None = false
  holds (Some f) = p f

  both_counts : (q r s : Name → Bool) (ns : List Name) → ((n : Name) → one_if (q n) ≡ one_if (r n) + one_if (s n)) → count_by q ns ≡ count_by r ns + count_by s ns
  both_counts q r s [] h = omega arith
  both_counts q r s (n ∷ ns) h =
      let a = count_more q n ns in
      let b = count_more r n ns in
      let d = count_more s n ns in
      let one = h n in
      let rest = both_counts q r s ns h in
      omega (arith, a, b, d, one, rest)

  missing : (facts : List Fact) (n : Name) → has (map name_of facts) n ≡ false → fact_at facts n ≡ None
  missing [] n h = refl
  missing (f ∷ facts) n h =
      elim (name_eq (name_of f) n) as (λ t. (t || has (map name_of facts) n) ≡ false → (if t then Some f else fact_at facts n) ≡ None) [
        | true ↦ λ e. cc
        | false ↦ λ e. missing facts n e
      ] h

  -- A name of a list without repetitions is counted once.
  once : (k : Name) (ns : List Name) → AllDiffer ns → has ns k ≡ true → count_by (λ n. name_eq k n) ns ≡ 1
  once k [] differ on = cc
  once k (n ∷ ns) differ on =
      let all = count_more (λ x. name_eq k x) n ns in
      elim (name_eq k n) as (λ t. name_eq k n ≡ t → count_by (λ x. name_eq k x) (n ∷ ns) ≡ 1) [
        | true ↦ λ e.
            let is : k ≡ n = name_eq_from k n e in
            let one : one_if (name_eq k n) ≡ 1 = ap one_if e in
            let rest = count_zero (λ x. name_eq k x) ns (λ i x at. not_false (name_eq k x) (λ same. not_both (has ns n)
            (any_of (λ y. name_eq y n) ns x i at (ap (λ (y : Name). name_eq y n) (sym (name_eq_from k x same) ∙ is) ∙ name_eq_same n)) differ.0)) in
            omega (arith, all, one, rest)
        | false ↦ λ e.
            let none : one_if (name_eq k n) ≡ 0 = ap one_if e in
            let later : has ns k ≡ true = elim (or_cases (name_eq n k) (has ns k) on) [
              | inl same ↦ absurd (not_both (name_eq k n) (ap (λ (y : Name). name_eq k y) (name_eq_from n k same) ∙ name_eq_same k) e)
              | inr l ↦ l
            ] in
            let rest = once k ns differ.1 later in
            omega (arith, all, none, rest)
      ] refl

  first_or_later : (f : Fact) (facts : List Fact) → has (map name_of facts) (name_of f) ≡ false → (n : Name) →
      one_if (holds (fact_at (f ∷ facts) n)) ≡ one_if (name_eq (name_of f) n && p f) + one_if (holds (fact_at facts n))
  first_or_later f facts apart n =
      elim (name_eq (name_of f) n) as (λ t. name_eq (name_of f) n ≡ t → one_if (holds (if t then Some f else fact_at facts n)) ≡ one_if (t && p f) + one_if (holds (fact_at facts n))) [
        | true ↦ λ e.
            let none = missing facts n (ap (has (map name_of facts)) (sym (name_eq_from (name_of f) n e)) ∙ apart) in
            let zero' : one_if (holds (fact_at facts n)) ≡ 0 = ap (λ (o : Option Fact). one_if (holds o)) none in
            omega (arith, zero')
        | false ↦ λ e. omega arith
      ] refl

  counted_once : (f : Fact) (ns : List Name) → AllDiffer ns → (p f ≡ true → has ns (name_of f) ≡ true) → count_by (λ n. name_eq (name_of f) n && p f) ns ≡ one_if (p f)
  counted_once f ns differ on = elim (p f) as (λ t. p f ≡ t → count_by (λ n. name_eq (name_of f) n && t) ns ≡ one_if t) [
    | true ↦ λ e. count_agree (λ n. name_eq (name_of f) n && true) (λ n. name_eq (name_of f) n) ns (λ i n at. plain (name_eq (name_of f) n)) ∙ once (name_of f) ns differ (on e)
    | false ↦ λ e. count_zero (λ n. name_eq (name_of f) n && false) ns (λ i n at. never (name_eq (name_of f) n))
  ] refl
    where
      plain : (b : Bool) → (b && true) ≡ b
      plain true = refl
      plain false = refl

      never : (b : Bool) → (b && false) ≡ false
      never true = refl
      never false = refl

  by_name : (ns : List Name) → AllDiffer ns → (facts : List Fact) → AllDiffer (map name_of facts) →
      ((i : ℕ) (f : Fact) → slice_get facts i ≡ Some f → p f ≡ true → has ns (name_of f) ≡ true) → count_by (λ n. holds (fact_at facts n)) ns ≡ count_by p facts
  by_name ns differ [] apart on = count_zero (λ n. holds (fact_at [] n)) ns (λ i n at. refl)
  by_name ns differ (f ∷ facts) apart on =
      let both = both_counts (λ n. holds (fact_at (f ∷ facts) n)) (λ n. name_eq (name_of f) n && p f) (λ n. holds (fact_at facts n)) ns (first_or_later f facts apart.0) in
      let one = counted_once f ns differ (on 0 f refl) in
      let rest = by_name ns differ facts apart.1 (λ i g at. on (suc i) g at) in
      let all = count_more p f facts in
      omega (arith, both, one, rest, all)

-- Each of them is found under its name.
found_there : (facts : List Fact) → AllDiffer (map name_of facts) → (i : ℕ) (g : Fact) → slice_get facts i ≡ Some g → fact_at facts (name_of g) ≡ Some g
found_there [] differ i g at = cc
found_there (f ∷ facts) differ zero g at =
    let is : f ≡ g = cc in
    ap (λ (b : Bool). if b then Some f else fact_at facts (name_of g)) (ap (λ (x : Fact). name_eq (name_of x) (name_of g)) is ∙ name_eq_same (name_of g)) ∙ ap Some is
found_there (f ∷ facts) differ (suc i) g at =
    elim (name_eq (name_of f) (name_of g)) as (λ b. name_eq (name_of f) (name_of g) ≡ b → (if b then Some f else fact_at facts (name_of g)) ≡ Some g) [
      | true ↦ λ e.
          let same = name_eq_from (name_of f) (name_of g) e in
          let listed : has (map name_of facts) (name_of f) ≡ true =
          any_of (λ n. name_eq n (name_of f)) (map name_of facts) (name_of g) i (mapped_to name_of facts i g at) (ap (λ (n : Name). name_eq n (name_of f)) (sym same) ∙ name_eq_same (name_of f)) in
          absurd (not_both (has (map name_of facts) (name_of f)) listed differ.0)
      | false ↦ λ e. found_there facts differ.1 i g at
    ] refl
  where
    mapped_to : {A B : Type 0} (h : A → B) (xs : List A) (i : ℕ) (x : A) → slice_get xs i ≡ Some x → slice_get (map h xs) i ≡ Some (h x)
    mapped_to h [] i x at = cc
    mapped_to h (y ∷ xs) zero x at = ap (option_map h) at
    mapped_to h (y ∷ xs) (suc i) x at = mapped_to h xs i x at

-- A node sees each fact that it knows once.

seen_names : (bare : View) (facts : List Fact) (ns : List Name) → ((n : Name) → has ns n ≡ true → (f : Fact) × (fact_at facts n ≡ Some f)) →
    map name_of (map (masked_fact bare) (facts_of facts ns)) ≡ ns
seen_names bare facts [] there = refl
seen_names bare facts (n ∷ ns) there =
    let here = there n (or_first_same n ns) in
    let rest = seen_names bare facts ns (λ k on. there k (later n k ns on)) in
    ap (λ (o : Option Fact). map name_of (map (masked_fact bare) (cons_option o (facts_of facts ns)))) here.1 ∙
    (λ i. (masked_same name_of name_blind bare here.0 ∙ found_name facts n here.0 here.1) i ∷ rest i)
  where
    or_first_same : (n : Name) (ns : List Name) → has (n ∷ ns) n ≡ true
    or_first_same n ns = or_left (name_eq n n) (has ns n) (name_eq_same n)

    later : (n k : Name) (ns : List Name) → has ns k ≡ true → has (n ∷ ns) k ≡ true
    later n k ns on = or_right (name_eq n k) (has ns k) on

module _ (net : Network) (w : World) (c : Conserved net w) (v m t bits : ℕ) (home : net.site.home m ≡ v)
    (backs : (n : Name) (f : Fact) → fact_at w.durable.facts n ≡ Some f → is_key_of m t bits (Some f) ≡ true → IsBack net w n f) where
  abbrev see : View
  see = view_of net w v

  abbrev is_open : Fact → Bool
  is_open f = is_key_of m t bits (Some f) && not (was_handed see.handed (name_of f) m)

  names_differ : AllDiffer (map name_of see.facts)
  unfolding view_of masked
  names_differ =
      subst AllDiffer (sym (seen_names _ w.durable.facts (w.durable.known v) (λ n on. let k = c.now.knowledge.each v n on in (k.fact, k.there)))) (c.now.knowledge.differ v)

  -- The key of the table that the node sees.
  record IsSeen (n : Name) : Type 0 where
    fact : Fact
    there : fact_at w.durable.facts n ≡ Some fact
    key : is_key_of m t bits (Some fact) ≡ true
    mine : origin fact ≡ v

  seen_key : (n : Name) (g : Fact) → fact_at see.facts n ≡ Some g → is_key_of m t bits (Some g) ≡ true → IsSeen n
  seen_key n g at key =
      let s = view_is_known net w v n g at in
      let key' : is_key_of m t bits (Some s.fact) ≡ true = elim s.is [
        | inl same ↦ ap (λ (x : Fact). is_key_of m t bits (Some x)) (sym same) ∙ key
        | inr bare ↦ sym (key_blind m t bits s.fact) ∙ ap (λ (x : Fact). is_key_of m t bits (Some x)) (sym bare) ∙ key
      ] in
      record { fact = s.fact; there = s.there; key = key'; mine = sym (key_home net w.durable.facts m t bits s.fact key' (c.now.table n s.fact s.there).entitled) ∙ home }

  confirmed : (n : Name) (g : Fact) → fact_at see.facts n ≡ Some g → is_key_of m t bits (Some g) ≡ true → is_confirmed see n ≡ true
  confirmed n g at key = let s = seen_key n g at key in subst (λ (u : ℕ). is_confirmed (view_of net w u) n ≡ true) s.mine (backs n s.fact s.there s.key).seen

  same_test : (n : Name) (o : Option Fact) → fact_at see.facts n ≡ o → (is_key_of m t bits o && is_confirmed see n && not (was_handed see.handed n m)) ≡ holds is_open o
  same_test n None at = refl
  same_test n (Some g) at =
      elim (is_key_of m t bits (Some g)) as (λ b. is_key_of m t bits (Some g) ≡ b → (b && is_confirmed see n && not (was_handed see.handed n m)) ≡ (b && not (was_handed see.handed (name_of g) m))) [
        | true ↦ λ e. ap (λ (b : Bool). true && b && not (was_handed see.handed n m)) (confirmed n g at e) ∙ ap (λ (k : Name). not (was_handed see.handed k m)) (sym (found_name see.facts n g at))
        | false ↦ λ e. refl
      ] refl

  own : (i : ℕ) (g : Fact) → slice_get see.facts i ≡ Some g → is_open g ≡ true → has (own_names see) (name_of g) ≡ true
  own i g at h =
      let there = found_there see.facts names_differ i g at in
      let s = seen_key (name_of g) g there (and_left (is_key_of m t bits (Some g)) _ h) in
      subst (λ (u : ℕ). has (own_names (view_of net w u)) (name_of g) ≡ true) s.mine (is_own net w c (name_of g) s.fact m t bits s.there s.key)

  pub full : length (pool see m t bits) ≡ unhanded see m t bits
  unfolding pool unhanded
  full =
      length-filter (is_in_pool see m t bits) (own_names see) ∙
      count_agree (is_in_pool see m t bits) (λ n. holds is_open (fact_at see.facts n)) (own_names see) (λ i n at. same_test n (fact_at see.facts n) refl) ∙
      by_name is_open (own_names see) (differ_up_to see.me KeyKind (last_count see.me see.facts)) see.facts names_differ own
