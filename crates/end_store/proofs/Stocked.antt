-- The cached numbers of waiting keys stay right when a fact is learned or a key is handed out.
use Rattle.std.proofs.Common.{◌≡◌, ℕ, zero, suc, ◌+◌, ◌-◌, ◌<◌, ◌≤◌, min, Bool, true, false, cond, not, ◌&&◌, ◌||◌, List, [], ◌∷◌, ◌++◌, length, refl, sym, ◌∙◌, ap, subst, arith, Option, Some, None}
use Rattle.std.specs.Prelude.{slice_get, slice_index, count_by, is_some, ◌==◌, if◌then◌else◌}
use Rattle.std.specs.Ordering.{nat_cmp, is_eq}
use Rattle.std.specs.Cmp.Lexicographic.{slice_cmp}
use Rattle.std.specs.BTreeMap.{BTreeMap, Updates, get}
use Rattle.std.proofs.lemmas.Bool.Decides.{nat_tests}
use Rattle.std.proofs.lemmas.List.Folds.{list_any-append}
use Rattle.std.proofs.lemmas.List.Sums.{count_by-le-length}
use Rattle.std.proofs.lemmas.Slice.Eq.{bytes_eq-Decides}
use Rattle.std.proofs.lemmas.Map.Text.{is_eq-slice_cmp}
use Rattle.qkd_base.specs.Name.{Name, name_eq}
use Rattle.net_model.specs.declared.fact.Fact.{Fact}
use Rattle.net_model.specs.declared.fact.Fact.TheVariants.{Key, Chunk, Stored, Open, Joined, Part}
use Rattle.net_model.specs.Table.{name_of, fact_at, was_handed, without_bytes}
use Rattle.net_model.specs.Fold.{marked}
use Rattle.relay_core.specs.Knowledge.{AreDistinct, forgotten}
use Rattle.relay_core.proofs.Names.{name_eq_from, name_eq_same, eq_same, eq_from, and_left, and_right}
use Rattle.relay_core.proofs.Kept.{IsSomewhere, somewhere}
use Rattle.end_store.specs.declared.pool.Pool.{Pool}
use Rattle.end_store.specs.Waiting.{is_in, is_free_key, pool_of}
use Rattle.end_store.specs.Stocked.{pool_key, pool_eq, stock_at, IsPut, AreStocks, all_but_last, last_of_facts, free_pool, key_pool}
use Rattle.end_store.proofs.Counted.{count_is, number_of}
use Rattle.end_store.proofs.Forgotten.{in_stays}
use Rattle.end_store.proofs.Lines.{found_at}
use Rattle.end_store.proofs.Numbers.{one_of, none_of, number-push, number_same, number_one, last_at}

-- pools with equal keys are equal

pub pool_from : (p q : Pool) → pool_eq p q ≡ true → p ≡ q
pool_from p q h =
    let front = and_left ((p.master == q.master) && (p.slave == q.slave)) (p.octets == q.octets) h in
    let a = eq_from p.master q.master (and_left (p.master == q.master) (p.slave == q.slave) front) in
    let b = eq_from p.slave q.slave (and_right (p.master == q.master) (p.slave == q.slave) front) in
    let c = eq_from p.octets q.octets (and_right ((p.master == q.master) && (p.slave == q.slave)) (p.octets == q.octets) h) in
    λ i. record { master = a i; slave = b i; octets = c i }

pub pool_same : (p : Pool) → pool_eq p p ≡ true
pool_same p =
    ap (λ (b : Bool). (b && (p.slave == p.slave)) && (p.octets == p.octets)) (eq_same p.master)
    ∙ ap (λ (b : Bool). b && (p.octets == p.octets)) (eq_same p.slave) ∙ eq_same p.octets

key_pools : (p q : Pool) → pool_key p ≡ pool_key q → p ≡ q
key_pools p q e =
    let a = ap (λ (l : List ℕ). slice_index l 0) e in
    let b = ap (λ (l : List ℕ). slice_index l 1) e in
    let c = ap (λ (l : List ℕ). slice_index l 2) e in
    λ i. record { master = a i; slave = b i; octets = c i }

false_from : (a b : Bool) → (a ≡ true → b ≡ true) → b ≡ false → a ≡ false
false_from true b h miss = let t : true ≡ false = sym (h refl) ∙ miss in t
false_from false b h miss = refl

apart : (p q : Pool) → pool_eq p q ≡ false → is_eq (slice_cmp nat_cmp (pool_key p) (pool_key q)) ≡ false
apart p q miss =
    false_from (is_eq (slice_cmp nat_cmp (pool_key p) (pool_key q))) (pool_eq p q)
    (λ h. ap (pool_eq p) (sym (key_pools p q ((bytes_eq-Decides (pool_key p) (pool_key q)).0 (sym (is_eq-slice_cmp (pool_key p) (pool_key q)) ∙ h)))) ∙ pool_same p)
    miss

some_same : (t u : ℕ) → Some t ≡ Some u → u ≡ t
some_same t u h = cc

pub was_put : (m n : BTreeMap (List ℕ) ℕ) (p : Pool) (t : ℕ) → Updates (slice_cmp nat_cmp) m n (pool_key p) (Some t) → IsPut m.entries n.entries p t
was_put m n p t updates = record {
  own = λ u h. some_same t u (sym updates.1 ∙ h);
  others = λ q miss. updates.2 (pool_key q) (apart p q miss);
}

none_there : (t u : ℕ) → ◌≡◌ {A = _} None (Some u) → u ≡ t
none_there t u h = cc

pub was_not_put : (m n : BTreeMap (List ℕ) ℕ) (p : Pool) (t : ℕ) → get (slice_cmp nat_cmp) m (pool_key p) ≡ None → n.entries ≡ m.entries → IsPut m.entries n.entries p t
was_not_put m n p t absent same = record {
  own = λ u h. none_there t u (sym absent ∙ sym (ap (λ (es : List (List ℕ × ℕ)). stock_at es p) same) ∙ h);
  others = λ q miss. ap (λ (es : List (List ℕ × ℕ)). stock_at es q) same;
}

-- the optional pool is this pool

abbrev pub fits : Option Pool → Pool → Bool
fits None p = false
fits (Some q) p = pool_eq q p

pub and_none : (a : Bool) → (a && false) ≡ false
and_none true = refl
and_none false = refl

and_all : (a : Bool) → (a && true) ≡ a
and_all true = refl
and_all false = refl

pub free_is : (handed : List (Name × ℕ)) (p : Pool) (f : Fact) → is_free_key handed p f ≡ fits (free_pool handed (Some f)) p
free_is handed p (Key name m s route bytes) =
    elim (was_handed handed name m) as (λ b. (is_in p m s bytes && not b) ≡ fits (if b then None else Some (pool_of m s bytes)) p) [ true ↦ and_none (is_in p m s bytes) | false ↦ and_all (is_in p m s bytes) ]
free_is handed p (Chunk name stream index route bytes) = refl
free_is handed p (Stored note about route) = refl
free_is handed p (Open stream source peer size route) = refl
free_is handed p (Joined note about route) = refl
free_is handed p (Part name key m s route bytes) = refl

-- putting the right number for one pool keeps all cached numbers right

put_right : (facts : List Fact) (handed : List (Name × ℕ)) (old new : List (List ℕ × ℕ)) (q : Pool) (n : ℕ) → IsPut old new q n → n ≡ count_by (is_free_key handed q) facts →
    ((p : Pool) (m : ℕ) → pool_eq q p ≡ false → stock_at old p ≡ Some m → m ≡ count_by (is_free_key handed p) facts) → AreStocks facts handed new
put_right facts handed old new q n put own others = record { right = λ p m h. by p m h (pool_eq q p) refl }
  where
    by : (p : Pool) (m : ℕ) → stock_at new p ≡ Some m → (b : Bool) → pool_eq q p ≡ b → m ≡ count_by (is_free_key handed p) facts
    by p m h true e =
        let same = pool_from q p e in
        put.own m (ap (stock_at new) same ∙ h) ∙ own ∙ ap (λ (r : Pool). count_by (is_free_key handed r) facts) same
    by p m h false e = others p m e (sym (put.others p e) ∙ h)

-- learning a fact

module _ (facts : List Fact) (handed : List (Name × ℕ)) (some : 0 < length facts) where
  module _ (f : Fact) (last : last_of_facts facts ≡ Some f) where
    count_last : (t : Fact → Bool) → count_by t facts ≡ count_by t (all_but_last facts) + cond (t f) 1 0
    count_last t =
        let whole = last_at facts f (length facts - 1) (omega arith) last in
        count_is t facts ∙ ap (λ (fs : List Fact). number_of t fs) whole ∙ number-push t (all_but_last facts) f ∙ ap (λ (n : ℕ). n + cond (t f) 1 0) (sym (count_is t (all_but_last facts)))

    count_same : (p : Pool) → fits (free_pool handed (Some f)) p ≡ false → count_by (is_free_key handed p) facts ≡ count_by (is_free_key handed p) (all_but_last facts)
    count_same p miss = let c = count_last (is_free_key handed p) in let z = none_of (is_free_key handed p f) (free_is handed p f ∙ miss) in omega arith

    count_more : (p : Pool) → fits (free_pool handed (Some f)) p ≡ true → count_by (is_free_key handed p) facts ≡ count_by (is_free_key handed p) (all_but_last facts) + 1
    count_more p hit = let c = count_last (is_free_key handed p) in let z = one_of (is_free_key handed p f) (free_is handed p f ∙ hit) in omega arith

  pub no_last : last_of_facts facts ≡ None → ⊥
  no_last h = by facts (length facts - 1) (omega arith) h
    where
      by : (fs : List Fact) (k : ℕ) → k < length fs → slice_get fs k ≡ None → ⊥
      by [] k lt h = absurd (omega arith)
      by (x ∷ xs) zero lt h = cc
      by (x ∷ xs) (suc k) lt h = by xs k (omega arith) h

  module _ (old : List (List ℕ × ℕ)) (right : AreStocks (all_but_last facts) handed old) where
    pub learned_none : ◌≡◌ {A = Option Pool} None (free_pool handed (last_of_facts facts)) → AreStocks facts handed old
    learned_none none = by (last_of_facts facts) refl none
      where
        by : (o : Option Fact) → last_of_facts facts ≡ o → ◌≡◌ {A = Option Pool} None (free_pool handed o) → AreStocks facts handed old
        by None e h = absurd (no_last e)
        by (Some f) e h = record { right = λ p n at. right.right p n at ∙ sym (count_same f e p (ap (λ (o : Option Pool). fits o p) (sym h))) }

    module _ (q : Pool) (is : Some q ≡ free_pool handed (last_of_facts facts)) where
      others_right : (o : Option Fact) → last_of_facts facts ≡ o → Some q ≡ free_pool handed o → (p : Pool) (m : ℕ) → pool_eq q p ≡ false → stock_at old p ≡ Some m → m ≡ count_by (is_free_key handed p) facts
      others_right None e h p m miss at = absurd (no_last e)
      others_right (Some f) e h p m miss at = right.right p m at ∙ sym (count_same f e p (ap (λ (o : Option Pool). fits o p) (sym h) ∙ miss))

      one_more : (n : ℕ) → stock_at old q ≡ Some n → (o : Option Fact) → last_of_facts facts ≡ o → Some q ≡ free_pool handed o → n + 1 ≡ count_by (is_free_key handed q) facts
      one_more n at None e h = absurd (no_last e)
      one_more n at (Some f) e h =
          let r = right.right q n at in
          let c = count_more f e q (ap (λ (o : Option Pool). fits o q) (sym h) ∙ pool_same q) in
          omega arith

      pub learned_fits : (n : ℕ) → Some n ≡ stock_at old q → n + 1 ≤ length facts
      learned_fits n at =
          let m = one_more n (sym at) (last_of_facts facts) refl is in
          let w = count_by-le-length (is_free_key handed q) facts in
          omega arith

      pub learned_more : (n : ℕ) (new : List (List ℕ × ℕ)) → Some n ≡ stock_at old q → IsPut old new q (n + 1) → AreStocks facts handed new
      learned_more n new at put = put_right facts handed old new q (n + 1) put (one_more n (sym at) (last_of_facts facts) refl is) (others_right (last_of_facts facts) refl is)

      pub learned_all : (n size : ℕ) (new : List (List ℕ × ℕ)) → size ≡ length facts → n ≡ min size (count_by (is_free_key handed q) facts) → IsPut old new q n → AreStocks facts handed new
      learned_all n size new whole counted put =
          put_right facts handed old new q n put (let w = count_by-le-length (is_free_key handed q) facts in omega arith) (others_right (last_of_facts facts) refl is)

-- a disjunction with two false tests equals its first test

pub or_none : (a : Bool) → (a || (false || false)) ≡ a
or_none true = refl
or_none false = refl

pub or_all : (a : Bool) → (a || (true || false)) ≡ true
or_all true = refl
or_all false = refl

eq_turned : (a b : ℕ) → (a == b) ≡ false → (b == a) ≡ false
eq_turned a b h = grind (arith, nat_tests)

module _ (facts : List Fact) (handed : List (Name × ℕ)) (n : Name) (x : ℕ) (d : AreDistinct facts) (fresh : was_handed handed n x ≡ false) where
  pub is_marked : marked handed n x ≡ handed ++ (n, x) ∷ []
  is_marked = ap (λ (b : Bool). if b then handed else handed ++ (n, x) ∷ []) fresh

  pub was_more : (m : Name) (y : ℕ) → was_handed (handed ++ (n, x) ∷ []) m y ≡ (was_handed handed m y || ((name_eq n m && (x == y)) || false))
  was_more m y = list_any-append (λ h. name_eq h.0 m && (h.1 == y)) handed ((n, x) ∷ [])

  was_same : (m : Name) (y : ℕ) → (name_eq n m && (x == y)) ≡ false → was_handed (handed ++ (n, x) ∷ []) m y ≡ was_handed handed m y
  was_same m y miss = was_more m y ∙ ap (λ (b : Bool). was_handed handed m y || (b || false)) miss ∙ or_none (was_handed handed m y)

  -- a key of another name waits as before
  pub other_name : (p : Pool) (f : Fact) → name_eq n (name_of f) ≡ false → is_free_key (handed ++ (n, x) ∷ []) p f ≡ is_free_key handed p f
  other_name p (Key name m s route bytes) miss = ap (λ (b : Bool). is_in p m s bytes && not b) (was_same name m (ap (λ (b : Bool). b && (x == m)) miss))
  other_name p (Chunk name stream index route bytes) miss = refl
  other_name p (Stored note about route) miss = refl
  other_name p (Open stream source peer size route) miss = refl
  other_name p (Joined note about route) miss = refl
  other_name p (Part name key m s route bytes) miss = refl

  -- a key of another master or pool waits as before
  pub other_pool : (p : Pool) (f : Fact) → fits (key_pool x (Some f)) p ≡ false → is_free_key (handed ++ (n, x) ∷ []) p f ≡ is_free_key handed p f
  other_pool p (Key name m s route bytes) miss = by (m == x) refl miss
    where
      by : (b : Bool) → (m == x) ≡ b → fits (if b then Some (pool_of m s bytes) else None) p ≡ false →
          (is_in p m s bytes && not (was_handed (handed ++ (n, x) ∷ []) name m)) ≡ (is_in p m s bytes && not (was_handed handed name m))
      by true e h = ap (λ (b : Bool). b && not (was_handed (handed ++ (n, x) ∷ []) name m)) h ∙ sym (ap (λ (b : Bool). b && not (was_handed handed name m)) h)
      by false e h = ap (λ (b : Bool). is_in p m s bytes && not b) (was_same name m (ap (λ (b : Bool). name_eq n name && b) (eq_turned m x e) ∙ and_none (name_eq n name)))
  other_pool p (Chunk name stream index route bytes) miss = refl
  other_pool p (Stored note about route) miss = refl
  other_pool p (Open stream source peer size route) miss = refl
  other_pool p (Joined note about route) miss = refl
  other_pool p (Part name key m s route bytes) miss = refl

  -- the number of any other pool stays the same
  others_same : (p : Pool) → fits (key_pool x (fact_at facts n)) p ≡ false → count_by (is_free_key handed p) facts ≡ count_by (is_free_key (handed ++ (n, x) ∷ []) p) facts
  others_same p miss =
      count_is (is_free_key handed p) facts
      ∙ number_same (is_free_key handed p) (is_free_key (handed ++ (n, x) ∷ []) p) facts (λ i f there. sym (by i f there (name_eq n (name_of f)) refl))
      ∙ sym (count_is (is_free_key (handed ++ (n, x) ∷ []) p) facts)
    where
      by : (i : ℕ) (f : Fact) → slice_get facts i ≡ Some f → (b : Bool) → name_eq n (name_of f) ≡ b → is_free_key (handed ++ (n, x) ∷ []) p f ≡ is_free_key handed p f
      by i f there true e = other_pool p f (sym (ap (λ (o : Option Fact). fits (key_pool x o) p) (found_at facts n i f d there (sym (name_eq_from n (name_of f) e)))) ∙ miss)
      by i f there false e = other_name p f e

  -- the place of the key of this name, which waited for this master
  pub record WaitedAt (q : Pool) : Type 0 where
    pub place : ℕ
    pub fact : Fact
    pub there : slice_get facts place ≡ Some fact
    pub named : name_of fact ≡ n
    pub pooled : key_pool x (Some fact) ≡ Some q

  waited : (q : Pool) → Some q ≡ key_pool x (fact_at facts n) → WaitedAt q
  waited q is = with_place (somewhere (λ f. name_eq (name_of f) n) facts (has (fact_at facts n) is))
    where
      has : (o : Option Fact) → Some q ≡ key_pool x o → is_some o ≡ true
      has None h = cc
      has (Some f) h = refl

      with_place : IsSomewhere (λ f. name_eq (name_of f) n) facts → WaitedAt q
      with_place at = record {
        place = at.place;
        fact = at.item;
        there = at.there;
        named = name_eq_from (name_of at.item) n at.passes;
        pooled = sym (ap (key_pool x) at.found) ∙ sym is;
      }

  pub was_free : (q : Pool) (f : Fact) → name_of f ≡ n → key_pool x (Some f) ≡ Some q → (hs : List (Name × ℕ)) → is_free_key hs q f ≡ not (was_handed hs n x)
  was_free q (Key name m s route bytes) named pooled hs = by (m == x) refl pooled
    where
      by : (b : Bool) → (m == x) ≡ b → (if b then Some (pool_of m s bytes) else None) ≡ Some q → (is_in q m s bytes && not (was_handed hs name m)) ≡ not (was_handed hs n x)
      by true e h =
          let same : pool_of m s bytes ≡ q = cc in
          ap (λ (b : Bool). b && not (was_handed hs name m)) (ap (pool_eq (pool_of m s bytes)) (sym same) ∙ pool_same (pool_of m s bytes))
          ∙ ap (λ (k : Name). not (was_handed hs k m)) named ∙ ap (λ (y : ℕ). not (was_handed hs n y)) (eq_from m x e)
      by false e h = cc
  was_free q (Chunk name stream index route bytes) named pooled hs = cc
  was_free q (Stored note about route) named pooled hs = cc
  was_free q (Open stream source peer size route) named pooled hs = cc
  was_free q (Joined note about route) named pooled hs = cc
  was_free q (Part name key m s route bytes) named pooled hs = cc

  count_less : (q : Pool) → WaitedAt q → count_by (is_free_key handed q) facts ≡ count_by (is_free_key (handed ++ (n, x) ∷ []) q) facts + 1
  count_less q at =
      count_is (is_free_key handed q) facts
      ∙ number_one (is_free_key (handed ++ (n, x) ∷ []) q) (is_free_key handed q) facts at.place at.fact at.there is was (λ j g there apart. sym (other_name q g (other j g there apart (name_eq n (name_of g)) refl)))
      ∙ ap (λ (k : ℕ). k + 1) (sym (count_is (is_free_key (handed ++ (n, x) ∷ []) q) facts))
    where
      is : is_free_key (handed ++ (n, x) ∷ []) q at.fact ≡ false
      is =
          was_free q at.fact at.named at.pooled (handed ++ (n, x) ∷ [])
          ∙ ap not (was_more n x ∙ ap (λ (b : Bool). was_handed handed n x || ((b && (x == x)) || false)) (name_eq_same n) ∙ ap (λ (b : Bool). was_handed handed n x || (b || false)) (eq_same x) ∙ or_all (was_handed handed n x))

      was : is_free_key handed q at.fact ≡ true
      was = was_free q at.fact at.named at.pooled handed ∙ ap not fresh

      other : (j : ℕ) (g : Fact) → slice_get facts j ≡ Some g → (j ≡ at.place → ⊥) → (b : Bool) → name_eq n (name_of g) ≡ b → name_eq n (name_of g) ≡ false
      other j g there apart true e =
          absurd (apart (d.apart j at.place n (record { fact = g; there = there; named = sym (name_eq_from n (name_of g) e) }) (record { fact = at.fact; there = at.there; named = at.named })))
      other j g there apart false e = e

  module _ (old : List (List ℕ × ℕ)) (right : AreStocks facts handed old) where
    pub handing_none : ◌≡◌ {A = Option Pool} None (key_pool x (fact_at facts n)) → AreStocks facts (marked handed n x) old
    handing_none none = subst (λ (hs : List (Name × ℕ)). AreStocks facts hs old) (sym is_marked) (record {
      right = λ p m at. right.right p m at ∙ others_same p (ap (λ (o : Option Pool). fits o p) (sym none));
    })

    module _ (q : Pool) (is : Some q ≡ key_pool x (fact_at facts n)) where
      others_kept : (p : Pool) (m : ℕ) → pool_eq q p ≡ false → stock_at old p ≡ Some m → m ≡ count_by (is_free_key (handed ++ (n, x) ∷ []) p) facts
      others_kept p m miss at = right.right p m at ∙ others_same p (ap (λ (o : Option Pool). fits o p) (sym is) ∙ miss)

      pub handing_absent : ◌≡◌ {A = Option ℕ} None (stock_at old q) → AreStocks facts (marked handed n x) old
      handing_absent none = subst (λ (hs : List (Name × ℕ)). AreStocks facts hs old) (sym is_marked) (record { right = λ p m at. by p m at (pool_eq q p) refl })
        where
          by : (p : Pool) (m : ℕ) → stock_at old p ≡ Some m → (b : Bool) → pool_eq q p ≡ b → m ≡ count_by (is_free_key (handed ++ (n, x) ∷ []) p) facts
          by p m at true e =
              let both : ◌≡◌ {A = Option ℕ} None (Some m) = none ∙ ap (stock_at old) (pool_from q p e) ∙ at in
              absurd (let u : ⊥ = cc in u)
          by p m at false e = others_kept p m e at

      pub handing_some : (k : ℕ) → Some k ≡ stock_at old q → 1 ≤ k
      handing_some k at = let r = right.right q k (sym at) in let c = count_less q (waited q is) in omega arith

      pub handing_less : (k : ℕ) (new : List (List ℕ × ℕ)) → Some k ≡ stock_at old q → IsPut old new q (k - 1) → AreStocks facts (marked handed n x) new
      handing_less k new at put = subst (λ (hs : List (Name × ℕ)). AreStocks facts hs new) (sym is_marked)
          (put_right facts (handed ++ (n, x) ∷ []) old new q (k - 1) put (let r = right.right q k (sym at) in let c = count_less q (waited q is) in omega arith) others_kept)

-- handing out a pair that is recorded already, and overwriting a fact's bytes, changes nothing

pub handing_twice : (facts : List Fact) (handed : List (Name × ℕ)) (n : Name) (x : ℕ) (stocks : List (List ℕ × ℕ)) → was_handed handed n x ≡ true → AreStocks facts handed stocks → AreStocks facts (marked handed n x) stocks
handing_twice facts handed n x stocks was right =
    subst (λ (hs : List (Name × ℕ)). AreStocks facts hs stocks) (sym (ap (λ (b : Bool). if b then handed else handed ++ (n, x) ∷ []) was)) right

pub bare_free : (handed : List (Name × ℕ)) (p : Pool) (f : Fact) → is_free_key handed p (without_bytes f) ≡ is_free_key handed p f
bare_free handed p (Key name m s route bytes) = ap (λ (b : Bool). b && not (was_handed handed name m)) (in_stays p m s bytes)
bare_free handed p (Chunk name stream index route bytes) = refl
bare_free handed p (Stored note about route) = refl
bare_free handed p (Open stream source peer size route) = refl
bare_free handed p (Joined note about route) = refl
bare_free handed p (Part name key m s route bytes) = refl

bare_count : (handed : List (Name × ℕ)) (p : Pool) (facts : List Fact) (place : ℕ) → number_of (is_free_key handed p) (forgotten facts place) ≡ number_of (is_free_key handed p) facts
bare_count handed p [] place = refl
bare_count handed p (f ∷ fs) zero = ap (λ (b : Bool). cond b 1 0 + number_of (is_free_key handed p) fs) (bare_free handed p f)
bare_count handed p (f ∷ fs) (suc place) = ap (λ (k : ℕ). cond (is_free_key handed p f) 1 0 + k) (bare_count handed p fs place)

pub stocks_forgotten : (facts later : List Fact) (handed : List (Name × ℕ)) (stocks : List (List ℕ × ℕ)) (place : ℕ) → AreStocks facts handed stocks → later ≡ forgotten facts place → AreStocks later handed stocks
stocks_forgotten facts later handed stocks place right e =
    subst (λ (fs : List Fact). AreStocks fs handed stocks) (sym e) (record {
      right = λ p n at. right.right p n at ∙ count_is (is_free_key handed p) facts ∙ sym (bare_count handed p facts place) ∙ sym (count_is (is_free_key handed p) (forgotten facts place));
    })
