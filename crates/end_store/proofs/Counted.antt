-- The number of keys of a pool that their master hasn't got.
use Rattle.std.proofs.Common.{◌≡◌, ℕ, zero, suc, ◌+◌, ◌%◌, ◌/◌, ◌<◌, ◌≤◌, min, Bool, true, false, cond, not, ◌&&◌, List, [], ◌∷◌, length, refl, sym, ◌∙◌, ap, arith, take, Option, Some, None}
use Rattle.std.specs.Prelude.{slice_get, count_by, ◌==◌, if◌then◌else◌}
use Rattle.std.proofs.lemmas.List.Sums.{sum_by-cons}
use Rattle.qkd_base.specs.Name.{Name}
use Rattle.qkd_base.specs.declared.pool_no.PoolNo.{PoolNo}
use Rattle.net_model.specs.declared.fact.Fact.{Fact}
use Rattle.net_model.specs.Table.{name_of, was_handed}
use Rattle.net_model.specs.Pools.{is_key_of, unhanded}
use Rattle.net_model.specs.View.{View}
use Rattle.relay_core.proofs.Firsts.{get_within}
use Rattle.end_store.specs.declared.pool.Pool.{Pool}
use Rattle.end_store.specs.declared.pool.Line.TheVariants.{Stock}
use Rattle.end_store.specs.Waiting.{is_free_key, is_free_key_at, IsNextWaiting, IsLastWaiting}
use Rattle.end_store.specs.Pooled.{octets_pool}
use Rattle.end_store.proofs.Gathered.{keyed, no_key}

-- how many items of a list pass a test, by recursion
abbrev pub number_of : {A : Type 0} → (A → Bool) → List A → ℕ
number_of t [] = 0
number_of t (x ∷ xs) = cond (t x) 1 0 + number_of t xs

pub count_is : {A : Type 0} (t : A → Bool) (xs : List A) → count_by t xs ≡ number_of t xs
count_is t [] = refl
count_is t (x ∷ xs) = sum_by-cons (λ y. cond (t y) 1 0) x xs ∙ ap (λ (n : ℕ). cond (t x) 1 0 + n) (count_is t xs)

one_of : (b : Bool) → b ≡ true → ◌≡◌ {A = ℕ} (cond b 1 0) 1
one_of true h = refl
one_of false h = cc

none_of : (b : Bool) → b ≡ false → ◌≡◌ {A = ℕ} (cond b 1 0) 0
none_of true h = cc
none_of false h = refl

-- if the item at a place passes and none before it does from `from` on, the number rises by one
more : {A : Type 0} (t : A → Bool) (xs : List A) (from place : ℕ) (x : A) → from ≤ place → ((d : ℕ) (z : A) → from ≤ d → d < place → slice_get xs d ≡ Some z → t z ≡ false) →
    slice_get xs place ≡ Some x → t x ≡ true → number_of t (take (suc place) xs) ≡ number_of t (take from xs) + 1
more t [] from place x le none g h = cc
more t (y ∷ ys) zero zero x le none g h = let same : y ≡ x = cc in let e = one_of (t y) (ap t same ∙ h) in omega arith
more t (y ∷ ys) zero (suc p) x le none g h =
    let first = none_of (t y) (none 0 y (omega arith) (omega arith) refl) in
    let r = more t ys 0 p x (omega arith) (λ d z low high k. none (suc d) z (omega arith) (omega arith) k) g h in
    omega arith
more t (y ∷ ys) (suc f) zero x le none g h = absurd (omega arith)
more t (y ∷ ys) (suc f) (suc p) x le none g h =
    let r = more t ys f p x (omega arith) (λ d z low high k. none (suc d) z (omega arith) (omega arith) k) g h in
    omega arith

-- if no item passes from a place on, the number up to this place is that of all
rest : {A : Type 0} (t : A → Bool) (xs : List A) (from : ℕ) → ((d : ℕ) (z : A) → from ≤ d → slice_get xs d ≡ Some z → t z ≡ false) → number_of t (take from xs) ≡ number_of t xs
rest t [] zero none = refl
rest t [] (suc f) none = refl
rest t (y ∷ ys) zero none =
    let first = none_of (t y) (none 0 y (omega arith) refl) in
    let r = rest t ys 0 (λ d z low k. none (suc d) z (omega arith) k) in
    omega arith
rest t (y ∷ ys) (suc f) none =
    let r = rest t ys f (λ d z low k. none (suc d) z (omega arith) k) in
    omega arith

fewer : {A : Type 0} (t : A → Bool) (xs : List A) (c : ℕ) → number_of t (take c xs) ≤ number_of t xs
fewer t [] zero = omega arith
fewer t [] (suc c) = omega arith
fewer t (y ∷ ys) zero = omega arith
fewer t (y ∷ ys) (suc c) = let r = fewer t ys c in omega arith

same_count : {A : Type 0} (t s : A → Bool) (xs : List A) → ((x : A) → t x ≡ s x) → number_of t xs ≡ number_of s xs
same_count t s [] h = refl
same_count t s (x ∷ xs) h = ap (λ (b : Bool). cond b 1 0 + number_of t xs) (h x) ∙ ap (λ (n : ℕ). cond (s x) 1 0 + n) (same_count t s xs h)

-- `count` waiting keys of the pool were found before the place `from`

pub record HasStock (me : ℕ) (facts : List Fact) (handed : List (Name × ℕ)) (p : Pool) (number from count : ℕ) : Type 0 where
  pub is : count ≡ number_of (is_free_key handed p) (take from facts)
  pub within : from ≤ length facts
  pub few : count ≤ number

pub stock_none : (me : ℕ) (facts : List Fact) (handed : List (Name × ℕ)) (p : Pool) (number : ℕ) → HasStock me facts handed p number 0 0
stock_none me facts handed p number = record { is = refl; within = omega arith; few = omega arith }

free_at : (handed : List (Name × ℕ)) (p : Pool) (o : Option Fact) (z : Fact) → o ≡ Some z → is_free_key_at handed p o ≡ is_free_key handed p z
free_at handed p o z e = ap (is_free_key_at handed p) e

pub record FreeAt (facts : List Fact) (handed : List (Name × ℕ)) (p : Pool) (place : ℕ) : Type 0 where
  pub fact : Fact
  pub there : slice_get facts place ≡ Some fact
  pub free : is_free_key handed p fact ≡ true

pub stands_free : (facts : List Fact) (handed : List (Name × ℕ)) (p : Pool) (place : ℕ) (o : Option Fact) → slice_get facts place ≡ o → is_free_key_at handed p o ≡ true → FreeAt facts handed p place
stands_free facts handed p place None e h = cc
stands_free facts handed p place (Some f) e h = record { fact = f; there = e; free = h }

module _ (me : ℕ) (facts : List Fact) (handed : List (Name × ℕ)) (p : Pool) (number from count place : ℕ) (h : HasStock me facts handed p number from count)
    (next : IsNextWaiting me facts handed (Stock p) from place) where
  pub stock_place : FreeAt facts handed p place
  stock_place = stands_free facts handed p place (slice_get facts place) refl next.waits

  pub stock_one : count < number → HasStock me facts handed p number (place + 1) (count + 1)
  stock_one room =
      let at = stock_place in
      let e : place + 1 ≡ suc place = omega arith in
      let m = more (is_free_key handed p) facts from place at.fact next.behind (λ d z low high k. sym (free_at handed p (slice_get facts d) z k) ∙ next.first d low high) at.there at.free in
      record {
        is = ap (λ (n : ℕ). n + 1) h.is ∙ sym m ∙ ap (λ (n : ℕ). number_of (is_free_key handed p) (take n facts)) (sym e);
        within = let lt = get_within facts place at.fact at.there in omega arith;
        few = omega arith;
      }

pub stock_all : (me : ℕ) (facts : List Fact) (handed : List (Name × ℕ)) (p : Pool) (number from count : ℕ) → HasStock me facts handed p number from count → IsLastWaiting me facts handed (Stock p) from →
    count ≡ min number (count_by (is_free_key handed p) facts)
stock_all me facts handed p number from count h last =
    let r = rest (is_free_key handed p) facts from (λ d z low k. sym (free_at handed p (slice_get facts d) z k) ∙ last.none d low) in
    let i = h.is in
    let f = h.few in
    let k = count_is (is_free_key handed p) facts in
    omega arith

pub stock_enough : (me : ℕ) (facts : List Fact) (handed : List (Name × ℕ)) (p : Pool) (number from count : ℕ) → HasStock me facts handed p number from count → number ≤ count →
    count ≡ min number (count_by (is_free_key handed p) facts)
stock_enough me facts handed p number from count h enough =
    let l = fewer (is_free_key handed p) facts from in
    let i = h.is in
    let f = h.few in
    let k = count_is (is_free_key handed p) facts in
    omega arith

-- the number of keys that wait in the pool is that of the model

pub stock_unhanded : (v : View) (p : PoolNo) (keys : Pool) → Some keys ≡ octets_pool p → count_by (is_free_key v.handed keys) v.facts ≡ unhanded v p.master p.slave p.bits
unfolding unhanded
stock_unhanded v p keys e = by (p.bits % 8 == 0) refl e
  where
    by : (b : Bool) → (p.bits % 8 == 0) ≡ b → Some keys ≡ (if b then Some (record { master = p.master; slave = p.slave; octets = p.bits / 8 }) else None) →
        count_by (is_free_key v.handed keys) v.facts ≡ count_by (λ f. is_key_of p.master p.slave p.bits (Some f) && not (was_handed v.handed (name_of f) p.master)) v.facts
    by false h g = absurd (let u : ⊥ = cc in u)
    by true h g =
        let k : Pool = record { master = p.master; slave = p.slave; octets = p.bits / 8 } in
        let is : keys ≡ k = cc in
        ap (λ (x : Pool). count_by (is_free_key v.handed x) v.facts) is
        ∙ count_is (is_free_key v.handed k) v.facts
        ∙ same_count (is_free_key v.handed k) (λ f. is_key_of p.master p.slave p.bits (Some f) && not (was_handed v.handed (name_of f) p.master)) v.facts
        (λ f. keyed v.handed p.master p.slave p.bits (name_of f) f h refl)
        ∙ sym (count_is (λ f. is_key_of p.master p.slave p.bits (Some f) && not (was_handed v.handed (name_of f) p.master)) v.facts)

pub no_unhanded : (v : View) (p : PoolNo) → ◌≡◌ {A = Option Pool} None (octets_pool p) → unhanded v p.master p.slave p.bits ≡ 0
unfolding unhanded
no_unhanded v p e = by (p.bits % 8 == 0) refl e
  where
    none : (fs : List Fact) → (p.bits % 8 == 0) ≡ false → number_of (λ f. is_key_of p.master p.slave p.bits (Some f) && not (was_handed v.handed (name_of f) p.master)) fs ≡ 0
    none [] h = refl
    none (f ∷ fs) h =
        ap (λ (b : Bool). cond (b && not (was_handed v.handed (name_of f) p.master)) 1 0 + number_of (λ x. is_key_of p.master p.slave p.bits (Some x) && not (was_handed v.handed (name_of x) p.master)) fs)
        (no_key v p.master p.slave p.bits (Some f) h)
        ∙ ap (λ (n : ℕ). 0 + n) (none fs h)

    by : (b : Bool) → (p.bits % 8 == 0) ≡ b → ◌≡◌ {A = Option Pool} None (if b then Some (record { master = p.master; slave = p.slave; octets = p.bits / 8 }) else None) →
        count_by (λ f. is_key_of p.master p.slave p.bits (Some f) && not (was_handed v.handed (name_of f) p.master)) v.facts ≡ 0
    by true h g = absurd (let u : ⊥ = cc in u)
    by false h g = count_is (λ f. is_key_of p.master p.slave p.bits (Some f) && not (was_handed v.handed (name_of f) p.master)) v.facts ∙ none v.facts h
