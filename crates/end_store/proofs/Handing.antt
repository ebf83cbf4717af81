-- What handing out a key changes in the numbers of pools, and in what waits.
use Rattle.std.proofs.Common.{◌≡◌, ℕ, ◌≤◌, Bool, true, false, ◌&&◌, ◌||◌, List, [], ◌∷◌, ◌++◌, length, refl, sym, ◌∙◌, ap, subst, Option, Some, None}
use Rattle.std.specs.Prelude.{◌==◌, if◌then◌else◌, IfSome}
use Rattle.std.specs.List.{list_any}
use Rattle.std.proofs.lemmas.List.Folds.{list_any-append}
use Rattle.qkd_base.specs.Name.{Name, name_eq}
use Rattle.net_model.specs.declared.fact.Fact.{Fact}
use Rattle.net_model.specs.declared.fact.Fact.TheVariants.{Key, Chunk, Stored, Open, Joined, Part}
use Rattle.net_model.specs.Table.{fact_at, was_handed, is_stored_about}
use Rattle.net_model.specs.Fold.{marked}
use Rattle.relay_core.specs.Knowledge.{AreDistinct}
use Rattle.end_store.specs.declared.pool.Pool.{Pool}
use Rattle.end_store.specs.declared.pool.Line.TheVariants.{Keys}
use Rattle.end_store.specs.Waiting.{is_taken, is_own, pool_of, line_entry, count_entry, brought_entry, AreWaiting}
use Rattle.end_store.specs.Stocked.{AreStocks, LowersBy, stock_at, key_pool}
use Rattle.end_store.specs.Readied.{AreReady, ready_pool, ready_pool_of}
use Rattle.end_store.proofs.Stocked.{handing_none, handing_absent, handing_some, handing_less}
use Rattle.end_store.proofs.Readied.{unready_none, unready_absent, unready_some, unready_less}

-- if the set of pairs grows by adding a pair, the pair wasn't in it
pub was_new : (hs after : List (Name × ℕ)) (n : Name) (x : ℕ) → after ≡ marked hs n x → (length after ≡ length hs → ⊥) → was_handed hs n x ≡ false
was_new hs after n x is more = by (was_handed hs n x) refl
  where
    by : (b : Bool) → was_handed hs n x ≡ b → was_handed hs n x ≡ false
    by false e = e
    by true e = absurd (more (ap (λ (ps : List (Name × ℕ)). length ps) (is ∙ ap (λ (b : Bool). if b then hs else hs ++ (n, x) ∷ []) e)))

-- if a disjunction is false, its first test is false

left_false : (a b : Bool) → (a || b) ≡ false → a ≡ false
left_false true b h = cc
left_false false b h = refl

fewer_handed : (hs : List (Name × ℕ)) (n m : Name) (x y : ℕ) (b : Bool) → was_handed (if b then hs else hs ++ (n, x) ∷ []) m y ≡ false → was_handed hs m y ≡ false
fewer_handed hs n m x y true h = h
fewer_handed hs n m x y false h =
    left_false (was_handed hs m y) (was_handed ((n, x) ∷ []) m y) (sym (list_any-append (λ (p : Name × ℕ). name_eq p.0 m && (p.1 == y)) hs ((n, x) ∷ [])) ∙ h)

untaken : (hs : List (Name × ℕ)) (n : Name) (x : ℕ) (f : Fact) → is_taken (marked hs n x) f ≡ false → is_taken hs f ≡ false
untaken hs n x (Key name m s route bytes) h = fewer_handed hs n name x m (was_handed hs n x) h
untaken hs n x (Part name key m s route bytes) h = fewer_handed hs n key x m (was_handed hs n x) h
untaken hs n x (Chunk name stream index route bytes) h = h
untaken hs n x (Stored note about route) h = h
untaken hs n x (Open stream source peer size route) h = h
untaken hs n x (Joined note about route) h = h

pub waiting_marked : (me : ℕ) (facts : List Fact) (hs after : List (Name × ℕ)) (n : Name) (x : ℕ) (es : List (List ℕ)) (count : ℕ) → after ≡ marked hs n x → AreWaiting me facts hs es count → AreWaiting me facts after es count
waiting_marked me facts hs after n x es count is waiting = subst (λ (ps : List (Name × ℕ)). AreWaiting me facts ps es count) (sym is) (record {
  within = waiting.within;
  complete = λ l c i f lt at stands free noted. waiting.complete l c i f lt at stands (untaken hs n x f free) noted;
})

-- the key of another node brings no entry by count
pub not_brought : (me : ℕ) (facts : List Fact) (handed : List (Name × ℕ)) (name : Name) (m s : ℕ) (route bytes : List ℕ) → is_own me name ≡ false →
    ◌≡◌ {A = Option (List ℕ)} None (brought_entry me facts handed (Key name m s route bytes))
not_brought me facts handed name m s route bytes h = by (list_any (is_stored_about name) facts)
  where
    by : (b : Bool) → ◌≡◌ {A = Option (List ℕ)} None (if b then count_entry me (Key name m s route bytes) else None)
    by true = sym (ap (λ (b : Bool). if b then Some (line_entry (Keys (pool_of m s bytes)) name.count) else None) h)
    by false = refl

-- a name without a fact has no pool of ready keys
pub none_ready : (me : ℕ) (facts : List Fact) (n : Name) → ◌≡◌ {A = Option Pool} None (ready_pool me facts n None)
none_ready me facts n = elim (is_own me n && list_any (is_stored_about n) facts) as (λ b. ◌≡◌ {A = Option Pool} None (if b then None else None)) [ true ↦ refl | false ↦ refl ]

-- when a key is handed out, the number of its pool is at least 1

pub stock_some : (facts : List Fact) (handed : List (Name × ℕ)) (n : Name) (x : ℕ) → AreDistinct facts → was_handed handed n x ≡ false → (old : List (List ℕ × ℕ)) → AreStocks facts handed old →
    (o : Option Pool) → o ≡ key_pool x (fact_at facts n) → IfSome o (λ p. (k : ℕ) → stock_at old p ≡ Some k → 1 ≤ k)
stock_some facts handed n x d fresh old right None is = tt
stock_some facts handed n x d fresh old right (Some q) is = λ k e. handing_some facts handed n x d fresh old right q is k (sym e)

pub lowered_stocks : (facts : List Fact) (handed : List (Name × ℕ)) (n : Name) (x : ℕ) → AreDistinct facts → was_handed handed n x ≡ false → (old new : List (List ℕ × ℕ)) → AreStocks facts handed old →
    (o : Option Pool) → o ≡ key_pool x (fact_at facts n) → LowersBy old new o → AreStocks facts (marked handed n x) new
lowered_stocks facts handed n x d fresh old new right None is same = subst (AreStocks facts (marked handed n x)) (sym same) (handing_none facts handed n x d fresh old right is)
lowered_stocks facts handed n x d fresh old new right (Some q) is lowered = by (stock_at old q) refl
  where
    by : (o : Option ℕ) → stock_at old q ≡ o → AreStocks facts (marked handed n x) new
    by None e = subst (AreStocks facts (marked handed n x)) (sym (lowered.absent e)) (handing_absent facts handed n x d fresh old right q is (sym e))
    by (Some k) e = handing_less facts handed n x d fresh old right q is k new (sym e) (lowered.less k e)

pub ready_some : (me : ℕ) (facts : List Fact) (handed : List (Name × ℕ)) (n : Name) (x : ℕ) → AreDistinct facts → was_handed handed n x ≡ false → (old : List (List ℕ × ℕ)) → AreReady me facts handed old →
    (o : Option Pool) → o ≡ ready_pool_of me facts n x → IfSome o (λ p. (k : ℕ) → stock_at old p ≡ Some k → 1 ≤ k)
ready_some me facts handed n x d fresh old right None is = tt
ready_some me facts handed n x d fresh old right (Some q) is = λ k e. unready_some me facts handed n x d fresh old right q is k (sym e)

pub lowered_ready : (me : ℕ) (facts : List Fact) (handed : List (Name × ℕ)) (n : Name) (x : ℕ) → AreDistinct facts → was_handed handed n x ≡ false → (old new : List (List ℕ × ℕ)) → AreReady me facts handed old →
    (o : Option Pool) → o ≡ ready_pool_of me facts n x → LowersBy old new o → AreReady me facts (marked handed n x) new
lowered_ready me facts handed n x d fresh old new right None is same = subst (AreReady me facts (marked handed n x)) (sym same) (unready_none me facts handed n x d fresh old right is)
lowered_ready me facts handed n x d fresh old new right (Some q) is lowered = by (stock_at old q) refl
  where
    by : (o : Option ℕ) → stock_at old q ≡ o → AreReady me facts (marked handed n x) new
    by None e = subst (AreReady me facts (marked handed n x)) (sym (lowered.absent e)) (unready_absent me facts handed n x d fresh old right q is (sym e))
    by (Some k) e = unready_less me facts handed n x d fresh old right q is k new (sym e) (lowered.less k e)
