-- How the stocks of pools change with an item.
use Rattle.std.proofs.Common.{◌≡◌, ℕ, Bool, true, false, ◌&&◌, cond, eqb, eqb-true, List, ◌∷◌, Option, Some, None, refl, sym, ap, ◌∙◌, inl, inr}
use Rattle.std.specs.Prelude.{unwrap_or}
use Rattle.std.specs.Ordering.{nat_cmp}
use Rattle.std.specs.Cmp.Lexicographic.{slice_cmp}
use Rattle.std.specs.BTreeMap.{Updates}
use Rattle.std.specs.Str.{bytes_eq}
use Rattle.std.proofs.lemmas.Map.Text.{is_eq-slice_cmp}
use Rattle.std.proofs.lemmas.Bool.{cases_Bool, and_parts}
use Rattle.run_audit.specs.Table.{at}
use Rattle.run_audit.proofs.Keys.{and_true}
use Rattle.run_types.specs.declared.scenario.Scenario.{Scenario}
use Rattle.run_types.specs.declared.item.NumberedItem.{NumberedItem}
use Rattle.item_audit.specs.declared.stocks.Pool.{Pool}
use Rattle.item_audit.specs.declared.stocks.Change.{Change}
use Rattle.item_audit.specs.Stocks.{pool_eq}
use Rattle.whole_audit.specs.declared.pools.Stock.{Stock}
use Rattle.whole_audit.specs.declared.pools.Pools.{Pools}
use Rattle.whole_audit.specs.Pools.{no_stock, stock_with, stock_behind, change, stock_of}
use Rattle.whole_audit.specs.Kept.{pool_key, stock_at, AreStocked}

pool_keys : (p q : Pool) → bytes_eq (pool_key p) (pool_key q) ≡ pool_eq p q
pool_keys p q = ap (λ (b : Bool). eqb p.master q.master && (eqb p.slave q.slave && b)) (and_true (eqb p.bits q.bits))

pool_same : (p q : Pool) → pool_eq p q ≡ true → p ≡ q
pool_same p q h =
    let outer = and_parts (eqb p.master q.master) (eqb p.slave q.slave && eqb p.bits q.bits) h in
    let inner = and_parts (eqb p.slave q.slave) (eqb p.bits q.bits) outer.1 in
    let masters : p.master ≡ q.master = eqb-true p.master q.master outer.0 in
    let slaves : p.slave ≡ q.slave = eqb-true p.slave q.slave inner.0 in
    let sizes : p.bits ≡ q.bits = eqb-true p.bits q.bits inner.1 in
    λ i. record { master = masters i; slave = slaves i; bits = sizes i }

-- A table with one more stock has it at its pool, and the earlier ones elsewhere.
pub stocks_put : (old new : Pools) (p : Pool) (k : Stock) → Updates (slice_cmp nat_cmp) old.stocks new.stocks (pool_key p) (Some k) → (q : Pool) → stock_at new q ≡ cond (pool_eq p q) k (stock_at old q)
stocks_put old new p k updates q =
    ap (λ (o : Option Stock). unwrap_or o no_stock) (updates.0 (pool_key q) ∙ ap (λ (b : Bool). cond b (Some k) (at old.stocks (pool_key q))) (is_eq-slice_cmp (pool_key p) (pool_key q) ∙ pool_keys p q))
    ∙ inside (pool_eq p q) (at old.stocks (pool_key q))
  where
    inside : (b : Bool) (o : Option Stock) → unwrap_or (cond b (Some k) o) no_stock ≡ cond b k (unwrap_or o no_stock)
    inside true o = refl
    inside false o = refl

pub stocked_none : (s : Scenario) (ps : Pools) (t : NumberedItem) (before : List NumberedItem) → None ≡ change s t → AreStocked s ps before → AreStocked s ps (t ∷ before)
stocked_none s ps t before none h q = h q ∙ ap (λ (o : Option Change). stock_behind o q (stock_of s q before)) none

pub stocked_some : (s : Scenario) (old new : Pools) (c : Change) (t : NumberedItem) (before : List NumberedItem) → Some c ≡ change s t → AreStocked s old before
    → (k : Stock) → k ≡ stock_with c (stock_of s c.pool before) → ((q : Pool) → stock_at new q ≡ cond (pool_eq c.pool q) k (stock_at old q)) → AreStocked s new (t ∷ before)
stocked_some s old new c t before some h k is put q = for_pool ∙ ap (λ (o : Option Change). stock_behind o q (stock_of s q before)) some
  where
    for_pool : stock_at new q ≡ cond (pool_eq c.pool q) (stock_with c (stock_of s q before)) (stock_of s q before)
    for_pool = elim (cases_Bool (pool_eq c.pool q)) [
      | inl same ↦
          put q
          ∙ ap (λ (b : Bool). cond b k (stock_at old q)) same
          ∙ is
          ∙ ap (λ (p : Pool). stock_with c (stock_of s p before)) (pool_same c.pool q same)
          ∙ sym (ap (λ (b : Bool). cond b (stock_with c (stock_of s q before)) (stock_of s q before)) same)
      | inr other ↦
          put q
          ∙ ap (λ (b : Bool). cond b k (stock_at old q)) other
          ∙ h q
          ∙ sym (ap (λ (b : Bool). cond b (stock_with c (stock_of s q before)) (stock_of s q before)) other)
    ]
