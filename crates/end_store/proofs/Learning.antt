-- The store's invariant with one more fact.
use Rattle.std.proofs.Common.{◌≡◌, ℕ, ◌-◌, Bool, true, false, not, List, [], ◌∷◌, ◌++◌, length, length-append, take, refl, sym, ◌∙◌, ap, subst, arith, Option, Some}
use Rattle.std.specs.Prelude.{slice_get, if◌then◌else◌}
use Rattle.std.proofs.lemmas.List.{take-append-le, take_all}
use Rattle.qkd_base.specs.Name.{Name}
use Rattle.net_model.specs.declared.fact.Fact.{Fact}
use Rattle.net_model.specs.Table.{name_of, has_fact, learned}
use Rattle.end_store.specs.declared.pool.Pool.{Pool}
use Rattle.end_store.specs.Waiting.{AreWaiting}
use Rattle.end_store.specs.Stocked.{AreStocks, all_but_last, last_of_facts}
use Rattle.end_store.specs.Readied.{AreReady, readied_pool}
use Rattle.end_store.specs.Store.{IsStore}
use Rattle.end_store.proofs.Lines.{waiting_push}

front_of : (facts : List Fact) (f : Fact) → all_but_last (facts ++ f ∷ []) ≡ facts
front_of facts f =
    let size = length-append facts (f ∷ []) in
    let k : length (facts ++ f ∷ []) - 1 ≡ length facts = omega arith in
    ap (λ (n : ℕ). take n (facts ++ f ∷ [])) k ∙ take-append-le (length facts) facts (f ∷ []) (omega arith) ∙ take_all (length facts) facts (omega arith)

last_of : (facts : List Fact) (f : Fact) → last_of_facts (facts ++ f ∷ []) ≡ Some f
last_of facts f =
    let size = length-append facts (f ∷ []) in
    let k : length (facts ++ f ∷ []) - 1 ≡ length facts = omega arith in
    ap (slice_get (facts ++ f ∷ [])) k ∙ by facts
  where
    by : (fs : List Fact) → slice_get (fs ++ f ∷ []) (length fs) ≡ Some f
    by [] = refl
    by (x ∷ xs) = by xs

not_there : (b : Bool) → true ≡ not b → b ≡ false
not_there true h = let t : true ≡ false = h in let u : ⊥ = cc in absurd u
not_there false h = refl

is_there : (b : Bool) → false ≡ not b → b ≡ true
is_there true h = refl
is_there false h = let t : false ≡ true = h in let u : ⊥ = cc in absurd u

module _ (me now : ℕ) (facts after : List Fact) (handed : List (Name × ℕ)) (f : Fact) (same : now ≡ me) (e : after ≡ learned facts f) where
  pub waiting_learned : (es : List (List ℕ)) (count : ℕ) → AreWaiting me facts handed es count → AreWaiting now after handed es count
  waiting_learned es count w = subst (λ (m : ℕ). AreWaiting m after handed es count) (sym same) (subst (λ (fs : List Fact). AreWaiting me fs handed es count) (sym e) (by (has_fact facts (name_of f))))
    where
      by : (b : Bool) → AreWaiting me (if b then facts else facts ++ f ∷ []) handed es count
      by true = w
      by false = waiting_push me facts handed es count f w

  module _ (new : Bool) (tells : new ≡ not (has_fact facts (name_of f))) where
    more : new ≡ true → after ≡ facts ++ f ∷ []
    more is = e ∙ ap (λ (b : Bool). if b then facts else facts ++ f ∷ []) (not_there (has_fact facts (name_of f)) (sym is ∙ tells))

    stays : new ≡ false → after ≡ facts
    stays is = e ∙ ap (λ (b : Bool). if b then facts else facts ++ f ∷ []) (is_there (has_fact facts (name_of f)) (sym is ∙ tells))

    before : new ≡ true → facts ≡ all_but_last after
    before is = sym (ap (λ (fs : List Fact). all_but_last fs) (more is) ∙ front_of facts f)

    pub stocks_before : new ≡ true → (stocks : List (List ℕ × ℕ)) → AreStocks facts handed stocks → AreStocks (all_but_last after) handed stocks
    stocks_before is stocks right = subst (λ (fs : List Fact). AreStocks fs handed stocks) (before is) right

    pub ready_before : new ≡ true → (readies : List (List ℕ × ℕ)) → AreReady me facts handed readies → AreReady now (all_but_last after) handed readies
    ready_before is readies right = subst (λ (m : ℕ). AreReady m (all_but_last after) handed readies) (sym same) (subst (λ (fs : List Fact). AreReady me fs handed readies) (before is) right)

    pub readied_before : new ≡ true → (o : Option Pool) → o ≡ readied_pool me facts handed (Some f) → o ≡ readied_pool now (all_but_last after) handed (last_of_facts after)
    readied_before is o h =
        h ∙ ap (λ (m : ℕ). readied_pool m facts handed (Some f)) (sym same)
        ∙ ap (λ (fs : List Fact). readied_pool now fs handed (Some f)) (before is)
        ∙ ap (readied_pool now (all_but_last after) handed) (sym (ap (λ (fs : List Fact). last_of_facts fs) (more is) ∙ last_of facts f))

    pub store_stays : new ≡ false → (es : List (List ℕ)) (count : ℕ) (stocks readies : List (List ℕ × ℕ)) → AreWaiting now after handed es count → AreStocks facts handed stocks → AreReady me facts handed readies →
        IsStore now after handed es count stocks readies
    store_stays is es count stocks readies w counted ready = record {
      waiting = w;
      counted = subst (λ (fs : List Fact). AreStocks fs handed stocks) (sym (stays is)) counted;
      ready = subst (λ (m : ℕ). AreReady m after handed readies) (sym same) (subst (λ (fs : List Fact). AreReady me fs handed readies) (sym (stays is)) ready);
    }
