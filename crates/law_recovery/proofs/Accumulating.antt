-- Lists that are built item by item, and records that build them: masking between the records changes nothing.
use Rattle.std.proofs.Common.{◌≡◌, ℕ, zero, suc, ◌+◌, ◌*◌, ◌/◌, ◌≤◌, Bool, true, List, [], ◌∷◌, ◌++◌, length, refl, sym, ◌∙◌, ap, subst, arith, map, take, drop, append-nil, append_assoc, length-drop}
use Rattle.net_model.specs.declared.record.Record.{Record}
use Rattle.net_model.specs.Journal.{batches_of}
use Rattle.net_model.specs.View.{View}
use Rattle.net_model.specs.Needed.{masked}
use Rattle.net_model.specs.Fold.{view_record, view_records, view_batches}

-- Each item may follow the items before it.
abbrev pub Accumulates : {A : Type 0} → (List A → A → Bool) → List A → List A → Type 0
Accumulates may done [] = Unit {0}
Accumulates may done (x ∷ xs) = (may done x ≡ true) × Accumulates may (done ++ x ∷ []) xs

pub one_after : {A : Type 0} (may : List A → A → Bool) (done xs : List A) (x : A) → Accumulates may done xs → may (done ++ xs) x ≡ true → Accumulates may done (xs ++ x ∷ [])
one_after {A} may done [] x h k = (subst (λ (ys : List A). may ys x ≡ true) (append-nil done) k, tt)
one_after {A} may done (y ∷ ys) x h k =
    (h.0, one_after may (done ++ y ∷ []) ys x h.1 (subst (λ (zs : List A). may zs x ≡ true) (sym (append_assoc done (y ∷ []) ys)) k))

pub accumulates_still : {A : Type 0} (may might : List A → A → Bool) → ((done : List A) (x : A) → may done x ≡ true → might done x ≡ true) → (done xs : List A) →
    Accumulates may done xs → Accumulates might done xs
accumulates_still may might more done [] h = tt
accumulates_still may might more done (x ∷ xs) h = (more done x h.0, accumulates_still may might more (done ++ x ∷ []) xs h.1)

-- Masking before each record and after the last one changes nothing.
abbrev pub StaysMasked : List Record → View → Type 0
StaysMasked [] v = masked v ≡ v
StaysMasked (r ∷ rs) v = (masked v ≡ v) × StaysMasked rs (view_record r v)

pub masked_then_more : (rs more : List Record) (v : View) → StaysMasked rs v → StaysMasked more (view_records rs v) → StaysMasked (rs ++ more) v
unfolding view_records
masked_then_more [] more v h k = k
masked_then_more (r ∷ rs) more v h k = (h.0, masked_then_more rs more (view_record r v) h.1 k)

pub records_then : (rs more : List Record) (v : View) → view_records (rs ++ more) v ≡ view_records more (view_records rs v)
unfolding view_records
records_then [] more v = refl
records_then (r ∷ rs) more v = records_then rs more (view_record r v)

-- Each item has a record that appends it.
module _ {A : Type 0} (spelled : A → Record) (with_these : List A → View) (may : List A → A → Bool)
    (one : (done : List A) (x : A) → may done x ≡ true → view_record (spelled x) (with_these done) ≡ with_these (done ++ x ∷ [])) where
  pub stage_goes : (done xs : List A) → Accumulates may done xs → view_records (map spelled xs) (with_these done) ≡ with_these (done ++ xs)
  unfolding view_records
  stage_goes done [] h = ap with_these (sym (append-nil done))
  stage_goes done (x ∷ xs) h =
      ap (view_records (map spelled xs)) (one done x h.0) ∙ stage_goes (done ++ x ∷ []) xs h.1 ∙ ap with_these (append_assoc done (x ∷ []) xs)

  pub stage_masked : (done xs : List A) → Accumulates may done xs → ((prefix rest : List A) → prefix ++ rest ≡ done ++ xs → masked (with_these prefix) ≡ with_these prefix) →
      StaysMasked (map spelled xs) (with_these done)
  stage_masked done [] h still = still done [] refl
  stage_masked done (x ∷ xs) h still = (
    still done (x ∷ xs) refl,
    subst (StaysMasked (map spelled xs)) (sym (one done x h.0)) (stage_masked (done ++ x ∷ []) xs h.1 (λ prefix rest e. still prefix rest (e ∙ append_assoc done (x ∷ []) xs))),
  )

-- Lemmas on records that are split into batches.

prefix_masked : (k : ℕ) (rs : List Record) (v : View) → StaysMasked rs v → masked (view_records (take k rs) v) ≡ view_records (take k rs) v
unfolding view_records
prefix_masked zero [] v h = h
prefix_masked zero (r ∷ rs) v h = h.0
prefix_masked (suc k) [] v h = h
prefix_masked (suc k) (r ∷ rs) v h = prefix_masked k rs (view_record r v) h.1

rest_masked : (k : ℕ) (rs : List Record) (v : View) → StaysMasked rs v → StaysMasked (drop k rs) (view_records (take k rs) v)
unfolding view_records
rest_masked zero [] v h = h
rest_masked zero (r ∷ rs) v h = h
rest_masked (suc k) [] v h = h
rest_masked (suc k) (r ∷ rs) v h = rest_masked k rs (view_record r v) h.1

rest_goes : (k : ℕ) (rs : List Record) (v : View) → view_records (drop k rs) (view_records (take k rs) v) ≡ view_records rs v
unfolding view_records
rest_goes zero [] v = refl
rest_goes zero (r ∷ rs) v = refl
rest_goes (suc k) [] v = refl
rest_goes (suc k) (r ∷ rs) v = rest_goes k rs (view_record r v)

module _ (size : ℕ) where
  abbrev pub cut : ℕ → List Record → List (List Record)
  cut zero rs = []
  cut (suc n) rs = take size rs ∷ cut n (drop size rs)

  cut_goes : (n : ℕ) (rs : List Record) (v : View) → StaysMasked rs v → length rs ≤ size * n → view_batches v (cut n rs) ≡ view_records rs v
  unfolding view_records
  cut_goes zero [] v h few = refl
  cut_goes zero (r ∷ rs) v h few = absurd (omega arith)
  cut_goes (suc n) rs v h few =
      let next : View = view_records (take size rs) v in
      let fewer : length (drop size rs) ≤ size * n = omega (arith, few, length-drop size rs) in
      ap (λ (x : View). view_batches x (cut n (drop size rs))) (prefix_masked size rs v h) ∙
      cut_goes n (drop size rs) next (rest_masked size rs v h) fewer ∙ rest_goes size rs v

is_cut : (n : ℕ) (rs : List Record) → batches_of n rs ≡ cut 65535 n rs
unfolding batches_of
is_cut zero rs = refl
is_cut (suc n) rs = ap (λ (bs : List (List Record)). take 65535 rs ∷ bs) (is_cut n (drop 65535 rs))

-- The batches of a checkpoint do what its records do in sequence.
pub batches_go : (rs : List Record) (v : View) → StaysMasked rs v → view_batches v (batches_of ((length rs + 65534) / 65535) rs) ≡ view_records rs v
batches_go rs v h =
    ap (view_batches v) (is_cut ((length rs + 65534) / 65535) rs) ∙ cut_goes 65535 ((length rs + 65534) / 65535) rs v h (omega arith)
