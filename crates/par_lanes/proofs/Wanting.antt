-- The frames that a plan sends on one lane.
use Rattle.std.proofs.Common.{◌≡◌, ◌⊎◌, ℕ, suc, ◌+◌, ◌<◌, ◌≤◌, Bool, true, false, List, [], ◌∷◌, ◌++◌, length, map, take, drop, get_or, cond, eqb, refl, sym, ap, ◌∙◌, arith, inl, inr}
use Rattle.std.specs.Prelude.{filter}
use Rattle.std.specs.List.{sum_by}
use Rattle.std.proofs.lemmas.List.{map-append, take_more}
use Rattle.std.proofs.lemmas.List.Sums.{sum_by-append, sum_by-cons}
use Rattle.std.proofs.lemmas.List.Elements.{filter-append}
use Rattle.std.proofs.lemmas.Bool.Decides.{eqb_tells}
use Rattle.std.proofs.Math.Seq.{drop-cons}
use Rattle.qkd_base.specs.Lane.{lane_place}
use Rattle.net_model.specs.declared.order.Order.{Order}
use Rattle.net_model.specs.Tick.{Emission, New}
use Rattle.par_lanes.specs.Wants.{lane_for, is_at, turns_for, bytes_for, turns_at, bytes_at}

same_case : (n : ℕ) → ((eqb n n ≡ true) × (n ≡ n)) ⊎ ((eqb n n ≡ false) × (n ≡ n → ⊥)) → eqb n n ≡ true
same_case n (inl (t, e)) = t
same_case n (inr (f, other)) = absurd (other refl)

pub eqb_same : (n : ℕ) → eqb n n ≡ true
eqb_same n = same_case n (eqb_tells n n)

pub is_here : (e : Emission) → is_at (lane_place (lane_for e)) e ≡ true
is_here e = eqb_same (lane_place (lane_for e))

module _ (f : Emission → ℕ) (i : ℕ) (e : Emission) (es : List Emission) where
  pub sum_here : is_at i e ≡ true → sum_by f (filter (is_at i) (e ∷ es)) ≡ f e + sum_by f (filter (is_at i) es)
  sum_here t = ap (λ (b : Bool). sum_by f (cond b (e ∷ filter (is_at i) es) (filter (is_at i) es))) t ∙ sum_by-cons f e (filter (is_at i) es)

  pub sum_past : is_at i e ≡ false → sum_by f (filter (is_at i) (e ∷ es)) ≡ sum_by f (filter (is_at i) es)
  sum_past t = ap (λ (b : Bool). sum_by f (cond b (e ∷ filter (is_at i) es) (filter (is_at i) es))) t

pub turns_more : (i : ℕ) (xs ys : List Emission) → turns_at i (xs ++ ys) ≡ turns_at i xs + turns_at i ys
turns_more i xs ys = ap (sum_by turns_for) (filter-append (is_at i) xs ys) ∙ sum_by-append turns_for (filter (is_at i) xs) (filter (is_at i) ys)

pub bytes_more : (i : ℕ) (xs ys : List Emission) → bytes_at i (xs ++ ys) ≡ bytes_at i xs + bytes_at i ys
bytes_more i xs ys = ap (sum_by bytes_for) (filter-append (is_at i) xs ys) ∙ sum_by-append bytes_for (filter (is_at i) xs) (filter (is_at i) ys)

-- ---- a list, read up to its next item
module _ {A : Type 0} (xs : List A) (i : ℕ) (x : A) (below : i < length xs) (is : x ≡ get_or xs i x) where
  pub taken : take (i + 1) xs ≡ take i xs ++ x ∷ []
  taken = take_more xs i x below ∙ ap (λ (y : A). take i xs ++ y ∷ []) (sym is)

  pub left : drop i xs ≡ x ∷ drop (i + 1) xs
  left =
      let next : suc i ≡ i + 1 = omega arith in
      drop-cons xs i x below ∙ ap (λ (y : A). y ∷ drop (suc i) xs) (sym is) ∙ ap (λ (n : ℕ). x ∷ drop n xs) next

  module _ (mk : A → Emission) where
    pub take_on : map mk (take (i + 1) xs) ≡ map mk (take i xs) ++ mk x ∷ []
    take_on = ap (map mk) taken ∙ map-append mk (take i xs) (x ∷ [])

    pub drop_on : (es : List Emission) → map mk (drop i xs) ++ es ≡ mk x ∷ (map mk (drop (i + 1) xs) ++ es)
    drop_on es = ap (λ (ys : List A). map mk ys ++ es) left

-- An order takes two turns of its own lane, and none of another.
few_case : (i : ℕ) (o : Order) → ((eqb (lane_place o.lane) i ≡ true) × (lane_place o.lane ≡ i)) ⊎ ((eqb (lane_place o.lane) i ≡ false) × (lane_place o.lane ≡ i → ⊥)) → turns_at i (New o ∷ []) ≤ 2
few_case i o (inl (b, same)) = let sum = sum_here turns_for i (New o) [] b in omega (arith, sum)
few_case i o (inr (b, other)) = let sum = sum_past turns_for i (New o) [] b in omega (arith, sum)

pub few_turns : (i : ℕ) (o : Order) → turns_at i (New o ∷ []) ≤ 2
few_turns i o = few_case i o (eqb_tells (lane_place o.lane) i)
