-- A list that is made lane by lane is in order of lane.
use Rattle.std.proofs.Common.{◌≡◌, ℕ, zero, suc, ◌*◌, ◌≤◌, true, List, [], ◌∷◌, ◌++◌, map, refl, sym, ◌∙◌, ap, subst, append_assoc, append-nil, arith}
use Rattle.std.specs.Prelude.{nat_le}
use Rattle.std.specs.List.{flat_map, AllByRecursion}
use Rattle.std.proofs.lemmas.Bool.Decides.{nat_tests}
use Rattle.std.proofs.lemmas.Grind.{flat_map-append}
use Rattle.qkd_base.specs.declared.lane.Way.TheVariants.{Up, Down}
use Rattle.qkd_base.specs.declared.lane.Lane.{Lane}
use Rattle.net_model.specs.Site.{Site, count_up, lane_of as lane_at}
use Rattle.net_model.specs.BlockOrder.{lane_number, is_by_lane}
use Rattle.run_model.specs.Lines.{all_lanes}
use Rattle.law_base.proofs.Base.{and_left, and_right, and_both}
use Rattle.law_base.proofs.Lists.{all_both}
use Rattle.law_locality.proofs.Lists.{all_weaker}
use Rattle.law_parallel.proofs.Lanes.{lanes_of, lanes_below, AreOn}

chained : (a b c : ℕ) → a ≤ b → b ≤ c → nat_le a c ≡ true
chained a b c h k = grind (arith, nat_tests)

module _ {A : Type 0} (lane : A → Lane) where
  abbrev AreUpTo : ℕ → List A → Type 0
  AreUpTo n xs = AllByRecursion (λ (x : A). lane_number (lane x) ≤ n) xs

  abbrev AreFrom : ℕ → List A → Type 0
  AreFrom n xs = AllByRecursion (λ (x : A). n ≤ lane_number (lane x)) xs

  -- Two lists in order of lane, where the first has no later lane than the second, are in order when concatenated.
  both_in_order : (n : ℕ) (xs ys : List A) → AreUpTo n xs → AreFrom n ys → is_by_lane (map lane xs) ≡ true → is_by_lane (map lane ys) ≡ true → is_by_lane (map lane (xs ++ ys)) ≡ true
  both_in_order n [] ys h k a b = b
  both_in_order n (x ∷ []) [] h k a b = refl
  both_in_order n (x ∷ []) (y ∷ ys) h k a b =
      and_both (nat_le (lane_number (lane x)) (lane_number (lane y))) (is_by_lane (map lane (y ∷ ys))) (chained (lane_number (lane x)) n (lane_number (lane y)) h.0 k.0) b
  both_in_order n (x ∷ z ∷ xs) ys h k a b =
      let first = nat_le (lane_number (lane x)) (lane_number (lane z)) in
      and_both first (is_by_lane (map lane (z ∷ xs ++ ys))) (and_left first (is_by_lane (map lane (z ∷ xs))) a)
      (both_in_order n (z ∷ xs) ys h.1 k (and_right first (is_by_lane (map lane (z ∷ xs))) a) b)

  one_lane : (l : Lane) (xs : List A) → AreOn lane l xs → is_by_lane (map lane xs) ≡ true
  one_lane l [] h = refl
  one_lane l (x ∷ []) h = refl
  one_lane l (x ∷ y ∷ xs) h =
      and_both (nat_le (lane_number (lane x)) (lane_number (lane y))) (is_by_lane (map lane (y ∷ xs)))
      (same (lane_number (lane x)) (lane_number (lane y)) (ap lane_number (h.0 ∙ sym h.1.0))) (one_lane l (y ∷ xs) h.1)
    where
      same : (a b : ℕ) → a ≡ b → nat_le a b ≡ true
      same a b h = grind (arith, nat_tests)

  all_as : (l : Lane) (P : ℕ → Type 0) → P (lane_number l) → (xs : List A) → AreOn lane l xs → AllByRecursion (λ (x : A). P (lane_number (lane x))) xs
  all_as l P h xs on = all_weaker (λ (x : A). lane x ≡ l) (λ (x : A). P (lane_number (lane x))) (λ x e. subst (λ (k : Lane). P (lane_number k)) (sym e) h) xs on

  module _ (f : Lane → List A) (mine : (l : Lane) → AreOn lane l (f l)) where
    record Ordered (n : ℕ) : Type 0 where
      order : is_by_lane (map lane (flat_map f (lanes_below n))) ≡ true
      upto : AreUpTo (2 * n) (flat_map f (lanes_below n))

    one_link : (n : ℕ) → Ordered n → Ordered (suc n)
    one_link n h =
        let low : List A = flat_map f (lanes_below n) in
        let up : List A = f (lane_at n Up) in
        let down : List A = f (lane_at n Down) in
        let split : flat_map f (lanes_below (suc n)) ≡ (low ++ up) ++ down =
        ap (flat_map f) (flat_map-append lanes_of (count_up n) (n ∷ [])) ∙ flat_map-append f (lanes_below n) (lane_at n Up ∷ lane_at n Down ∷ [])
        ∙ ap (λ (xs : List A). low ++ (up ++ xs)) (append-nil down) ∙ sym (append_assoc low up down) in
        let low_up : is_by_lane (map lane (low ++ up)) ≡ true =
        both_in_order (2 * n) low up h.upto (all_as (lane_at n Up) (λ m. 2 * n ≤ m) (omega arith) up (mine (lane_at n Up))) h.order (one_lane (lane_at n Up) up (mine (lane_at n Up))) in
        let all_up : AreUpTo (2 * n) (low ++ up) =
        all_both (λ (x : A). lane_number (lane x) ≤ 2 * n) low up h.upto (all_as (lane_at n Up) (λ m. m ≤ 2 * n) (omega arith) up (mine (lane_at n Up))) in
        let all_down : AreUpTo (2 * suc n) ((low ++ up) ++ down) =
        all_both (λ (x : A). lane_number (lane x) ≤ 2 * suc n) (low ++ up) down (all_weaker (λ (x : A). lane_number (lane x) ≤ 2 * n) (λ (x : A). lane_number (lane x) ≤ 2 * suc n) (λ x e. omega (arith, e)) (low ++ up) all_up)
        (all_as (lane_at n Down) (λ m. m ≤ 2 * suc n) (omega arith) down (mine (lane_at n Down))) in
        let in_order : is_by_lane (map lane ((low ++ up) ++ down)) ≡ true =
        both_in_order (2 * n) (low ++ up) down all_up (all_as (lane_at n Down) (λ m. 2 * n ≤ m) (omega arith) down (mine (lane_at n Down))) low_up (one_lane (lane_at n Down) down (mine (lane_at n Down))) in
        record { order = ap (λ (xs : List A). is_by_lane (map lane xs)) split ∙ in_order; upto = subst (AreUpTo (2 * suc n)) (sym split) all_down }

    ordered : (n : ℕ) → Ordered n
    ordered zero = record { order = refl; upto = tt }
    ordered (suc n) = one_link n (ordered n)

    pub lanes_in_order : (s : Site) → is_by_lane (map lane (flat_map f (all_lanes s))) ≡ true
    lanes_in_order s = (ordered s.links).order
