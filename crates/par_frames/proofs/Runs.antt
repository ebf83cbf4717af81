-- A sorted list is grouped by place, and sorted frames are grouped by lane.
use Rattle.std.proofs.Common.{◌≡◌, ℕ, zero, suc, ◌+◌, ◌*◌, ◌<◌, ◌≤◌, Bool, true, false, List, [], ◌∷◌, ◌++◌, refl, sym, ◌∙◌, ap, append_assoc, arith}
use Rattle.std.specs.Prelude.{◌==◌, nat_lt, cond, filter}
use Rattle.std.specs.List.{flat_map, AllByRecursion}
use Rattle.std.specs.List.Sorted.{IsNonDecreasingBy}
use Rattle.std.proofs.lemmas.Bool.{lt-ltb, ltb-true}
use Rattle.std.proofs.lemmas.Bool.Decides.{nat_tests}
use Rattle.std.proofs.lemmas.Grind.{flat_map-append}
use Rattle.std.proofs.lemmas.List.{append-nil}
use Rattle.std.proofs.lemmas.List.Elements.{recursion_from_All}
use Rattle.qkd_base.specs.Lane.{lane_place}
use Rattle.qkd_base.specs.declared.lane.Lane.{Lane}
use Rattle.qkd_base.specs.declared.lane.Way.{Way}
use Rattle.qkd_base.specs.declared.lane.Way.TheVariants.{Up, Down}
use Rattle.net_model.specs.Site.{Site, count_up, lane_of}
use Rattle.net_model.specs.Events.{is_lane}
use Rattle.run_model.specs.Lines.{all_lanes}
use Rattle.par_lanes.specs.declared.emitted.Emitted.{Emitted}
use Rattle.par_frames.specs.Sorting.{IsSortedByBoth}
use Rattle.par_frames.specs.Telling.{on_lane}
use Rattle.par_frames.proofs.Sorted.{places_rise}

module _ {A : Type 0} (place : A → ℕ) where
  abbrev pub Below : ℕ → List A → List A
  Below n xs = filter (λ x. nat_lt (place x) n) xs

  abbrev pub Here : ℕ → List A → List A
  Here n xs = filter (λ x. place x == n) xs

  abbrev From : ℕ → List A → Type 0
  From n xs = AllByRecursion (λ x. n ≤ place x) xs

  abbrev pub Rise : List A → Type 0
  Rise [] = Unit {0}
  Rise (x ∷ xs) = From (place x) xs × Rise xs

  pub rise : (xs : List A) → IsNonDecreasingBy place xs → Rise xs
  rise [] up = tt
  rise (x ∷ xs) up = (
    recursion_from_All (λ y. place x ≤ place y) xs (λ k d lt. up zero (suc k) d (omega arith) (omega (arith, lt))),
    rise xs (λ i j d le lt. up (suc i) (suc j) d (omega (arith, le)) (omega (arith, lt))),
  )

  none_below : (n : ℕ) (xs : List A) → From n xs → Below n xs ≡ []
  none_below n [] h = refl
  none_below n (x ∷ xs) h =
      let none : nat_lt (place x) n ≡ false = at_least (place x) n h.0 in
      ap (λ (t : Bool). cond t (x ∷ Below n xs) (Below n xs)) none ∙ none_below n xs h.1
    where
      at_least : (a b : ℕ) → b ≤ a → nat_lt a b ≡ false
      at_least a b le = grind (arith, nat_tests)

  further : (m n : ℕ) → m ≤ n → (xs : List A) → From n xs → From m xs
  further m n le [] h = tt
  further m n le (x ∷ xs) h = (let at = h.0 in omega (arith, le, at), further m n le xs h.1)

  less_next : (a n : ℕ) → (a == n) ≡ false → nat_lt a (n + 1) ≡ nat_lt a n
  less_next a n h = grind (arith, nat_tests)

  same_next : (a n : ℕ) → (a == n) ≡ true → nat_lt a (n + 1) ≡ true
  same_next a n h = grind (arith, nat_tests)

  is_same : (a n : ℕ) → (a == n) ≡ true → a ≡ n
  is_same a n h = grind (arith, nat_tests)

  not_here : (n : ℕ) (xs : List A) → From (n + 1) xs → Here n xs ≡ []
  not_here n [] h = refl
  not_here n (x ∷ xs) h =
      let none : (place x == n) ≡ false = above (place x) h.0 in
      ap (λ (t : Bool). cond t (x ∷ Here n xs) (Here n xs)) none ∙ not_here n xs h.1
    where
      above : (a : ℕ) → n + 1 ≤ a → (a == n) ≡ false
      above a le = grind (arith, nat_tests)

  -- The elements below place n + 1 are those below place n, followed by those at place n.
  pub one_more : (n : ℕ) (xs : List A) → Rise xs → Below (n + 1) xs ≡ Below n xs ++ Here n xs
  one_more n [] r = refl
  one_more n (x ∷ xs) r =
      let rest = one_more n xs r.1 in
      elim (place x == n) as (λ t. (place x == n) ≡ t → cond (nat_lt (place x) (n + 1)) (x ∷ Below (n + 1) xs) (Below (n + 1) xs) ≡ cond (nat_lt (place x) n) (x ∷ Below n xs) (Below n xs) ++ cond t (x ∷ Here n xs) (Here n xs)) [
        | true ↦ λ e.
            let same = is_same (place x) n e in
            let none = none_below n xs (further n (place x) (omega (arith, same)) xs r.0) in
            let whole = none_below n (x ∷ xs) (omega (arith, same), further n (place x) (omega (arith, same)) xs r.0) in
            ap (λ (t : Bool). cond t (x ∷ Below (n + 1) xs) (Below (n + 1) xs)) (same_next (place x) n e)
            ∙ ap (λ (ys : List A). x ∷ ys) (rest ∙ ap (λ (ys : List A). ys ++ Here n xs) none) ∙ ap (λ (ys : List A). ys ++ x ∷ Here n xs) (sym whole)
        | false ↦ λ e.
            ap (λ (t : Bool). cond t (x ∷ Below (n + 1) xs) (Below (n + 1) xs)) (less_next (place x) n e) ∙ passed n x xs r rest e
      ] refl
    where
      passed : (n : ℕ) (x : A) (xs : List A) → Rise (x ∷ xs) → Below (n + 1) xs ≡ Below n xs ++ Here n xs → (place x == n) ≡ false →
          cond (nat_lt (place x) n) (x ∷ Below (n + 1) xs) (Below (n + 1) xs) ≡ cond (nat_lt (place x) n) (x ∷ Below n xs) (Below n xs) ++ Here n xs
      passed n x xs r rest e = elim (nat_lt (place x) n) as (λ t. cond t (x ∷ Below (n + 1) xs) (Below (n + 1) xs) ≡ cond t (x ∷ Below n xs) (Below n xs) ++ Here n xs) [
        | true ↦ ap (λ (ys : List A). x ∷ ys) rest
        | false ↦ rest
      ]

  pub all_below : (n : ℕ) (xs : List A) → AllByRecursion (λ x. place x < n) xs → Below n xs ≡ xs
  all_below n [] h = refl
  all_below n (x ∷ xs) h = ap (λ (t : Bool). cond t (x ∷ Below n xs) (Below n xs)) (lt-ltb (place x) n h.0) ∙ ap (λ (ys : List A). x ∷ ys) (all_below n xs h.1)

-- ---- lane by lane

abbrev at_lane : Emitted → ℕ
at_lane e = lane_place e.lane

abbrev two : ℕ → List Lane
two link = lane_of link Up ∷ lane_of link Down ∷ []

below_none : (xs : List Emitted) → Below at_lane (2 * 0) xs ≡ []
below_none [] = refl
below_none (x ∷ xs) =
    let none : nat_lt (at_lane x) (2 * 0) ≡ false = never (at_lane x) in
    ap (λ (t : Bool). cond t (x ∷ Below at_lane (2 * 0) xs) (Below at_lane (2 * 0) xs)) none ∙ below_none xs
  where
    never : (a : ℕ) → nat_lt a (2 * 0) ≡ false
    never a = grind (arith, nat_tests)

up_to : (links : ℕ) (xs : List Emitted) → Rise at_lane xs → flat_map (λ l. on_lane l xs) (flat_map two (count_up links)) ≡ Below at_lane (2 * links) xs
up_to zero xs r = sym (below_none xs)
up_to (suc n) xs r =
    let first = one_more at_lane (2 * n) xs r in
    let second = one_more at_lane (2 * n + 1) xs r in
    let none : 2 * n + 0 ≡ 2 * n = omega arith in
    let last : 2 * n + 1 + 1 ≡ 2 * suc n = omega arith in
    ap (flat_map (λ l. on_lane l xs)) (flat_map-append two (count_up n) (n ∷ []))
    ∙ flat_map-append (λ l. on_lane l xs) (flat_map two (count_up n)) (two n)
    ∙ (λ i. up_to n xs r i ++ (Here at_lane (none i) xs ++ append-nil (Here at_lane (2 * n + 1) xs) i))
    ∙ sym (append_assoc (Below at_lane (2 * n) xs) (Here at_lane (2 * n) xs) (Here at_lane (2 * n + 1) xs))
    ∙ ap (λ (ys : List Emitted). ys ++ Here at_lane (2 * n + 1) xs) (sym first) ∙ sym second ∙ ap (λ (m : ℕ). Below at_lane m xs) last

place_below : (link links : ℕ) (w : Way) → nat_lt link links ≡ true → lane_place (lane_of link w) < 2 * links
place_below link links Up h = let lt = ltb-true link links h in omega (arith, lt)
place_below link links Down h = let lt = ltb-true link links h in omega (arith, lt)

below_all : (s : Site) (xs : List Emitted) → AllByRecursion (λ (e : Emitted). is_lane s e.lane ≡ true) xs → AllByRecursion (λ (e : Emitted). at_lane e < 2 * s.links) xs
below_all s [] h = tt
below_all s (x ∷ xs) h = (place_below x.lane.link s.links x.lane.way h.0, below_all s xs h.1)

pub lane_by_lane : (s : Site) (xs : List Emitted) → AllByRecursion (λ (e : Emitted). is_lane s e.lane ≡ true) xs → IsSortedByBoth (λ (e : Emitted). lane_place e.lane) (λ (e : Emitted). e.at) xs →
    flat_map (λ l. on_lane l xs) (all_lanes s) ≡ xs
lane_by_lane s xs h sorted = up_to s.links xs (rise at_lane xs (places_rise at_lane (λ (e : Emitted). e.at) xs sorted)) ∙ all_below at_lane (2 * s.links) xs (below_all s xs h)
