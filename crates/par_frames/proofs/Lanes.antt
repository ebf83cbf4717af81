-- The reports of frames, lane by lane.
use Rattle.std.proofs.Common.{◌≡◌, ℕ, zero, suc, ◌+◌, ◌<◌, ◌≤◌, Bool, true, false, ◌&&◌, not, List, [], ◌∷◌, ◌++◌, refl, sym, ◌∙◌, ap, append-nil, arith, inl, inr}
use Rattle.std.specs.Prelude.{nat_lt, filter}
use Rattle.std.specs.List.{list_all, flat_map}
use Rattle.std.proofs.lemmas.Bool.Decides.{nat_tests}
use Rattle.std.proofs.lemmas.List.Folds.{list_all-append}
use Rattle.std.proofs.lemmas.Grind.{flat_map-append}
use Rattle.qkd_base.specs.Lane.{lane_eq}
use Rattle.qkd_base.specs.declared.lane.Lane.{Lane}
use Rattle.net_model.specs.BlockOrder.{lane_number}
use Rattle.run_model.specs.Block.{PutDone, sorted, puts_on}
use Rattle.law_base.proofs.Base.{and_left, and_right, and_both, lane_eq_from, not_false, split, when_false}
use Rattle.par_frames.specs.FrameRecording.{took_on, refused_on}
use Rattle.par_frames.proofs.LastOne.{fails}
use Rattle.par_frames.proofs.Rows.{lane_at, row, number_at, row_more}

abbrev pub is_below : ℕ → PutDone → Bool
is_below n p = nat_lt (lane_number p.lane) n

abbrev pub AllBelow : ℕ → List PutDone → Type 0
AllBelow n puts = list_all (is_below n) puts ≡ true

more_below : (a n m : ℕ) → n ≤ m → nat_lt a n ≡ true → nat_lt a m ≡ true
more_below a n m h k = grind (arith, nat_tests)

own_below : (a n : ℕ) → a ≡ n → nat_lt a (n + 1) ≡ true
own_below a n h = grind (arith, nat_tests)

not_below : (a n m : ℕ) → n ≤ m → nat_lt a n ≡ true → a ≡ m → ⊥
not_below a n m h k e = grind (arith, nat_tests)

pub all_below_more : (n m : ℕ) → n ≤ m → (puts : List PutDone) → AllBelow n puts → AllBelow m puts
all_below_more n m h [] all = refl
all_below_more n m h (p ∷ puts) all =
    and_both (is_below m p) (list_all (is_below m) puts) (more_below (lane_number p.lane) n m h (and_left (is_below n p) (list_all (is_below n) puts) all))
    (all_below_more n m h puts (and_right (is_below n p) (list_all (is_below n) puts) all))

pub below_with : (n : ℕ) (puts : List PutDone) (p : PutDone) → lane_number p.lane ≡ n → AllBelow (n + 1) puts → AllBelow (n + 1) (puts ++ p ∷ [])
below_with n puts p here all =
    list_all-append (is_below (n + 1)) puts (p ∷ [])
    ∙ and_both (list_all (is_below (n + 1)) puts) (is_below (n + 1) p && true) all (and_both (is_below (n + 1) p) true (own_below (lane_number p.lane) n here) refl)

-- a lane that has none of the frames

none_pass : (test : PutDone → Bool) (n : ℕ) (puts : List PutDone) → ((p : PutDone) → is_below n p ≡ true → test p ≡ false) → AllBelow n puts → filter test puts ≡ []
none_pass test n [] h all = refl
none_pass test n (p ∷ puts) h all =
    when_false (test p) (p ∷ filter test puts) (filter test puts) (h p (and_left (is_below n p) (list_all (is_below n) puts) all))
    ∙ none_pass test n puts h (and_right (is_below n p) (list_all (is_below n) puts) all)

pub and_off : (a b : Bool) → a ≡ false → (a && b) ≡ false
and_off true b h = cc
and_off false b h = refl

module _ (n : ℕ) (puts : List PutDone) (all : AllBelow n puts) (l : Lane) (above : n ≤ lane_number l) where
  off : (p : PutDone) → is_below n p ≡ true → lane_eq p.lane l ≡ false
  off p below = not_false (lane_eq p.lane l) (λ e. not_below (lane_number p.lane) n (lane_number l) above below (ap lane_number (lane_eq_from p.lane l e)))

  pub none_taken : filter (took_on l) puts ≡ []
  none_taken = none_pass (took_on l) n puts (λ p below. and_off (lane_eq p.lane l) p.took (off p below)) all

  pub none_refused : filter (refused_on l) puts ≡ []
  none_refused = none_pass (refused_on l) n puts (λ p below. and_off (lane_eq p.lane l) (not p.took) (off p below)) all

  pub none_on : puts_on puts l ≡ []
  none_on = λ i. none_taken i ++ sorted (none_refused i)

zero_more : (n : ℕ) → 0 + n ≡ n
zero_more n = omega arith

-- the reports of the lanes before a place

pub one_lane_more : (puts : List PutDone) (n : ℕ) → flat_map (puts_on puts) (row 0 (n + 1)) ≡ flat_map (puts_on puts) (row 0 n) ++ puts_on puts (lane_at n)
one_lane_more puts n =
    ap (flat_map (puts_on puts)) (row_more 0 n) ∙ flat_map-append (puts_on puts) (row 0 n) (lane_at (0 + n) ∷ [])
    ∙ ap (λ (xs : List PutDone). flat_map (puts_on puts) (row 0 n) ++ xs) (append-nil (puts_on puts (lane_at (0 + n))))
    ∙ ap (λ (m : ℕ). flat_map (puts_on puts) (row 0 n) ++ puts_on puts (lane_at m)) (zero_more n)

-- lanes after the last one that has a frame add nothing to the report

module _ (puts : List PutDone) (n : ℕ) (all : AllBelow n puts) where
  none_later : (k : ℕ) → flat_map (puts_on puts) (row 0 (n + k)) ≡ flat_map (puts_on puts) (row 0 n)
  none_later zero = let same : n + 0 ≡ n = omega arith in ap (λ (m : ℕ). flat_map (puts_on puts) (row 0 m)) same
  none_later (suc k) =
      let same : n + suc k ≡ n + k + 1 = omega arith in
      let number = number_at (n + k) in
      ap (λ (m : ℕ). flat_map (puts_on puts) (row 0 m)) same ∙ one_lane_more puts (n + k)
      ∙ ap (λ (xs : List PutDone). flat_map (puts_on puts) (row 0 (n + k)) ++ xs) (none_on n puts all (lane_at (n + k)) (omega (arith, number)))
      ∙ append-nil (flat_map (puts_on puts) (row 0 (n + k))) ∙ none_later k

  pub up_to : (m : ℕ) → n ≤ m → flat_map (puts_on puts) (row 0 m) ≡ flat_map (puts_on puts) (row 0 n)
  up_to m h = elim (split m n) [
    | inl less ↦ absurd (omega (arith, h, less))
    | inr more ↦ ap (λ (k : ℕ). flat_map (puts_on puts) (row 0 k)) more.1 ∙ none_later more.0
  ]

pub same_up_to : (puts : List PutDone) (n m : ℕ) → AllBelow n puts → AllBelow m puts → flat_map (puts_on puts) (row 0 n) ≡ flat_map (puts_on puts) (row 0 m)
same_up_to puts n m h k = elim (split n m) [
  | inl less ↦ sym (up_to puts n h m (omega (arith, less)))
  | inr more ↦ let is = more.1 in up_to puts m k n (omega (arith, is))
]

-- one frame is added, on a later lane

module _ (puts : List PutDone) (p : PutDone) where
  apart : (l : Lane) → lane_number l < lane_number p.lane → lane_eq p.lane l ≡ false
  apart l less = not_false (lane_eq p.lane l) (λ e. not_same (lane_number l) (lane_number p.lane) less (ap lane_number (lane_eq_from p.lane l e)))
    where
      not_same : (a b : ℕ) → a < b → b ≡ a → ⊥
      not_same a b h e = absurd (omega (arith, h, e))

  same_on : (l : Lane) → lane_number l < lane_number p.lane → puts_on (puts ++ p ∷ []) l ≡ puts_on puts l
  same_on l less =
      let took = fails (took_on l) puts p (and_off (lane_eq p.lane l) p.took (apart l less)) in
      let refused = fails (refused_on l) puts p (and_off (lane_eq p.lane l) (not p.took) (apart l less)) in
      λ i. took i ++ sorted (refused i)

  pub same_before : (n : ℕ) → n ≤ lane_number p.lane → flat_map (puts_on (puts ++ p ∷ [])) (row 0 n) ≡ flat_map (puts_on puts) (row 0 n)
  same_before zero h = refl
  same_before (suc n) h =
      let one : suc n ≡ n + 1 = omega arith in
      let number = number_at n in
      let rest = same_before n (omega (arith, h)) in
      let here = same_on (lane_at n) (omega (arith, h, number)) in
      ap (λ (m : ℕ). flat_map (puts_on (puts ++ p ∷ [])) (row 0 m)) one ∙ one_lane_more (puts ++ p ∷ []) n ∙ (λ i. rest i ++ here i) ∙ sym (one_lane_more puts n)
      ∙ ap (λ (m : ℕ). flat_map (puts_on puts) (row 0 m)) (sym one)
