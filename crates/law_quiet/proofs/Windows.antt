-- How old the facts in flight on a lane are while plans put nothing there.
use Rattle.std.proofs.Common.{◌≡◌, ℕ, zero, suc, ◌+◌, Bool, true, false, not, ◌&&◌, ◌||◌, List, [], ◌∷◌, refl, sym, ◌∙◌, ap, arith}
use Rattle.std.specs.Prelude.{◌==◌, nat_lt, nat_le, map, filter, take, if◌then◌else◌}
use Rattle.std.specs.List.{list_any, list_all, flat_map}
use Rattle.std.proofs.lemmas.Bool.Decides.{nat_tests}
use Rattle.std.proofs.lemmas.List.Folds.{list_any-append}
use Rattle.qkd_base.specs.Lane.{lane_eq}
use Rattle.qkd_base.specs.declared.lane.Lane.{Lane}
use Rattle.net_model.specs.World.{Entry}
use Rattle.net_model.specs.View.{Port}
use Rattle.net_model.specs.Window.{is_data_entry, age, insert_entry, by_offset, repeats_on, sent_again}
use Rattle.law_base.proofs.Base.{by_test, and_left, and_right, and_both, or_left, or_right, or_first, or_second, or_both, not_false, not_both, lane_eq_from, when_true, when_false}
use Rattle.law_quiet.specs.Still.{flies_on}

pub filter_none : {A : Type 0} (p : A → Bool) (xs : List A) → filter p xs ≡ [] → list_any p xs ≡ false
filter_none p [] h = refl
filter_none {A} p (x ∷ xs) h = elim (p x) as (λ t. (if t then x ∷ filter p xs else filter p xs) ≡ [] → (t || list_any p xs) ≡ false) [
  | true ↦ λ e. cc
  | false ↦ λ e. filter_none p xs e
] h

-- A plan repeats nothing on a lane only if nothing is due there.

inserted_some : (e : Entry) (es : List Entry) → insert_entry e es ≡ [] → ⊥
inserted_some e [] h = cc
inserted_some e (x ∷ xs) h = elim (nat_lt e.offset x.offset) as (λ t. (if t then e ∷ x ∷ xs else x ∷ insert_entry e xs) ≡ [] → ⊥) [ true ↦ λ k. cc | false ↦ λ k. cc ] h

sixteen : (es : List Entry) → take 16 es ≡ [] → es ≡ []
sixteen [] h = refl
sixteen (e ∷ es) h = cc

none_first : (es : List Entry) → take 16 (by_offset es) ≡ [] → es ≡ []
none_first [] h = refl
none_first (e ∷ es) h = absurd (inserted_some e (by_offset es) (sixteen (insert_entry e (by_offset es)) h))

pub none_due : (window : List Entry) (l : Lane) → repeats_on window l ≡ [] → list_any (λ (e : Entry). lane_eq e.transmission.lane l && e.due) window ≡ false
unfolding repeats_on
none_due window l h =
    let due : Entry → Bool = λ e. lane_eq e.transmission.lane l && e.due in
    filter_none due window (none_first (filter due window) h)

-- A fact in flight gets one tick older. From age 4 on it is due.

aged_is : (e : Entry) → is_data_entry e ≡ true → age e ≡ record e { age = e.age + 1; due = e.due || nat_le 4 (e.age + 1) }
aged_is e h = when_true (is_data_entry e) _ _ h

old_is_due : (l : Lane) (e : Entry) → flies_on l e ≡ true → nat_le 3 e.age ≡ true → (lane_eq (age e).transmission.lane l && (age e).due) ≡ true
old_is_due l e f old =
    let is_fact = and_right (lane_eq e.transmission.lane l) (is_data_entry e) f in
    let four : nat_le 4 (e.age + 1) ≡ true = grind (arith, nat_tests) in
    ap (λ (x : Entry). lane_eq x.transmission.lane l && x.due) (aged_is e is_fact) ∙
    and_both (lane_eq e.transmission.lane l) _ (and_left (lane_eq e.transmission.lane l) (is_data_entry e) f) (or_right e.due (nat_le 4 (e.age + 1)) four)

or_rest : (a b : Bool) → (not a || b) ≡ true → a ≡ true → b ≡ true
or_rest true b h k = h
or_rest false b h k = cc

pub none_flies : (l : Lane) (window : List Entry) → list_any (λ (e : Entry). lane_eq e.transmission.lane l && e.due) (map age window) ≡ false →
    list_all (λ (e : Entry). not (flies_on l e) || nat_le 3 e.age) window ≡ true → list_any (flies_on l) window ≡ false
none_flies l [] due old = refl
none_flies l (e ∷ es) due old =
    let first = lane_eq (age e).transmission.lane l && (age e).due in
    let here = and_left (not (flies_on l e) || nat_le 3 e.age) (list_all (λ (x : Entry). not (flies_on l x) || nat_le 3 x.age) es) old in
    or_both (flies_on l e) (list_any (flies_on l) es)
    (not_false (flies_on l e) (λ f. not_both first (old_is_due l e f (or_rest (flies_on l e) (nat_le 3 e.age) here f)) (or_first first _ due)))
    (none_flies l es (or_second first _ due) (and_right (not (flies_on l e) || nat_le 3 e.age) _ old))

-- Lemmas on what a plan sends again.

abbrev goes_on : Lane → Entry → Bool
goes_on l e = lane_eq e.transmission.lane l

none_at : (out : List Entry) (l m : Lane) (offset : ℕ) → m ≡ l → list_any (goes_on l) out ≡ false → list_any (λ (x : Entry). lane_eq x.transmission.lane m && (x.offset == offset)) out ≡ false
none_at [] l m offset same h = refl
none_at (x ∷ xs) l m offset same h =
    or_both (lane_eq x.transmission.lane m && (x.offset == offset)) _
    (not_false _ (λ y. not_both (goes_on l x) (ap (lane_eq x.transmission.lane) (sym same) ∙ and_left (lane_eq x.transmission.lane m) (x.offset == offset) y) (or_first (goes_on l x) _ h)))
    (none_at xs l m offset same (or_second (goes_on l x) _ h))

aged_flies : (l : Lane) (e : Entry) → flies_on l (age e) ≡ flies_on l e
aged_flies l e = by_test (λ (x : Entry). flies_on l x ≡ flies_on l e) (is_data_entry e) _ _ (λ t. refl) (λ t. refl)

sent_flies : (l : Lane) (out : List Entry) (e : Entry) → flies_on l (sent_again out e) ≡ flies_on l e
sent_flies l out e = by_test (λ (x : Entry). flies_on l x ≡ flies_on l e) (list_any (λ (x : Entry). lane_eq x.transmission.lane e.transmission.lane && (x.offset == e.offset)) out) _ _ (λ t. refl) (λ t. refl)

module _ (l : Lane) (out : List Entry) (none : list_any (goes_on l) out ≡ false) (k : ℕ) where
  one_older : (e : Entry) → (not (flies_on l e) || nat_le k e.age) ≡ true →
      (not (flies_on l (sent_again out (age e))) || nat_le (k + 1) (sent_again out (age e)).age) ≡ true
  one_older e h = elim (flies_on l e) as (λ t. flies_on l e ≡ t → (not (flies_on l (sent_again out (age e))) || nat_le (k + 1) (sent_again out (age e)).age) ≡ true) [
    | false ↦ λ f. or_left (not (flies_on l (sent_again out (age e)))) _ (ap not (sent_flies l out (age e) ∙ aged_flies l e ∙ f))
    | true ↦ λ f.
        let old : nat_le k e.age ≡ true = or_rest (flies_on l e) (nat_le k e.age) h f in
        let is_fact = and_right (lane_eq e.transmission.lane l) (is_data_entry e) f in
        let one = aged_is e is_fact in
        let lane : (age e).transmission.lane ≡ l = ap (λ (x : Entry). x.transmission.lane) one ∙ lane_eq_from e.transmission.lane l (and_left (lane_eq e.transmission.lane l) (is_data_entry e) f) in
        let stays : sent_again out (age e) ≡ age e = when_false _ _ _ (none_at out l (age e).transmission.lane (age e).offset lane none) in
        let older : (sent_again out (age e)).age ≡ e.age + 1 = ap (λ (x : Entry). x.age) (stays ∙ one) in
        let more : nat_le (k + 1) (e.age + 1) ≡ true = grind (arith, nat_tests) in
        or_right (not (flies_on l (sent_again out (age e)))) _ (ap (nat_le (k + 1)) older ∙ more)
  ] refl

  pub all_older : (window : List Entry) → list_all (λ (e : Entry). not (flies_on l e) || nat_le k e.age) window ≡ true →
      list_all (λ (e : Entry). not (flies_on l e) || nat_le (k + 1) e.age) (map (sent_again out) (map age window)) ≡ true
  all_older [] h = refl
  all_older (e ∷ es) h =
      and_both _ _ (one_older e (and_left (not (flies_on l e) || nat_le k e.age) _ h)) (all_older es (and_right (not (flies_on l e) || nat_le k e.age) _ h))

-- What is sent again on one lane is on no other lane.
module _ (l : Lane) where
  none_taken : (n : ℕ) (es : List Entry) → list_any (goes_on l) es ≡ false → list_any (goes_on l) (take n es) ≡ false
  none_taken zero es h = refl
  none_taken (suc n) [] h = refl
  none_taken (suc n) (e ∷ es) h = or_both (goes_on l e) _ (or_first (goes_on l e) _ h) (none_taken n es (or_second (goes_on l e) _ h))

  none_inserted : (e : Entry) (es : List Entry) → goes_on l e ≡ false → list_any (goes_on l) es ≡ false → list_any (goes_on l) (insert_entry e es) ≡ false
  none_inserted e [] h k = or_both (goes_on l e) false h refl
  none_inserted e (x ∷ xs) h k = elim (nat_lt e.offset x.offset) as (λ t. list_any (goes_on l) (if t then e ∷ x ∷ xs else x ∷ insert_entry e xs) ≡ false) [
    | true ↦ or_both (goes_on l e) _ h k
    | false ↦ or_both (goes_on l x) _ (or_first (goes_on l x) _ k) (none_inserted e xs h (or_second (goes_on l x) _ k))
  ]

  none_sorted : (es : List Entry) → list_any (goes_on l) es ≡ false → list_any (goes_on l) (by_offset es) ≡ false
  none_sorted [] h = refl
  none_sorted (e ∷ es) h = none_inserted e (by_offset es) (or_first (goes_on l e) _ h) (none_sorted es (or_second (goes_on l e) _ h))

  none_due_there : (m : Lane) → lane_eq m l ≡ false → (es : List Entry) → list_any (goes_on l) (filter (λ (e : Entry). lane_eq e.transmission.lane m && e.due) es) ≡ false
  none_due_there m apart [] = refl
  none_due_there m apart (e ∷ es) =
      let rest = none_due_there m apart es in
      elim (lane_eq e.transmission.lane m && e.due) as (λ t. (lane_eq e.transmission.lane m && e.due) ≡ t →
      list_any (goes_on l) (if t then e ∷ filter (λ (x : Entry). lane_eq x.transmission.lane m && x.due) es else filter (λ (x : Entry). lane_eq x.transmission.lane m && x.due) es) ≡ false) [
        | true ↦ λ h. or_both (goes_on l e) _ (ap (λ (x : Lane). lane_eq x l) (lane_eq_from e.transmission.lane m (and_left (lane_eq e.transmission.lane m) e.due h)) ∙ apart) rest
        | false ↦ λ h. rest
      ] refl

  none_of_lane : (window : List Entry) → repeats_on window l ≡ [] → (m : Lane) → list_any (goes_on l) (repeats_on window m) ≡ false
  unfolding repeats_on
  none_of_lane window none m = elim (lane_eq m l) as (λ t. lane_eq m l ≡ t → list_any (goes_on l) (repeats_on window m) ≡ false) [
    | true ↦ λ e. ap (λ (x : Lane). list_any (goes_on l) (repeats_on window x)) (lane_eq_from m l e) ∙ ap (list_any (goes_on l)) none
    | false ↦ λ e.
        let there = filter (λ (x : Entry). lane_eq x.transmission.lane m && x.due) window in
        none_taken 16 (by_offset there) (none_sorted there (none_due_there m e window))
  ] refl

  -- Where nothing is due on a lane, a plan sends nothing again there.
  pub none_again : (window : List Entry) → repeats_on window l ≡ [] → (ps : List Port) → list_any (goes_on l) (flat_map (λ (p : Port). repeats_on window p.lane) ps) ≡ false
  none_again window none [] = refl
  none_again window none (p ∷ ps) =
      list_any-append (goes_on l) (repeats_on window p.lane) _ ∙
      or_both (list_any (goes_on l) (repeats_on window p.lane)) _ (none_of_lane window none p.lane) (none_again window none ps)
