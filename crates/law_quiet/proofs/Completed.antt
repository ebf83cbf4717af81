-- A manager that notes placings awaits none of these orders afterwards, and its window has no place twice.
use Rattle.std.proofs.Common.{◌≡◌, ℕ, ◌+◌, ◌≤◌, Bool, true, false, not, ◌&&◌, List, [], ◌∷◌, ◌++◌, refl, ◌∙◌, ap, arith, inl, inr}
use Rattle.std.specs.Prelude.{◌==◌, is_some, count_by, filter, if◌then◌else◌}
use Rattle.std.specs.List.{list_any}
use Rattle.qkd_base.specs.Name.{Name}
use Rattle.qkd_base.specs.Lane.{lane_eq}
use Rattle.qkd_base.specs.declared.lane.Lane.{Lane}
use Rattle.net_model.specs.declared.placing.Placing.{Placing}
use Rattle.net_model.specs.World.{Transmission, Entry, Volatile}
use Rattle.net_model.specs.Window.{transmission_eq, stands_at, record_retransmission, transmission_of, entry_of, is_acked_item, complete_one, complete}
use Rattle.law_base.proofs.Base.{by_test, eq_same, lane_same, and_left, and_right, and_both, or_cases, or_left, or_right, not_false, not_both}
use Rattle.law_base.proofs.Lists.{transmission_from}
use Rattle.law_locality.proofs.Counting.{one_if, count_more}
use Rattle.law_quiet.specs.Awaited.{tells_of, lies_at, told_at}
use Rattle.law_quiet.proofs.Counts.{count_joined, count_changed, none_there}

any_kept : {A : Type 0} (p q : A → Bool) (xs : List A) → list_any p (filter q xs) ≡ true → list_any p xs ≡ true
any_kept p q [] h = h
any_kept {A} p q (x ∷ xs) h = elim (q x) as (λ t. list_any p (if t then x ∷ filter q xs else filter q xs) ≡ true → list_any p (x ∷ xs) ≡ true) [
  | true ↦ λ k. elim (or_cases (p x) (list_any p (filter q xs)) k) [ inl e ↦ or_left (p x) _ e | inr e ↦ or_right (p x) _ (any_kept p q xs e) ]
  | false ↦ λ k. or_right (p x) _ (any_kept p q xs k)
] h

-- One placing.

module _ (acked : List Name) (vol : Volatile) (p : Placing) where
  abbrev t : Transmission
  t = transmission_of p

  abbrev after : Volatile
  after = complete_one acked vol p

  gone : (ts : List Transmission) → list_any (transmission_eq t) (filter (λ x. not (transmission_eq t x)) ts) ≡ false
  gone [] = refl
  gone (x ∷ ts) = elim (transmission_eq t x) as (λ b. transmission_eq t x ≡ b →
      list_any (transmission_eq t) (if not b then x ∷ filter (λ y. not (transmission_eq t y)) ts else filter (λ y. not (transmission_eq t y)) ts) ≡ false) [
        | true ↦ λ e. gone ts
        | false ↦ λ e. rw e (gone ts)
      ] refl

  fewer_awaited : (x : Transmission) → list_any (transmission_eq x) after.awaiting ≡ true → list_any (transmission_eq x) vol.awaiting ≡ true
  unfolding complete_one
  fewer_awaited x =
      by_test (λ (new : Volatile). list_any (transmission_eq x) new.awaiting ≡ true → list_any (transmission_eq x) vol.awaiting ≡ true) p.fresh _ _
      (λ fresh. by_test (λ (new : Volatile). list_any (transmission_eq x) new.awaiting ≡ true → list_any (transmission_eq x) vol.awaiting ≡ true)
      (list_any (transmission_eq t) vol.awaiting && not (list_any (stands_at p) vol.window)) _ _ (λ e h. any_kept (transmission_eq x) (λ y. not (transmission_eq t y)) vol.awaiting h) (λ e h. h))
      (λ again h. h)

  -- If the place is free, the order is awaited no longer.
  one_told : p.fresh ≡ true → list_any (stands_at p) vol.window ≡ false → list_any (transmission_eq t) after.awaiting ≡ false
  unfolding complete_one
  one_told fresh free =
      by_test (λ (new : Volatile). list_any (transmission_eq t) new.awaiting ≡ false) p.fresh _ _
      (λ e. by_test (λ (new : Volatile). list_any (transmission_eq t) new.awaiting ≡ false)
      (list_any (transmission_eq t) vol.awaiting && not (list_any (stands_at p) vol.window)) _ _ (λ k. gone vol.awaiting)
      (λ k. not_false (list_any (transmission_eq t) vol.awaiting)
      (λ there. absurd (not_both (list_any (transmission_eq t) vol.awaiting && not (list_any (stands_at p) vol.window))
      (and_both (list_any (transmission_eq t) vol.awaiting) (not (list_any (stands_at p) vol.window)) there (ap not free)) k))))
      (λ again. absurd (not_both p.fresh fresh again))

  again_place : (l : Lane) (x : ℕ) (e : Entry) → lies_at l x (record_retransmission p e) ≡ lies_at l x e
  again_place l x e =
      by_test (λ (new : Entry). lies_at l x new ≡ lies_at l x e) (stands_at p e) (if is_some p.number then record e { number = p.number } else record e { due = true }) e
      (λ k. by_test (λ (new : Entry). lies_at l x new ≡ lies_at l x e) (is_some p.number) (record e { number = p.number }) (record e { due = true }) (λ k. refl) (λ k. refl)) (λ k. refl)

  -- The window gains at most the place of a new frame.
  one_placed : (l : Lane) (x : ℕ) → count_by (lies_at l x) after.window ≤ count_by (lies_at l x) vol.window + one_if (told_at l x p)
  unfolding complete_one
  one_placed l x =
      by_test (λ (new : Volatile). count_by (lies_at l x) new.window ≤ count_by (lies_at l x) vol.window + one_if (told_at l x p)) p.fresh _ _
      (λ fresh. by_test (λ (new : Volatile). count_by (lies_at l x) new.window ≤ count_by (lies_at l x) vol.window + one_if (told_at l x p))
      (list_any (transmission_eq t) vol.awaiting && not (list_any (stands_at p) vol.window)) _ _
      (λ e. by_test (λ (es : List Entry). count_by (lies_at l x) es ≤ count_by (lies_at l x) vol.window + one_if (told_at l x p)) (is_acked_item acked t.item) vol.window (vol.window ++ entry_of p ∷ [])
      (λ k. omega arith) (λ k.
      let joined = count_joined (lies_at l x) vol.window (entry_of p ∷ []) in
      let last = count_more (lies_at l x) (entry_of p) [] in
      let same : one_if (told_at l x p) ≡ one_if (lies_at l x (entry_of p)) = ap (λ (b : Bool). one_if (b && (lane_eq p.lane l && (p.offset == x)))) fresh in
      omega (arith, joined, last, same))) (λ e. omega arith))
      (λ again. let same = count_changed (lies_at l x) (record_retransmission p) (again_place l x) vol.window in omega (arith, same))

-- A list of placings whose new frames have places of their own.

abbrev pub AreApart : Volatile → List Placing → Type 0
AreApart vol ps = (l : Lane) (x : ℕ) → count_by (lies_at l x) vol.window + count_by (told_at l x) ps ≤ 1

module _ (acked : List Name) where
  apart_later : (vol : Volatile) (p : Placing) (ps : List Placing) → AreApart vol (p ∷ ps) → AreApart (complete_one acked vol p) ps
  apart_later vol p ps h l x =
      let one = one_placed acked vol p l x in
      let all = count_more (told_at l x) p ps in
      let k = h l x in
      omega (arith, one, all, k)

  pub still_awaited : (x : Transmission) (vol : Volatile) (ps : List Placing) → list_any (transmission_eq x) (complete acked vol ps).awaiting ≡ true →
      list_any (transmission_eq x) vol.awaiting ≡ true
  unfolding complete
  still_awaited x vol [] h = h
  still_awaited x vol (p ∷ ps) h = fewer_awaited acked vol p x (still_awaited x (complete_one acked vol p) ps h)

  free_place : (vol : Volatile) (p : Placing) (ps : List Placing) → AreApart vol (p ∷ ps) → p.fresh ≡ true → list_any (stands_at p) vol.window ≡ false
  free_place vol p ps h fresh =
      let here : told_at p.lane p.offset p ≡ true = and_both p.fresh _ fresh (and_both (lane_eq p.lane p.lane) _ (lane_same p.lane) (eq_same p.offset)) in
      let one : one_if (told_at p.lane p.offset p) ≡ 1 = ap one_if here in
      let all = count_more (told_at p.lane p.offset) p ps in
      let k = h p.lane p.offset in
      none_there (lies_at p.lane p.offset) vol.window (omega (arith, one, all, k))

  pub told_off : (x : Transmission) (vol : Volatile) (ps : List Placing) → AreApart vol ps → list_any (tells_of x) ps ≡ true →
      list_any (transmission_eq x) (complete acked vol ps).awaiting ≡ false
  unfolding complete
  told_off x vol [] h on = cc
  told_off x vol (p ∷ ps) h on = elim (or_cases (tells_of x p) (list_any (tells_of x) ps) on) [
    | inl here ↦
        let fresh = and_left p.fresh (transmission_eq x (transmission_of p)) here in
        let is : x ≡ transmission_of p = transmission_from x (transmission_of p) (and_right p.fresh (transmission_eq x (transmission_of p)) here) in
        let none = one_told acked vol p fresh (free_place vol p ps h fresh) in
        not_false (list_any (transmission_eq x) (complete acked (complete_one acked vol p) ps).awaiting)
        (λ there. not_both (list_any (transmission_eq x) (complete_one acked vol p).awaiting) (still_awaited x (complete_one acked vol p) ps there)
        (ap (λ (y : Transmission). list_any (transmission_eq y) (complete_one acked vol p).awaiting) is ∙ none))
    | inr later ↦ told_off x (complete_one acked vol p) ps (apart_later vol p ps h) later
  ]

  pub all_placed : (l : Lane) (x : ℕ) (vol : Volatile) (ps : List Placing) → AreApart vol ps →
      count_by (lies_at l x) (complete acked vol ps).window ≤ count_by (lies_at l x) vol.window + count_by (told_at l x) ps
  unfolding complete
  all_placed l x vol [] h = omega arith
  all_placed l x vol (p ∷ ps) h =
      let one = one_placed acked vol p l x in
      let rest = all_placed l x (complete_one acked vol p) ps (apart_later vol p ps h) in
      let all = count_more (told_at l x) p ps in
      omega (arith, one, rest, all)
