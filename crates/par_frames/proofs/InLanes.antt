-- Frames in order of lane are the concatenation of each lane's frames.
use Rattle.std.proofs.Common.{◌≡◌, ℕ, zero, suc, ◌+◌, ◌<◌, ◌≤◌, Bool, true, false, List, [], ◌∷◌, ◌++◌, map, refl, sym, ◌∙◌, ap, arith, inl, inr}
use Rattle.std.specs.Prelude.{◌*◌}
use Rattle.std.specs.List.{list_all, flat_map}
use Rattle.std.proofs.lemmas.Bool.{ltb-true}
use Rattle.qkd_base.specs.Lane.{lane_eq}
use Rattle.qkd_base.specs.declared.lane.Lane.{Lane}
use Rattle.net_model.specs.Events.{is_lane}
use Rattle.net_model.specs.Site.{Site}
use Rattle.net_model.specs.BlockOrder.{lane_number, is_by_lane}
use Rattle.run_model.specs.Lines.{all_lanes}
use Rattle.law_base.proofs.Base.{and_left, and_right, lane_eq_from, lane_same, not_false, split, when_true, when_false}
use Rattle.par_lanes.specs.declared.emitted.Emitted.{Emitted}
use Rattle.par_frames.proofs.Rows.{lane_at, row, number_at, number_is, all_lanes_are}
use Rattle.par_frames.specs.Frames.{on_lane}
use Rattle.par_frames.proofs.Nodes.{few}
use Rattle.par_frames.proofs.NoteRising.{AllFrom, later_order, later_from}

abbrev each_on : List Emitted → List Lane → List Emitted
each_on es ls = flat_map (λ l. on_lane l es) ls

-- a frame is not on a lane of another number
off : (e : Emitted) (l : Lane) → (lane_number e.lane ≡ lane_number l → ⊥) → lane_eq e.lane l ≡ false
off e l apart = not_false (lane_eq e.lane l) (λ is. apart (ap lane_number (lane_eq_from e.lane l is)))

none_before : (n : ℕ) (l : Lane) → lane_number l < n → (es : List Emitted) → AllFrom n es → on_lane l es ≡ []
none_before n l below [] h = refl
none_before n l below (e ∷ es) h =
    let from = h.0 in
    when_false (lane_eq e.lane l) (e ∷ on_lane l es) (on_lane l es) (off e l (λ same. absurd (omega (arith, below, from, same)))) ∙ none_before n l below es h.1

module _ (e : Emitted) (es : List Emitted) (later : AllFrom (lane_number e.lane) es) where
  abbrev m : ℕ
  m = lane_number e.lane

  behind : (n k : ℕ) → m < n → each_on (e ∷ es) (row n k) ≡ each_on es (row n k)
  behind n zero h = refl
  behind n (suc k) h =
      let number = number_at n in
      let one : on_lane (lane_at n) (e ∷ es) ≡ on_lane (lane_at n) es =
      when_false (lane_eq e.lane (lane_at n)) (e ∷ on_lane (lane_at n) es) (on_lane (lane_at n) es) (off e (lane_at n) (λ same. absurd (omega (arith, h, number, same)))) in
      let rest = behind (n + 1) k (omega (arith, h)) in
      λ i. one i ++ rest i

  first : (n k : ℕ) → n ≤ m → m < n + k → each_on (e ∷ es) (row n k) ≡ e ∷ each_on es (row n k)
  first n zero low high = absurd (omega (arith, low, high))
  first n (suc k) low high = elim (split n m) [
    | inl less ↦
        let number = number_at n in
        let here : on_lane (lane_at n) (e ∷ es) ≡ [] = none_before m (lane_at n) (omega (arith, less, number)) (e ∷ es) (omega arith, later) in
        let there : on_lane (lane_at n) es ≡ [] = none_before m (lane_at n) (omega (arith, less, number)) es later in
        ap (λ (xs : List Emitted). xs ++ each_on (e ∷ es) (row (n + 1) k)) here ∙ first (n + 1) k (omega (arith, less)) (omega (arith, high))
        ∙ ap (λ (xs : List Emitted). e ∷ (xs ++ each_on es (row (n + 1) k))) (sym there)
    | inr more ↦
        let gap = more.1 in
        let is : m ≡ n = omega (arith, low, gap) in
        let at : e.lane ≡ lane_at n = sym (ap lane_at (sym is) ∙ number_is e.lane) in
        let one : on_lane (lane_at n) (e ∷ es) ≡ e ∷ on_lane (lane_at n) es =
        when_true (lane_eq e.lane (lane_at n)) (e ∷ on_lane (lane_at n) es) (on_lane (lane_at n) es) (ap (λ (l : Lane). lane_eq l (lane_at n)) at ∙ lane_same (lane_at n)) in
        let rest = behind (n + 1) k (omega (arith, is)) in
        λ i. one i ++ rest i
  ]

none_anywhere : (ls : List Lane) → each_on [] ls ≡ []
none_anywhere [] = refl
none_anywhere (l ∷ ls) = none_anywhere ls

module _ (s : Site) where
  abbrev is_there : Emitted → Bool
  is_there e = is_lane s e.lane

  in_rows : (es : List Emitted) → list_all is_there es ≡ true → is_by_lane (map (λ (e : Emitted). e.lane) es) ≡ true → es ≡ each_on es (row 0 (2 * s.links))
  in_rows [] there order = sym (none_anywhere (row 0 (2 * s.links)))
  in_rows (e ∷ es) there order =
      let below = ltb-true (lane_number e.lane) (2 * s.links) (few s e.lane (and_left (is_there e) (list_all is_there es) there)) in
      ap (λ (xs : List Emitted). e ∷ xs) (in_rows es (and_right (is_there e) (list_all is_there es) there) (later_order e es order))
      ∙ sym (first e es (later_from e es order) 0 (2 * s.links) (omega arith) (omega (arith, below)))

  pub in_lanes : (es : List Emitted) → list_all (λ (e : Emitted). is_lane s e.lane) es ≡ true → is_by_lane (map (λ (e : Emitted). e.lane) es) ≡ true →
      es ≡ flat_map (λ l. on_lane l es) (all_lanes s)
  in_lanes es there order = in_rows es there order ∙ ap (each_on es) (sym (all_lanes_are s))
