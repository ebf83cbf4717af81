-- A worker's records of all its frames, lane by lane.
use Rattle.std.proofs.Common.{◌≡◌, ℕ, ◌+◌, ◌*◌, Bool, true, false, ◌&&◌, List, [], ◌∷◌, ◌++◌, map, refl, sym, ◌∙◌, ap, ap₂, arith}
use Rattle.std.specs.Prelude.{◌==◌, cond, filter}
use Rattle.std.specs.List.{AllByRecursion}
use Rattle.std.proofs.lemmas.Bool.Decides.{nat_tests}
use Rattle.std.proofs.lemmas.List.Elements.{filter-append}
use Rattle.qkd_base.specs.Lane.{way_number, way_eq, lane_eq, lane_place}
use Rattle.qkd_base.specs.declared.lane.Lane.{Lane}
use Rattle.qkd_base.specs.declared.lane.Way.{Way}
use Rattle.qkd_base.specs.declared.lane.Way.TheVariants.{Up, Down}
use Rattle.net_model.specs.Tick.{Emission, Again, New}
use Rattle.par_lanes.specs.declared.emitted.Emitted.{Emitted}
use Rattle.par_lanes.specs.Wants.{lane_for, is_at}
use Rattle.par_lanes.specs.Calls.{emitted_at}
use Rattle.law_base.proofs.Base.{eq_from, not_false, not_both}
use Rattle.shared_objects.specs.Rising.{together}
use Rattle.law_parallel.specs.Logs.{wanted_on}
use Rattle.law_parallel.specs.Putting.{lane_of}
use Rattle.par_frames.specs.Working.{IsOfItsLine, wanted_for, kept}

-- Lanes with the same place are the same lane.

and_no : (b : Bool) → (b && false) ≡ false
and_no true = refl
and_no false = refl

alike : (m n : ℕ) → m ≡ n → (m == n) ≡ true
alike m n h = grind (arith, nat_tests)

differ : (m n : ℕ) → (m ≡ n → ⊥) → (m == n) ≡ false
differ m n h = not_false (m == n) (λ e. h (eq_from m n e))

not_alike : (m n : ℕ) → (m == n) ≡ false → m ≡ n → ⊥
not_alike m n f h = not_both (m == n) (alike m n h) f

same_way : (a b c d : ℕ) → (c ≡ d → a ≡ b) → (a ≡ b → c ≡ d) → (c == d) ≡ ((a == b) && true)
same_way a b c d down up = elim (a == b) as (λ t. (a == b) ≡ t → (c == d) ≡ (t && true)) [
  | true ↦ λ e. alike c d (up (eq_from a b e))
  | false ↦ λ e. differ c d (λ h. not_alike a b e (down h))
] refl

by_ways : (a b : ℕ) (x y : Way) → ((2 * a + way_number x) == (2 * b + way_number y)) ≡ ((a == b) && way_eq x y)
by_ways a b Up Up = same_way a b (2 * a + 0) (2 * b + 0) (λ h. omega (arith, h)) (λ h. omega (arith, h))
by_ways a b Down Down = same_way a b (2 * a + 1) (2 * b + 1) (λ h. omega (arith, h)) (λ h. omega (arith, h))
by_ways a b Up Down = differ (2 * a + 0) (2 * b + 1) (λ h. absurd (omega (arith, h))) ∙ sym (and_no (a == b))
by_ways a b Down Up = differ (2 * a + 1) (2 * b + 0) (λ h. absurd (omega (arith, h))) ∙ sym (and_no (a == b))

by_place : (a b : Lane) → (lane_place a == lane_place b) ≡ lane_eq a b
by_place a b = by_ways a.link b.link a.way b.way

lane_is : (e : Emission) → lane_for e ≡ lane_of e
lane_is (Again r) = refl
lane_is (New o) = refl

module _ (l : Lane) where
  -- ---- the records
  abbrev here : Emitted → Bool
  here e = lane_place e.lane == lane_place l

  pub wanted_emitted : (outs : List (Emission × Emitted)) → map wanted_for (emitted_at (lane_place l) outs) ≡ wanted_on l (map wanted_for outs)
  wanted_emitted [] = refl
  wanted_emitted (x ∷ outs) =
      let rest = wanted_emitted outs in
      let same : is_at (lane_place l) x.0 ≡ lane_eq (lane_of x.0) l = by_place (lane_for x.0) l ∙ ap (λ (k : Lane). lane_eq k l) (lane_is x.0) in
      ap (λ (b : Bool). map wanted_for (cond b (x ∷ emitted_at (lane_place l) outs) (emitted_at (lane_place l) outs))) same
      ∙ (elim (lane_eq (lane_of x.0) l) as (λ t. map wanted_for (cond t (x ∷ emitted_at (lane_place l) outs) (emitted_at (lane_place l) outs)) ≡
      cond t (wanted_for x ∷ wanted_on l (map wanted_for outs)) (wanted_on l (map wanted_for outs))) [
        | true ↦ ap (λ (ys : List (ℕ × Emission)). wanted_for x ∷ ys) rest
        | false ↦ rest
      ])

  kept_emitted : (outs : List (Emission × Emitted)) → AllByRecursion IsOfItsLine outs → kept (emitted_at (lane_place l) outs) ≡ filter here (kept outs)
  kept_emitted [] h = refl
  kept_emitted (x ∷ outs) h =
      let rest = kept_emitted outs h.1 in
      let same : is_at (lane_place l) x.0 ≡ here x.1 = ap (λ (k : Lane). lane_place k == lane_place l) (sym h.0.lane) in
      ap (λ (b : Bool). kept (cond b (x ∷ emitted_at (lane_place l) outs) (emitted_at (lane_place l) outs))) same
      ∙ (elim (here x.1) as (λ t. kept (cond t (x ∷ emitted_at (lane_place l) outs) (emitted_at (lane_place l) outs)) ≡ cond t (x.1 ∷ filter here (kept outs)) (filter here (kept outs))) [
        | true ↦ ap (λ (es : List Emitted). x.1 ∷ es) rest
        | false ↦ rest
      ])

  pub all_kept_emitted : (outs : List (List (Emission × Emitted))) → AllByRecursion (AllByRecursion IsOfItsLine) outs →
      together (map kept (map (emitted_at (lane_place l)) outs)) ≡ filter here (together (map kept outs))
  all_kept_emitted [] h = refl
  all_kept_emitted (xs ∷ outs) h =
      ap₂ (λ (es fs : List Emitted). es ++ fs) (kept_emitted xs h.0) (all_kept_emitted outs h.1) ∙ sym (filter-append here (kept xs) (together (map kept outs)))
