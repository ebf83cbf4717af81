-- Giving each order of a block its bytes, once, is a run after which no order is left.
use Rattle.std.proofs.Common.{◌≡◌, ◌+◌, Bool, true, false, ◌&&◌, ◌||◌, List, [], ◌∷◌, refl, sym, ◌∙◌, ap, subst, arith}
use Rattle.std.specs.Prelude.{count_by, if◌then◌else◌}
use Rattle.std.specs.List.{list_all, list_any}
use Rattle.qkd_base.specs.Lane.{lane_eq}
use Rattle.qkd_base.specs.Family.{lane_set}
use Rattle.qkd_base.specs.declared.lane.Lane.{Lane}
use Rattle.net_model.specs.World.{Network, World, Transmission}
use Rattle.net_model.specs.Window.{transmission_eq}
use Rattle.net_model.specs.Events.{is_lane}
use Rattle.net_model.specs.Action.{Action, Allocate}
use Rattle.net_model.specs.Frames.{without, is_unclaimed, allocate}
use Rattle.net_model.specs.Step.{step, is_enabled, IsStep, run, IsRun}
use Rattle.net_model.specs.BlockOrder.{is_claim, claimed_on}
use Rattle.law_base.proofs.Base.{and_left, and_right, and_both, lane_eq_from, not_both, lane_same}
use Rattle.law_base.proofs.Lists.{transmission_from, transmission_same}
use Rattle.law_locality.proofs.Counting.{one_if, count_more, counted_is_there, none_counted}
use Rattle.law_locality.proofs.Runs.{one_more, nothing_runs, run_none, run_one}

pub lanes_apart : (a b : Lane) → lane_eq a b ≡ false → lane_eq b a ≡ false
lanes_apart a b e = elim (lane_eq b a) as (λ t. lane_eq b a ≡ t → t ≡ false) [
  | true ↦ λ k. absurd (not_both (lane_eq a b) (subst (λ (m : Lane). lane_eq a m ≡ true) (sym (lane_eq_from b a k)) (lane_same a)) e)
  | false ↦ λ k. refl
] refl

-- Equal transmissions pass the same tests.
same_test : (x t u : Transmission) → transmission_eq t u ≡ true → transmission_eq x t ≡ transmission_eq x u
same_test x t u e = ap (transmission_eq x) (transmission_from t u e)

-- Lemmas on taking one order out of a list.
pub count-without : (x t : Transmission) (ts : List Transmission) → list_any (transmission_eq t) ts ≡ true →
    count_by (transmission_eq x) ts ≡ one_if (transmission_eq x t) + count_by (transmission_eq x) (without t ts)
count-without x t [] h = cc
count-without x t (u ∷ ts) h =
    elim (transmission_eq t u) as (λ b. transmission_eq t u ≡ b → (b || list_any (transmission_eq t) ts) ≡ true →
    count_by (transmission_eq x) (u ∷ ts) ≡ one_if (transmission_eq x t) + count_by (transmission_eq x) (if b then ts else u ∷ without t ts)) [
      | true ↦ λ e k. count_more (transmission_eq x) u ts ∙ ap (λ (b : Bool). one_if b + count_by (transmission_eq x) ts) (sym (same_test x t u e))
      | false ↦ λ e k.
          let rest = count-without x t ts k in
          let a = count_more (transmission_eq x) u ts in
          let b = count_more (transmission_eq x) u (without t ts) in
          omega (arith, rest, a, b)
    ] refl h

module _ (net : Network) where
  -- The claims take exactly the orders of the world.
  abbrev AreAll : List Action → World → Type 0
  AreAll xs w = (l : Lane) (t : Transmission) → count_by (transmission_eq t) (claimed_on l xs) ≡ count_by (transmission_eq t) (w.unclaimed l)

  claim_here : (t : Transmission) (xs : List Action) → claimed_on t.lane (Allocate t ∷ xs) ≡ t ∷ claimed_on t.lane xs
  claim_here t xs = ap (λ (b : Bool). if b then t ∷ claimed_on t.lane xs else claimed_on t.lane xs) (lane_same t.lane)

  is_there : (t : Transmission) (xs : List Action) (w : World) → AreAll (Allocate t ∷ xs) w → is_unclaimed w t ≡ true
  is_there t xs w h =
      let all = h t.lane t in
      let here = ap (count_by (transmission_eq t)) (claim_here t xs) in
      let more = count_more (transmission_eq t) t (claimed_on t.lane xs) in
      let one : one_if (transmission_eq t t) ≡ 1 = ap one_if (transmission_same t) in
      counted_is_there (transmission_eq t) (w.unclaimed t.lane) (omega (arith, all, here, more, one))

  claim_enabled : (t : Transmission) (xs : List Action) (w : World) → is_lane net.site t.lane ≡ true → AreAll (Allocate t ∷ xs) w → IsStep net w (Allocate t)
  unfolding is_enabled
  claim_enabled t xs w lane h = and_both (is_lane net.site t.lane && is_unclaimed w t) true (and_both (is_lane net.site t.lane) (is_unclaimed w t) lane (is_there t xs w h)) refl

  left_after : (w : World) (t : Transmission) → (step net w (Allocate t)).0.unclaimed ≡ lane_set w.unclaimed t.lane (without t (w.unclaimed t.lane))
  unfolding step allocate
  left_after w t = refl

  all_after : (t : Transmission) (xs : List Action) (w : World) → AreAll (Allocate t ∷ xs) w → AreAll xs (step net w (Allocate t)).0
  all_after t xs w h l x =
      let left = ap (λ (f : Lane → List Transmission). count_by (transmission_eq x) (f l)) (left_after w t) in
      elim (lane_eq l t.lane) as (λ b. lane_eq l t.lane ≡ b → count_by (transmission_eq x) (if b then without t (w.unclaimed t.lane) else w.unclaimed l) ≡
      count_by (transmission_eq x) ((step net w (Allocate t)).0.unclaimed l) → count_by (transmission_eq x) (claimed_on l xs) ≡ count_by (transmission_eq x) ((step net w (Allocate t)).0.unclaimed l)) [
        | true ↦ λ e k.
            let is : l ≡ t.lane = lane_eq_from l t.lane e in
            let here : claimed_on l (Allocate t ∷ xs) ≡ t ∷ claimed_on l xs = subst (λ (m : Lane). claimed_on m (Allocate t ∷ xs) ≡ t ∷ claimed_on m xs) (sym is) (claim_here t xs) in
            let all = h l x in
            let same = ap (count_by (transmission_eq x)) here in
            let more = count_more (transmission_eq x) t (claimed_on l xs) in
            let taken = count-without x t (w.unclaimed t.lane) (is_there t xs w h) in
            let lanes : count_by (transmission_eq x) (w.unclaimed l) ≡ count_by (transmission_eq x) (w.unclaimed t.lane) = ap (λ (m : Lane). count_by (transmission_eq x) (w.unclaimed m)) is in
            omega (arith, all, same, more, taken, lanes, k)
        | false ↦ λ e k.
            let away : lane_eq t.lane l ≡ false = lanes_apart l t.lane e in
            let here : claimed_on l (Allocate t ∷ xs) ≡ claimed_on l xs = ap (λ (b : Bool). if b then t ∷ claimed_on l xs else claimed_on l xs) away in
            sym (ap (count_by (transmission_eq x)) here) ∙ h l x ∙ k
      ] refl (sym left)

  pub claims_run : (xs : List Action) (w : World) → list_all (is_claim net.site) xs ≡ true → AreAll xs w → IsRun net w xs
  claims_run [] w each h = nothing_runs net w
  claims_run (Allocate t ∷ xs) w each h =
      let lane = and_left (is_lane net.site t.lane) (list_all (is_claim net.site) xs) each in
      one_more net w (Allocate t) xs (claim_enabled t xs w lane h)
      (claims_run xs (step net w (Allocate t)).0 (and_right (is_lane net.site t.lane) (list_all (is_claim net.site) xs) each) (all_after t xs w h))
  claims_run (_ ∷ xs) w each h = absurd (cc)

  pub all_claimed : (xs : List Action) (w : World) → list_all (is_claim net.site) xs ≡ true → AreAll xs w → (l : Lane) → (run net w xs).unclaimed l ≡ []
  all_claimed [] w each h l =
      ap (λ (x : World). x.unclaimed l) (run_none net w) ∙ none_counted transmission_eq transmission_same (w.unclaimed l) (λ t. sym (h l t))
  all_claimed (Allocate t ∷ xs) w each h l =
      ap (λ (x : World). x.unclaimed l) (run_one net w (Allocate t) xs) ∙
      all_claimed xs (step net w (Allocate t)).0 (and_right (is_lane net.site t.lane) (list_all (is_claim net.site) xs) each) (all_after t xs w h) l
  all_claimed (_ ∷ xs) w each h l = absurd (cc)
