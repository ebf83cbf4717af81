-- The records of frames, in order of their places, are those of their lane's log.
use Rattle.std.proofs.Common.{◌≡◌, ℕ, ◌+◌, ◌<◌, ◌≤◌, true, List, [], ◌∷◌, ◌++◌, length, map, refl, sym, subst, arith}
use Rattle.std.specs.Prelude.{◌==◌}
use Rattle.std.specs.List.{list_all, AllByRecursion}
use Rattle.std.specs.List.Sorted.{IsPermutation, IsNonDecreasingBy}
use Rattle.std.proofs.lemmas.Grind.{flat_map-append}
use Rattle.std.proofs.lemmas.List.Sorted.{IsPermutation-refl, IsPermutation-sym, IsPermutation-trans, IsPermutation-cons, IsPermutation-middle}
use Rattle.qkd_base.specs.declared.lane.Lane.{Lane}
use Rattle.net_model.specs.Tick.{Emission}
use Rattle.net_model.specs.BlockOrder.{IsMerge, Done, Next}
use Rattle.lane_sender.specs.Lane.{LaneForm}
use Rattle.par_lanes.specs.declared.ask.LaneAsk.{LaneAsk}
use Rattle.par_lanes.specs.declared.ask.LaneAnswer.{LaneAnswer}
use Rattle.shared_objects.specs.Rising.{together}
use Rattle.shared_objects.proofs.Alls.{all_map, not_empty}
use Rattle.law_parallel.specs.Calls.{placed_from}
use Rattle.par_lanes.specs.declared.emitted.Emitted.{Emitted}
use Rattle.par_frames.specs.LaneCalls.{LaneCall, ClaimsFor, PutsFor, RepeatsFor, kept_in, IsSound}
use Rattle.par_frames.specs.Sorting.{HasJust}
use Rattle.par_frames.specs.Working.{kept, HaveDone}
use Rattle.par_frames.proofs.Parts.{just_moved, just_both}
use Rattle.par_frames.proofs.Rising.{Rise, one_order}

-- A merge has the members of its parts.

module _ {A : Type 0} where
  none_there : (parts : List (List A)) → list_all (λ p. length p == 0) parts ≡ true → together parts ≡ []
  none_there [] h = refl
  none_there ([] ∷ parts) h = none_there parts h
  none_there ((x ∷ xs) ∷ parts) h = absurd (not_empty x xs (list_all (λ p. length p == 0) parts) h)

  pub of_parts : (parts : List (List A)) (out : List A) → IsMerge parts out → IsPermutation out (together parts)
  of_parts _ [] (Done parts none) = subst (IsPermutation []) (sym (none_there parts none)) (IsPermutation-refl [])
  of_parts _ _ (Next before after x rest out m) =
      let others : IsPermutation out (together before ++ (rest ++ together after)) =
      subst (IsPermutation out) (flat_map-append (λ (ys : List A). ys) before (rest ∷ after)) (of_parts (before ++ rest ∷ after) out m) in
      subst (IsPermutation (x ∷ out)) (sym (flat_map-append (λ (ys : List A). ys) before ((x ∷ rest) ∷ after)))
      (IsPermutation-trans _ _ _ (IsPermutation-cons x _ _ others) (IsPermutation-sym _ _ (IsPermutation-middle (together before) x (rest ++ together after))))

-- The places of a log's records rise.

abbrev at_place : Emitted → ℕ
at_place e = e.at

module _ (l : Lane) (bytes : List ℕ) (all : List LaneCall) where
  above : (place : ℕ) (log : List LaneCall) → AllByRecursion (IsSound l bytes all) (placed_from place log) → AllByRecursion (λ (e : Emitted). place ≤ e.at) (kept_in log)
  above place [] s = tt
  above place (ClaimsFor line o grant claimed ∷ log) s = all_map (λ (e : Emitted). place + 1 ≤ e.at) (λ (e : Emitted). place ≤ e.at) (λ e le. omega (arith, le)) (kept_in log) (above (place + 1) log s.1)
  above place (PutsFor claim o claimed out ∷ log) s =
      (let is = s.0.at in omega (arith, is), all_map (λ (e : Emitted). place + 1 ≤ e.at) (λ (e : Emitted). place ≤ e.at) (λ e le. omega (arith, le)) (kept_in log) (above (place + 1) log s.1))
  above place (RepeatsFor r out ∷ log) s =
      (let is = s.0.at in omega (arith, is), all_map (λ (e : Emitted). place + 1 ≤ e.at) (λ (e : Emitted). place ≤ e.at) (λ e le. omega (arith, le)) (kept_in log) (above (place + 1) log s.1))

  over : (place : ℕ) (out : Emitted) (log : List LaneCall) → out.at ≡ place → AllByRecursion (IsSound l bytes all) (placed_from (place + 1) log) → AllByRecursion (λ (e : Emitted). out.at < e.at) (kept_in log)
  over place out log is s = all_map (λ (e : Emitted). place + 1 ≤ e.at) (λ (e : Emitted). out.at < e.at) (λ e le. omega (arith, le, is)) (kept_in log) (above (place + 1) log s)

  pub kept_rise : (place : ℕ) (log : List LaneCall) → AllByRecursion (IsSound l bytes all) (placed_from place log) → Rise at_place (kept_in log)
  kept_rise place [] s = tt
  kept_rise place (ClaimsFor line o grant claimed ∷ log) s = kept_rise (place + 1) log s.1
  kept_rise place (PutsFor claim o claimed out ∷ log) s = (over place out log s.0.at s.1, kept_rise (place + 1) log s.1)
  kept_rise place (RepeatsFor r out ∷ log) s = (over place out log s.0.at s.1, kept_rise (place + 1) log s.1)

pub in_order : {X : Type 0} (side : LaneForm X) (outs : List (List (Emission × Emitted))) (history : List (LaneAsk × LaneAnswer)) (d : HaveDone side outs history) (sorted : List Emitted) →
    HasJust (together (map kept outs)) sorted → IsNonDecreasingBy (λ (e : Emitted). e.at) sorted → sorted ≡ kept_in d.log
in_order side outs history d sorted h up =
    one_order at_place (kept_in d.log) sorted (kept_rise side.lane side.bytes d.log 0 d.log d.sound)
    (just_both (kept_in d.log) (together (map kept outs)) sorted (just_moved (kept_in d.log) (together (map kept outs)) (of_parts (map kept outs) (kept_in d.log) d.keep)) h) up
