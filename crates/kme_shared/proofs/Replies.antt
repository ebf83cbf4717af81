-- The replies that workers keep, sorted, are those of the managers' histories.
use Rattle.std.proofs.Common.{◌≡◌, ℕ, zero, suc, ◌+◌, ◌<◌, Bool, false, List, [], ◌∷◌, ◌++◌, length, map, refl, sym, ◌∙◌, ap, subst, arith, append-nil, Some}
use Rattle.std.specs.Prelude.{◌==◌, cond, filter, nat_lt, slice_get}
use Rattle.std.specs.List.{AllByRecursion, flat_map}
use Rattle.std.specs.List.Sorted.{IsPermutation, IsNonDecreasingBy}
use Rattle.std.proofs.lemmas.Bool.Decides.{nat_tests}
use Rattle.std.proofs.lemmas.Grind.{flat_map-append}
use Rattle.std.proofs.lemmas.List.{length-map}
use Rattle.std.proofs.lemmas.Option.{slice_get_within}
use Rattle.net_model.specs.Site.{count_up}
use Rattle.net_model.specs.Action.{Outcome}
use Rattle.shared_objects.specs.Rising.{placed_from, together}
use Rattle.shared_objects.proofs.Mapping.{merge_map}
use Rattle.world_state.proofs.Passed.{get_within, get-map}
use Rattle.par_managers.proofs.Histories.{length-count_up, counted_at}
use Rattle.par_frames.specs.Sorting.{HasJust, IsSortedByBoth}
use Rattle.par_frames.proofs.InOrder.{of_parts}
use Rattle.par_frames.proofs.Parts.{just_moved, just_both, just_part, part_ordered}
use Rattle.par_frames.proofs.Rising.{Rise, one_order}
use Rattle.par_frames.proofs.Runs.{Below, Rise as NeverFalls, rise, one_more, all_below}
use Rattle.par_frames.proofs.Sorted.{in_part, places_rise}
use Rattle.par_managers.specs.declared.ask.PlanAsk.{PlanAsk}
use Rattle.par_managers.specs.declared.ask.PlanAnswer.{PlanAnswer}
use Rattle.par_managers.specs.declared.keep.Replied.{Replied}
use Rattle.par_managers.specs.declared.keep.Keep.{Keep}
use Rattle.par_managers.specs.Talking.{reply_kept}
use Rattle.kme_shared.proofs.Lists.{all_flat, all_moved, flat_kept, flat_listed, flat_mapped, map_flat, mapped_is, some_is}
use Rattle.kme_shared.proofs.Called.{IsCalled, said, told}

abbrev node_of : Replied → ℕ
node_of r = r.node

abbrev at_of : Replied → ℕ
at_of r = r.at

abbrev here : ℕ → List Replied → List Replied
here v rs = filter (λ (r : Replied). r.node == v) rs

-- the replies of one node

module _ (v : ℕ) where
  abbrev row : ℕ → List (PlanAsk × PlanAnswer) → List Replied
  row n log = map (reply_kept v) (placed_from n log)

  above : (m n : ℕ) → m < n → (log : List (PlanAsk × PlanAnswer)) → AllByRecursion (λ (r : Replied). m < r.at) (row n log)
  above m n lt [] = tt
  above m n lt (e ∷ log) = (lt, above m (n + 1) (omega (arith, lt)) log)

  rises : (n : ℕ) (log : List (PlanAsk × PlanAnswer)) → Rise at_of (row n log)
  rises n [] = tt
  rises n (e ∷ log) = (above n (n + 1) (omega arith) log, rises (n + 1) log)

  told_row : (n : ℕ) (log : List (PlanAsk × PlanAnswer)) → map told (row n log) ≡ map said log
  told_row n [] = refl
  told_row n (e ∷ log) = ap (λ (xs : List (ℕ × Outcome)). said e ∷ xs) (told_row (n + 1) log)

  module _ (keeps : List Keep) (mines : List (List Replied)) (log : List (PlanAsk × PlanAnswer)) (called : IsCalled v keeps mines log) (replied : List Replied) (same : IsPermutation (together mines) replied)
      (order : IsSortedByBoth node_of at_of replied) where
    just : HasJust (row 0 log) (here v replied)
    just =
        just_both (row 0 log) (together (map (map (reply_kept v)) called.calls)) (here v replied)
        (just_moved (row 0 log) (together (map (map (reply_kept v)) called.calls)) (of_parts (map (map (reply_kept v)) called.calls) (row 0 log) (merge_map (reply_kept v) called.merged)))
        (subst (λ (rs : List Replied). HasJust rs (here v replied)) (flat_kept (λ (r : Replied). r.node == v) mines ∙ sym (ap together called.replied))
        (just_part (λ (r : Replied). r.node == v) (together mines) replied (just_moved (together mines) replied same)))

    ordered : IsNonDecreasingBy at_of (here v replied)
    ordered = part_ordered (λ (r : Replied). r.node == v) at_of replied (in_part node_of at_of replied order v)

    pub told_here : map told (here v replied) ≡ map said log
    told_here = ap (map told) (one_order at_of (row 0 log) (here v replied) (rises 0 log) just ordered) ∙ told_row 0 log

-- the replies of all nodes, node by node

none_below : (rs : List Replied) → Below node_of 0 rs ≡ []
none_below [] = refl
none_below (r ∷ rs) = ap (λ (t : Bool). cond t (r ∷ Below node_of 0 rs) (Below node_of 0 rs)) (never r.node) ∙ none_below rs
  where
    never : (a : ℕ) → nat_lt a 0 ≡ false
    never a = grind (arith, nat_tests)

up_to : (n : ℕ) (rs : List Replied) → NeverFalls node_of rs → flat_map (λ v. here v rs) (count_up n) ≡ Below node_of n rs
up_to zero rs r = sym (none_below rs)
up_to (suc n) rs r =
    let next : n + 1 ≡ suc n = omega arith in
    flat_map-append (λ v. here v rs) (count_up n) (n ∷ []) ∙ (λ i. up_to n rs r i ++ append-nil (here n rs) i) ∙ sym (one_more node_of n rs r) ∙ ap (λ (m : ℕ). Below node_of m rs) next

module _ (keeps : List Keep) (mines : List (List Replied)) (logs : List (List (PlanAsk × PlanAnswer))) (called : (v : ℕ) (log : List (PlanAsk × PlanAnswer)) → slice_get logs v ≡ Some log → IsCalled v keeps mines log)
    (below : AllByRecursion (AllByRecursion (λ (r : Replied). r.node < length logs)) mines) (replied : List Replied) (same : IsPermutation (together mines) replied)
    (order : IsSortedByBoth node_of at_of replied) where
  node_by_node : flat_map (λ v. here v replied) (count_up (length logs)) ≡ replied
  node_by_node =
      up_to (length logs) replied (rise node_of replied (places_rise node_of at_of replied order))
      ∙ all_below node_of (length logs) replied (all_moved (λ (r : Replied). r.node < length logs) (together mines) replied same (all_flat (λ (r : Replied). r.node < length logs) mines below))

  each_node : (i v : ℕ) → slice_get (count_up (length logs)) i ≡ Some v → slice_get (map (map said) logs) i ≡ Some (map told (here v replied))
  each_node i v at =
      let long = length-count_up (length logs) in
      let within = slice_get_within (count_up (length logs)) i v at in
      let less : i < length logs = omega (arith, long, within) in
      let same_number : i ≡ v = some_is (sym (counted_at (length logs) i less) ∙ at) in
      let log = get_within logs i less in
      get-map (map said) logs i log.0 log.1 ∙ ap (λ (xs : List (ℕ × Outcome)). Some xs) (sym (told_here i keeps mines log.0 (called i log.0 log.1) replied same order))
      ∙ ap (λ (n : ℕ). Some (map told (here n replied))) same_number

  pub all_told : map told replied ≡ map said (together logs)
  all_told =
      ap (map told) (sym node_by_node) ∙ map_flat told (λ v. here v replied) (count_up (length logs)) ∙ flat_listed (λ v. map told (here v replied)) (count_up (length logs))
      ∙ ap (λ (xs : List (List (ℕ × Outcome))). together xs)
      (mapped_is (λ v. map told (here v replied)) (count_up (length logs)) (map (map said) logs) (length-count_up (length logs) ∙ sym (length-map logs (map said))) each_node)
      ∙ flat_mapped said logs
