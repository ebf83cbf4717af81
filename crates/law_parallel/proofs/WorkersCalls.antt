-- If each worker did its own part, the lanes did their work in one of the permitted orders.
use Rattle.std.proofs.Common.{◌≡◌, ℕ, zero, suc, ◌+◌, ◌≤◌, Bool, true, ◌&&◌, List, [], ◌∷◌, ◌++◌, length, refl, sym, ◌∙◌, ap, subst, arith, Some}
use Rattle.std.specs.Prelude.{◌==◌, count_by, slice_get}
use Rattle.std.specs.List.{list_all}
use Rattle.qkd_base.specs.declared.lane.Lane.{Lane}
use Rattle.net_model.specs.World.{Network, World}
use Rattle.net_model.specs.Tick.{Emission, Again, New}
use Rattle.net_model.specs.BlockOrder.{IsMerge, Done, Next}
use Rattle.run_model.specs.Works.{Work}
use Rattle.run_ops.specs.declared.job.Job.{Job}
use Rattle.law_base.proofs.Base.{and_left, and_both, eq_from}
use Rattle.law_locality.proofs.Counting.{one_if, count_more}
use Rattle.law_parallel.proofs.Counting.{count_same, counted_none}
use Rattle.law_parallel.proofs.Merges.{merge_holds}
use Rattle.law_parallel.specs.Logs.{Deed, Claims, Puts, Repeats, claims_put, done_for_plans, is_answered, HaveTheSame}
use Rattle.law_parallel.specs.LaneWorks.{AreLaneWorks}
use Rattle.law_parallel.specs.Places.{claimed_at, numbered}
use Rattle.law_parallel.specs.Calls.{placed_from, deeds, claims_made, DidItsOwn, IsOfWorkers, AreWorkersWorks}
use Rattle.law_parallel.proofs.ByWorker.{among, of_more, of_none, of_all}
use Rattle.law_parallel.proofs.Numbered.{is_numbered}

-- Sums over the items of a merge.

module _ {A : Type 0} (f : A → ℕ) where
  abbrev total : List A → ℕ
  total [] = 0
  total (x ∷ xs) = f x + total xs

  abbrev in_parts : List (List A) → ℕ
  in_parts [] = 0
  in_parts (xs ∷ parts) = total xs + in_parts parts

  one_taken : (before after : List (List A)) (x : A) (rest : List A) → in_parts (before ++ (x ∷ rest) ∷ after) ≡ f x + in_parts (before ++ rest ∷ after)
  one_taken [] after x rest = omega arith
  one_taken (xs ∷ before) after x rest = let more = one_taken before after x rest in omega (arith, more)

  none_left : (parts : List (List A)) → list_all (λ xs. length xs == 0) parts ≡ true → in_parts parts ≡ 0
  none_left [] h = refl
  none_left ([] ∷ parts) h = let rest = none_left parts h in omega (arith, rest)
  none_left ((x ∷ xs) ∷ parts) h =
      let none : length (x ∷ xs) ≡ 0 = eq_from (length (x ∷ xs)) 0 (and_left (length (x ∷ xs) == 0) (list_all (λ ys. length ys == 0) parts) h) in absurd (omega (arith, none))

  merged_total : (parts : List (List A)) (ys : List A) → IsMerge parts ys → total ys ≡ in_parts parts
  merged_total _ [] (Done parts none) = sym (none_left parts none)
  merged_total _ _ (Next before after x rest out merged) =
      let taken = one_taken before after x rest in
      let same = merged_total (before ++ rest ∷ after) out merged in
      omega (arith, taken, same)

-- What each deed adds to a sum.

abbrev done_by : (ℕ × Emission → Bool) → ℕ × Deed → ℕ
done_by kind (place, Claims line order) = one_if (kind (line, New order))
done_by kind (place, Puts claim answer) = 0
done_by kind (place, Repeats line repeat answer) = one_if (kind (line, Again repeat))

abbrev put_by : (ℕ → Bool) → ℕ × Deed → ℕ
put_by q (place, Claims line order) = 0
put_by q (place, Puts claim answer) = one_if (q claim)
put_by q (place, Repeats line repeat answer) = 0

abbrev made_by : (ℕ → Bool) → ℕ × Deed → ℕ
made_by q (place, Claims line order) = one_if (q place)
made_by q (place, Puts claim answer) = 0
made_by q (place, Repeats line repeat answer) = 0

done_total : (kind : ℕ × Emission → Bool) (calls : List (ℕ × Deed)) → count_by kind (done_for_plans (deeds calls)) ≡ total (done_by kind) calls
done_total kind [] = refl
done_total kind ((place, Claims line order) ∷ calls) =
    let rest = done_total kind calls in let more = count_more kind (line, New order) (done_for_plans (deeds calls)) in omega (arith, rest, more)
done_total kind ((place, Puts claim answer) ∷ calls) = let rest = done_total kind calls in omega (arith, rest)
done_total kind ((place, Repeats line repeat answer) ∷ calls) =
    let rest = done_total kind calls in let more = count_more kind (line, Again repeat) (done_for_plans (deeds calls)) in omega (arith, rest, more)

put_total : (q : ℕ → Bool) (calls : List (ℕ × Deed)) → count_by q (claims_put (deeds calls)) ≡ total (put_by q) calls
put_total q [] = refl
put_total q ((place, Claims line order) ∷ calls) = let rest = put_total q calls in omega (arith, rest)
put_total q ((place, Puts claim answer) ∷ calls) = let rest = put_total q calls in let more = count_more q claim (claims_put (deeds calls)) in omega (arith, rest, more)
put_total q ((place, Repeats line repeat answer) ∷ calls) = let rest = put_total q calls in omega (arith, rest)

made_total : (q : ℕ → Bool) (calls : List (ℕ × Deed)) → count_by q (claims_made calls) ≡ total (made_by q) calls
made_total q [] = refl
made_total q ((place, Claims line order) ∷ calls) = let rest = made_total q calls in let more = count_more q place (claims_made calls) in omega (arith, rest, more)
made_total q ((place, Puts claim answer) ∷ calls) = let rest = made_total q calls in omega (arith, rest)
made_total q ((place, Repeats line repeat answer) ∷ calls) = let rest = made_total q calls in omega (arith, rest)

-- Sums over a whole log.

pub deeds_placed : (place : ℕ) (log : List Deed) → deeds (placed_from place log) ≡ log
deeds_placed place [] = refl
deeds_placed place (deed ∷ log) = ap (λ (ds : List Deed). deed ∷ ds) (deeds_placed (place + 1) log)

made_placed : (place : ℕ) (log : List Deed) → claims_made (placed_from place log) ≡ claimed_at place log
made_placed place [] = refl
made_placed place (Claims line order ∷ log) = ap (λ (ns : List ℕ). place ∷ ns) (made_placed (place + 1) log)
made_placed place (Puts claim answer ∷ log) = made_placed (place + 1) log
made_placed place (Repeats line repeat answer ∷ log) = made_placed (place + 1) log

-- Sums worker by worker.

abbrev Each : (workers from : ℕ) → List (ℕ × Emission) → List (List (ℕ × Deed)) → Type 0
Each workers from wanted calls = (k : ℕ) (mine : List (ℕ × Deed)) → slice_get calls k ≡ Some mine → DidItsOwn workers (from + k) wanted mine

module _ (workers : ℕ) (wanted : List (ℕ × Emission)) where
  first_did : (from : ℕ) (mine : List (ℕ × Deed)) (calls : List (List (ℕ × Deed))) → Each workers from wanted (mine ∷ calls) → DidItsOwn workers from wanted mine
  first_did from mine calls each = subst (λ (k : ℕ). DidItsOwn workers k wanted mine) (here from) (each zero mine refl)
    where
      here : (n : ℕ) → n + 0 ≡ n
      here n = omega arith

  others_did : (from : ℕ) (mine : List (ℕ × Deed)) (calls : List (List (ℕ × Deed))) → Each workers from wanted (mine ∷ calls) → Each workers (from + 1) wanted calls
  others_did from mine calls each k theirs at = subst (λ (n : ℕ). DidItsOwn workers n wanted theirs) (next from k) (each (suc k) theirs at)
    where
      next : (n k : ℕ) → n + suc k ≡ n + 1 + k
      next n k = omega arith

  -- The frames of a worker's claims are those that it put.
  puts_made : (q : ℕ → Bool) (from : ℕ) (calls : List (List (ℕ × Deed))) → Each workers from wanted calls → in_parts (put_by q) calls ≡ in_parts (made_by q) calls
  puts_made q from [] each = refl
  puts_made q from (mine ∷ calls) each =
      let one = put_total q mine in
      let two = made_total q mine in
      let same = ap (count_by q) (first_did from mine calls each).puts in
      let rest = puts_made q (from + 1) calls (others_did from mine calls each) in
      omega (arith, one, two, same, rest)

  -- What all workers did is what the plans of all their lines order.
  done_wanted : (kind : ℕ × Emission → Bool) (from : ℕ) (calls : List (List (ℕ × Deed))) → Each workers from wanted calls →
      in_parts (done_by kind) calls + count_by (among workers kind from) wanted ≡ count_by (among workers kind (from + length calls)) wanted
  done_wanted kind from [] each = let same = ap (λ (n : ℕ). count_by (among workers kind n) wanted) (none_more from) in omega (arith, same)
    where
      none_more : (n : ℕ) → n ≡ n + 0
      none_more n = omega arith
  done_wanted kind from (mine ∷ calls) each =
      let one = done_total kind mine in
      let same = ap (count_by kind) (first_did from mine calls each).wants in
      let more = of_more workers kind from wanted in
      let rest = done_wanted kind (from + 1) calls (others_did from mine calls each) in
      let next : count_by (among workers kind (suc from)) wanted ≡ count_by (among workers kind (from + 1)) wanted = ap (λ (n : ℕ). count_by (among workers kind n) wanted) (one_more from) in
      let last : count_by (among workers kind (from + 1 + length calls)) wanted ≡ count_by (among workers kind (from + suc (length calls))) wanted =
      ap (λ (n : ℕ). count_by (among workers kind n) wanted) (one_behind from (length calls)) in
      omega (arith, one, same, more, rest, next, last)
    where
      one_more : (n : ℕ) → suc n ≡ n + 1
      one_more n = omega arith

      one_behind : (n m : ℕ) → n + 1 + m ≡ n + suc m
      one_behind n m = omega arith

  answered_each : (from : ℕ) (calls : List (List (ℕ × Deed))) → Each workers from wanted calls → list_all (list_all (λ (c : ℕ × Deed). is_answered c.1)) calls ≡ true
  answered_each from [] each = refl
  answered_each from (mine ∷ calls) each =
      and_both (list_all (λ (c : ℕ × Deed). is_answered c.1) mine) (list_all (list_all (λ (c : ℕ × Deed). is_answered c.1)) calls)
      (by_deeds mine ∙ (first_did from mine calls each).answered) (answered_each (from + 1) calls (others_did from mine calls each))
    where
      by_deeds : (mine : List (ℕ × Deed)) → list_all (λ (c : ℕ × Deed). is_answered c.1) mine ≡ list_all is_answered (deeds mine)
      by_deeds [] = refl
      by_deeds (c ∷ mine) = ap (λ (b : Bool). is_answered c.1 && b) (by_deeds mine)

  module _ (some : 1 ≤ workers) (calls : List (List (ℕ × Deed))) (log : List Deed) (h : IsOfWorkers workers wanted calls log) where
    abbrev placed : List (ℕ × Deed)
    placed = placed_from 0 log

    each : Each workers 0 wanted calls
    each k mine at = subst (λ (n : ℕ). DidItsOwn workers n wanted mine) (none k) (h.each k mine at)
      where
        none : (k : ℕ) → k ≡ 0 + k
        none k = omega arith

    pub all_done : HaveTheSame (done_for_plans log) wanted
    all_done kind =
        let all = ap (λ (ds : List Deed). count_by kind (done_for_plans ds)) (deeds_placed 0 log) in
        let one = done_total kind placed in
        let two = merged_total (done_by kind) calls placed h.merged in
        let three = done_wanted kind 0 calls each in
        let four = counted_none (among workers kind 0) (of_none workers kind) wanted in
        let callers : 0 + length calls ≡ workers = let size = h.callers in omega (arith, size) in
        let five = ap (λ (n : ℕ). count_by (among workers kind n) wanted) callers in
        let six = count_same (among workers kind workers) kind (of_all workers kind some) wanted in
        omega (arith, all, one, two, three, four, five, six)

    pub all_put : HaveTheSame (claims_put log) (claimed_at 0 log)
    all_put q =
        let all = ap (λ (ds : List Deed). count_by q (claims_put ds)) (deeds_placed 0 log) in
        let one = put_total q placed in
        let two = merged_total (put_by q) calls placed h.merged in
        let three = puts_made q 0 calls each in
        let four = merged_total (made_by q) calls placed h.merged in
        let five = made_total q placed in
        let six = ap (count_by q) (made_placed 0 log) in
        omega (arith, all, one, two, three, four, five, six)

    pub all_answered : list_all is_answered log ≡ true
    all_answered =
        ap (list_all is_answered) (sym (deeds_placed 0 log)) ∙ sym (by_deeds placed) ∙ merge_holds (λ (c : ℕ × Deed). is_answered c.1) calls placed h.merged (answered_each 0 calls each)
      where
        by_deeds : (mine : List (ℕ × Deed)) → list_all (λ (c : ℕ × Deed). is_answered c.1) mine ≡ list_all is_answered (deeds mine)
        by_deeds [] = refl
        by_deeds (c ∷ mine) = ap (λ (b : Bool). is_answered c.1 && b) (by_deeds mine)

pub are_lane_works : (net : Network) (workers : ℕ) (w : World) (jobs : List Job) (histories : List (List Work)) (calls : Lane → List (List (ℕ × Deed))) (logs : Lane → List Deed) → 1 ≤ workers →
    AreWorkersWorks net workers w jobs histories calls logs → AreLaneWorks net workers w jobs histories (λ l. numbered (logs l))
are_lane_works net workers w jobs histories calls logs some h = record {
  nodes = h.nodes;
  merged = h.merged;
  turns = h.turns;
  wanted = λ l e kind. ap (count_by kind) (is_numbered (logs l) (all_put workers _ some (calls l) (logs l) (h.lanes l e))).wanted ∙ all_done workers _ some (calls l) (logs l) (h.lanes l e) kind;
  put = λ l e. (is_numbered (logs l) (all_put workers _ some (calls l) (logs l) (h.lanes l e))).put;
  answered = λ l e. (is_numbered (logs l) (all_put workers _ some (calls l) (logs l) (h.lanes l e))).answered ∙ all_answered workers _ some (calls l) (logs l) (h.lanes l e);
  undeclared = λ l e. ap numbered (h.undeclared l e);
}
