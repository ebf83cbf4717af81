-- A worker keeps at most one reply for each of its jobs.
use Rattle.std.proofs.Common.{◌≡◌, ℕ, zero, suc, ◌+◌, ◌<◌, ◌≤◌, List, [], ◌∷◌, length, ap, subst, ◌∙◌, arith, length-append, Option, Some, None}
use Rattle.std.specs.Prelude.{slice_get}
use Rattle.std.specs.List.{AllByRecursion, flat_map}
use Rattle.std.proofs.lemmas.Option.{slice_get_within}
use Rattle.block_run.specs.Jobs.{jobs_of, job_count, Chains}
use Rattle.lane_sender.specs.Lane.{LaneForm}
use Rattle.par_lanes.specs.declared.frame_log.FrameLog.{FrameLog}
use Rattle.shared_objects.specs.declared.call.Call.{Call}
use Rattle.shared_objects.proofs.Zips.{item_at}
use Rattle.shared_objects.specs.Said.{Said}
use Rattle.shared_objects.specs.Done.{HaveTalked}
use Rattle.par_managers.proofs.Workers.{long_jobs}
use Rattle.par_managers.specs.declared.turn.Turn.{Turn}
use Rattle.par_managers.specs.declared.keep.Replied.{Replied}
use Rattle.par_managers.specs.declared.keep.Keep.{Keep}
use Rattle.par_managers.specs.Doing.{Ask, Answer, DidEntry, DoesJob}
use Rattle.kme_shared.proofs.Counting.{counts, all_counted, few_of_all}

some_is : {A : Type 0} {a b : A} → ◌≡◌ {A = Option A} (Some a) (Some b) → a ≡ b
some_is h = cc

pub all_at : {A : Type 0} (P : A → Type 0) (xs : List A) (i : ℕ) (x : A) → AllByRecursion P xs → slice_get xs i ≡ Some x → P x
all_at P [] i x h at = cc
all_at P (y ∷ ys) zero x h at = subst P (some_is at) h.0
all_at P (y ∷ ys) (suc i) x h at = all_at P ys i x h.1 at

module _ {X : Type 0} (lanes : List (LaneForm X)) (first : ℕ) where
  one_reply : (entry : Option (Call Turn)) (said : List (Said Ask Answer)) (replies : List Replied) (log : FrameLog) (replies' : List Replied) (log' : FrameLog) → DidEntry lanes first entry said replies log replies' log' →
      length replies' ≤ length replies + 1
  one_reply None said replies log replies' log' h = let e = ap (λ (xs : List Replied). length xs) h.1 in omega (arith, e)
  one_reply (Some call) said replies log replies' log' h = let e = ap (λ (xs : List Replied). length xs) h.kept in let a = length-append replies (h.replied ∷ []) in omega (arith, e, a)

  few_replies : (jobs : List ℕ) (keep : Keep) (talk : List (ℕ × List (Said Ask Answer))) (next : Keep) → Chains (DoesJob lanes first) jobs keep talk next → length next.replies.items ≤ length keep.replies.items + length jobs
  few_replies [] keep talk next h = let e = ap (λ (k : Keep). length k.replies.items) h.1 in omega (arith, e)
  few_replies (job ∷ jobs) keep talk next (answer, mid, rest, does, is, chain) =
      let one = one_reply does.0 answer keep.replies.items keep.log mid.replies.items mid.log does.2 in
      let more = few_replies jobs mid rest next chain in
      omega (arith, one, more)

  module _ (jobs : ℕ) (keeps : List Keep) (talks : List (List (ℕ × List (Said Ask Answer)))) (nexts : List Keep) (h : HaveTalked (DoesJob lanes first) jobs keeps talks nexts)
      (none : AllByRecursion (λ (keep : Keep). keep.replies.items ≡ []) keeps) where
    of_worker : (k : ℕ) (next : Keep) → slice_get nexts k ≡ Some next → length next.replies.items ≤ job_count k (length keeps) jobs
    of_worker k next at =
        let within = slice_get_within nexts k next at in
        let many = h.keeps in
        let keep = item_at keeps k (omega (arith, within, many)) in
        let talk = item_at talks k (let t = h.workers in omega (arith, within, many, t)) in
        let few = few_replies (jobs_of k (length keeps) jobs) keep.0 talk.0 next (h.chains k keep.0 next talk.0 keep.1 at talk.1) in
        let long = long_jobs k (length keeps) (job_count k (length keeps) jobs) in
        let empty = ap (λ (xs : List Replied). length xs) (all_at (λ (keep : Keep). keep.replies.items ≡ []) keeps k keep.0 none keep.1) in
        omega (arith, few, long, empty)

    pub all_replies : 0 < length keeps → length (flat_map (λ (keep : Keep). keep.replies.items) nexts) ≤ jobs
    all_replies some =
        let few = few_of_all (λ (keep : Keep). keep.replies.items) (length keeps) jobs nexts 0 (λ k next at. subst (λ (m : ℕ). length next.replies.items ≤ job_count m (length keeps) jobs) (same k) (of_worker k next at)) in
        let all = all_counted (length keeps) jobs some in
        let many = ap (counts (length keeps) jobs) (zero_more (length nexts) ∙ h.keeps) in
        omega (arith, few, all, many)
      where
        same : (k : ℕ) → k ≡ 0 + k
        same k = omega arith

        zero_more : (k : ℕ) → 0 + k ≡ k
        zero_more k = omega arith
