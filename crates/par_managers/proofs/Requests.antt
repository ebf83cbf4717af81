-- The requests of a worker's entries to one manager, entry by entry.
use Rattle.std.proofs.Common.{◌≡◌, ℕ, ◌+◌, ◌%◌, true, false, List, [], ◌∷◌, ◌++◌, map, drop, refl, sym, ap, ◌∙◌, append_assoc, append-nil, Option, Some, None}
use Rattle.std.specs.Prelude.{◌==◌, IfSome, if◌then◌else◌}
use Rattle.std.specs.List.{AllByRecursion}
use Rattle.std.proofs.lemmas.List.{map-append}
use Rattle.net_model.specs.Site.{Site}
use Rattle.net_model.specs.Action.{Ok}
use Rattle.run_model.specs.Works.{Work}
use Rattle.run_ops.specs.declared.job.Job.{Job}
use Rattle.run_ops.specs.Jobs.{asked_for, turn_for, asked_by}
use Rattle.law_base.proofs.Base.{when_true, when_false}
use Rattle.shared_objects.specs.declared.call.Call.{Call}
use Rattle.shared_objects.specs.Asked.{requests_on}
use Rattle.par_managers.specs.declared.turn.Turn.{Turn}
use Rattle.par_managers.specs.Turning.{asked_with}
use Rattle.par_managers.specs.Calls.{work_of, IsCallFor, IsEntry}

pub requests-append : {Q : Type 0} (v : ℕ) (xs ys : List (Option (Call Q))) → requests_on v (xs ++ ys) ≡ requests_on v xs ++ requests_on v ys
requests-append v [] ys = refl
requests-append v (None ∷ xs) ys = requests-append v xs ys
requests-append {Q} v (Some call ∷ xs) ys =
    let rest = requests-append v xs ys in
    elim (call.machine == v) as
    (λ t. (if t then call.request ∷ requests_on v (xs ++ ys) else requests_on v (xs ++ ys)) ≡ (if t then call.request ∷ requests_on v xs else requests_on v xs) ++ requests_on v ys) [
      | true ↦ ap (λ (zs : List Q). call.request ∷ zs) rest
      | false ↦ rest
    ]

-- What holds for the requests of all calls holds for those on one machine.
pub all_requests : {Q : Type 0} (P : Q → Type 0) (v : ℕ) (entries : List (Option (Call Q))) → AllByRecursion (λ entry. IfSome entry (λ call. P call.request)) entries → AllByRecursion P (requests_on v entries)
all_requests P v [] h = tt
all_requests P v (None ∷ entries) h = all_requests P v entries h.1
all_requests P v (Some call ∷ entries) h =
    let rest = all_requests P v entries h.1 in
    elim (call.machine == v) as (λ t. AllByRecursion P (if t then call.request ∷ requests_on v entries else requests_on v entries)) [
      | true ↦ (h.0, rest)
      | false ↦ rest
    ]

module _ (s : Site) (place : ℕ) (job : Job) (v : ℕ) where
  abbrev turns : List Work
  turns = turn_for s v place (asked_for job)

  work_is : (call : Call Turn) → IsCallFor s place job call → work_of call.request ≡ record { place = place; action = asked_with job Ok }
  work_is call h i = record { place = h.at i; action = asked_with (h.is i) Ok }

  pub one_asked : (entry : Option (Call Turn)) → IsEntry s place job entry → map work_of (requests_on v (entry ∷ [])) ≡ turns
  one_asked None h = sym (h v)
  one_asked (Some call) h =
      let same = work_is call h in
      let one : map work_of (if call.machine == v then call.request ∷ [] else []) ≡ (if call.machine == v then record { place = place; action = asked_with job Ok } ∷ [] else []) =
      elim (call.machine == v) as (λ t. map work_of (if t then call.request ∷ [] else []) ≡ (if t then record { place = place; action = asked_with job Ok } ∷ [] else [])) [
        | true ↦ ap (λ (x : Work). x ∷ []) same
        | false ↦ refl
      ] in
      one ∙ sym (h.turn v)

module _ (s : Site) (workers k v : ℕ) (jobs : List Job) where
  -- what was asked so far, and what the jobs from a place on ask
  abbrev pub Going : ℕ → List (Option (Call Turn)) → Type 0
  Going place entries = map work_of (requests_on v entries) ++ asked_by s workers k v place (drop place jobs) ≡ asked_by s workers k v 0 jobs

  pub going_none : Going 0 []
  going_none = refl

  module _ (place : ℕ) (job : Job) (entries : List (Option (Call Turn))) (rest : drop place jobs ≡ job ∷ drop (place + 1) jobs) (so : Going place entries) where
    abbrev later : List Work
    later = asked_by s workers k v (place + 1) (drop (place + 1) jobs)

    unfolded : asked_by s workers k v place (drop place jobs) ≡ (if place % workers == k then turn_for s v place (asked_for job) else []) ++ later
    unfolding asked_by
    unfolded = ap (asked_by s workers k v place) rest

    pub going_on : (place % workers == k) ≡ false → Going (place + 1) entries
    going_on not =
        ap (λ (xs : List Work). map work_of (requests_on v entries) ++ xs)
        (sym (unfolded ∙ ap (λ (xs : List Work). xs ++ later) (when_false (place % workers == k) (turn_for s v place (asked_for job)) [] not))) ∙ so

    pub going_more : (place % workers == k) ≡ true → (entry : Option (Call Turn)) → IsEntry s place job entry → Going (place + 1) (entries ++ entry ∷ [])
    going_more mine entry h =
        let before : List Work = map work_of (requests_on v entries) in
        let here : List Work = turn_for s v place (asked_for job) in
        ap (λ (xs : List Work). xs ++ later)
        (ap (map work_of) (requests-append v entries (entry ∷ [])) ∙ map-append work_of (requests_on v entries) (requests_on v (entry ∷ [])) ∙ ap (λ (xs : List Work). before ++ xs) (one_asked s place job v entry h))
        ∙ append_assoc before here later
        ∙ ap (λ (xs : List Work). before ++ xs) (sym (unfolded ∙ ap (λ (xs : List Work). xs ++ later) (when_true (place % workers == k) here [] mine))) ∙ so

  pub going_all : (place : ℕ) (entries : List (Option (Call Turn))) → drop place jobs ≡ [] → Going place entries → map work_of (requests_on v entries) ≡ asked_by s workers k v 0 jobs
  unfolding asked_by
  going_all place entries none so =
      sym (append-nil (map work_of (requests_on v entries))) ∙ sym (ap (λ (js : List Job). map work_of (requests_on v entries) ++ asked_by s workers k v place js) none) ∙ so
