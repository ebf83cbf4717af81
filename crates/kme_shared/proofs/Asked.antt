-- Worker k asks for the lines whose places modulo the number of workers are k.
use Rattle.std.proofs.Common.{◌≡◌, ℕ, ◌+◌, ◌%◌, true, false, List, [], ◌∷◌, refl, Option, Some, None}
use Rattle.std.specs.Prelude.{◌==◌, if◌then◌else◌}
use Rattle.std.specs.List.{AllByRecursion}
use Rattle.net_model.specs.Site.{Site}
use Rattle.net_model.specs.Action.{Action}
use Rattle.net_model.specs.BlockOrder.{is_turn_of}
use Rattle.run_model.specs.Works.{Work}
use Rattle.run_ops.specs.declared.job.Job.{Job}
use Rattle.run_ops.specs.Jobs.{asked_for, asked_by, turn_for}
use Rattle.law_base.proofs.Base.{eq_from}
use Rattle.law_base.proofs.Lists.{all_both}

module _ (s : Site) (workers k v : ℕ) where
  abbrev IsOwn : Work → Type 0
  IsOwn x = x.place % workers ≡ k

  one_own : (place : ℕ) (action : Option Action) → place % workers ≡ k → AllByRecursion IsOwn (turn_for s v place action)
  one_own place None is = tt
  one_own place (Some action) is = elim (is_turn_of s v action) as (λ t. AllByRecursion IsOwn (if t then record { place = place; action = action } ∷ [] else [])) [
    | true ↦ (is, tt)
    | false ↦ tt
  ]

  pub asked_own : (place : ℕ) (jobs : List Job) → AllByRecursion (λ (x : Work). x.place % workers ≡ k) (asked_by s workers k v place jobs)
  unfolding asked_by
  asked_own place [] = tt
  asked_own place (job ∷ rest) =
      all_both IsOwn (if place % workers == k then turn_for s v place (asked_for job) else []) (asked_by s workers k v (place + 1) rest)
      (elim (place % workers == k) as (λ t. (place % workers == k) ≡ t → AllByRecursion IsOwn (if t then turn_for s v place (asked_for job) else [])) [
        | true ↦ λ e. one_own place (asked_for job) (eq_from (place % workers) k e)
        | false ↦ λ e. tt
      ] refl)
      (asked_own (place + 1) rest)
