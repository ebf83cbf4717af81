-- What jobs ask of a manager are turns of that manager.
use Rattle.std.proofs.Common.{◌≡◌, ℕ, zero, suc, ◌+◌, ◌<◌, ◌≤◌, ◌%◌, Bool, true, false, ◌&&◌, List, [], ◌∷◌, ◌++◌, length, map, refl, sym, ◌∙◌, subst, arith, Option, Some, None}
use Rattle.std.specs.Prelude.{◌==◌, slice_get, if◌then◌else◌}
use Rattle.std.specs.List.{list_all}
use Rattle.std.proofs.lemmas.List.Folds.{list_all-map}
use Rattle.net_model.specs.Site.{Site, count_up}
use Rattle.net_model.specs.World.{Network}
use Rattle.net_model.specs.Action.{Action, Ask, Deliver}
use Rattle.net_model.specs.BlockOrder.{IsMerge, is_turn_of}
use Rattle.run_model.specs.Play.{plain}
use Rattle.run_model.specs.Works.{Work, actions_in, flat, plain_work}
use Rattle.run_ops.specs.declared.job.Job.{Job}
use Rattle.run_ops.specs.Jobs.{asked_for, turn_for, asked_by}
use Rattle.law_base.proofs.Base.{and_left, and_right, and_both}
use Rattle.law_base.proofs.Lists.{all_both}
use Rattle.law_parallel.specs.Remaining.{AreTurns}
use Rattle.law_parallel.proofs.Histories.{AreOfNodes}
use Rattle.law_parallel.proofs.Merges.{merge_holds}

module _ (s : Site) (v : ℕ) where
  abbrev is_turn : Work → Bool
  is_turn x = is_turn_of s v x.action

  abbrev are_turns : List Work → Bool
  are_turns h = list_all is_turn h

  both_turns : (xs ys : List Work) → are_turns xs ≡ true → are_turns ys ≡ true → are_turns (xs ++ ys) ≡ true
  both_turns [] ys h k = k
  both_turns (x ∷ xs) ys h k =
      and_both (is_turn_of s v x.action) (are_turns (xs ++ ys)) (and_left (is_turn_of s v x.action) (are_turns xs) h)
      (both_turns xs ys (and_right (is_turn_of s v x.action) (are_turns xs) h) k)

  turn_for_turns : (place : ℕ) (o : Option Action) → are_turns (turn_for s v place o) ≡ true
  turn_for_turns place None = refl
  turn_for_turns place (Some action) =
      elim (is_turn_of s v action) as (λ t. is_turn_of s v action ≡ t → are_turns (if t then record { place = place; action = action } ∷ [] else []) ≡ true) [
        | true ↦ λ e. and_both (is_turn_of s v action) true e refl
        | false ↦ λ e. refl
      ] refl

  if_turns : (b : Bool) (xs : List Work) → are_turns xs ≡ true → are_turns (if b then xs else []) ≡ true
  if_turns true xs h = h
  if_turns false xs h = refl

  asked_turns : (workers k place : ℕ) (jobs : List Job) → are_turns (asked_by s workers k v place jobs) ≡ true
  unfolding asked_by
  asked_turns workers k place [] = refl
  asked_turns workers k place (job ∷ rest) =
      both_turns (if place % workers == k then turn_for s v place (asked_for job) else []) (asked_by s workers k v (place + 1) rest)
      (if_turns (place % workers == k) (turn_for s v place (asked_for job)) (turn_for_turns place (asked_for job))) (asked_turns workers k (place + 1) rest)

  -- Whether an action is a turn doesn't depend on the answers of the outside.
  plain_turn : (a : Action) → is_turn_of s v (plain a) ≡ is_turn_of s v a
  plain_turn (Ask u event environment) = refl
  plain_turn (Deliver l number environment) = refl
  plain_turn _ = refl

  plain_turns : (h : List Work) → are_turns (map plain_work h) ≡ are_turns h
  plain_turns [] = refl
  plain_turns (x ∷ h) = let one = plain_turn x.action in let rest = plain_turns h in λ i. one i && rest i

  all_turns_of : (workers : ℕ) (jobs : List Job) (ks : List ℕ) → list_all are_turns (map (λ k. asked_by s workers k v 0 jobs) ks) ≡ true
  all_turns_of workers jobs [] = refl
  all_turns_of workers jobs (k ∷ ks) =
      and_both (are_turns (asked_by s workers k v 0 jobs)) (list_all are_turns (map (λ k. asked_by s workers k v 0 jobs) ks)) (asked_turns workers k 0 jobs) (all_turns_of workers jobs ks)

  turns_of_jobs : (workers : ℕ) (jobs : List Job) (h : List Work) → IsMerge (map (λ k. asked_by s workers k v 0 jobs) (count_up workers)) (map plain_work h) →
      list_all (is_turn_of s v) (actions_in h) ≡ true
  turns_of_jobs workers jobs h merged =
      list_all-map (is_turn_of s v) (λ (x : Work). x.action) h ∙ sym (plain_turns h)
      ∙ merge_holds is_turn (map (λ k. asked_by s workers k v 0 jobs) (count_up workers)) (map plain_work h) merged (all_turns_of workers jobs (count_up workers))

module _ (net : Network) (workers : ℕ) (jobs : List Job) where
  -- What the manager of node v did is a merge of what the workers ask of it.
  abbrev pub IsAsked : ℕ → List Work → Type 0
  IsAsked v h = IsMerge (map (λ k. asked_by net.site workers k v 0 jobs) (count_up workers)) (map plain_work h)

  -- What each manager from node v on did is a merge of what the workers ask of it.
  abbrev pub AreAsked : ℕ → List (List Work) → Type 0
  AreAsked v hs = (i : ℕ) (h : List Work) → slice_get hs i ≡ Some h → IsAsked (v + i) h

  pub are_asked : (hs : List (List Work)) → ((v : ℕ) (h : List Work) → slice_get hs v ≡ Some h → IsAsked v h) → AreAsked 0 hs
  are_asked hs asked i h at = subst (λ (n : ℕ). IsAsked n h) (none_more i) (asked i h at)
    where
      none_more : (i : ℕ) → i ≡ 0 + i
      none_more i = omega arith

  pub first_asked : (v : ℕ) (h : List Work) (hs : List (List Work)) → AreAsked v (h ∷ hs) → IsAsked v h
  first_asked v h hs asked = subst (λ (n : ℕ). IsAsked n h) (here v) (asked zero h refl)
    where
      here : (v : ℕ) → v + 0 ≡ v
      here v = omega arith

  pub later_asked : (v : ℕ) (h : List Work) (hs : List (List Work)) → AreAsked v (h ∷ hs) → AreAsked (v + 1) hs
  later_asked v h hs asked i k at = subst (λ (n : ℕ). IsAsked n k) (next v i) (asked (suc i) k at)
    where
      next : (v i : ℕ) → v + suc i ≡ v + 1 + i
      next v i = omega arith

  pub of_nodes : (hs : List (List Work)) (v : ℕ) → AreAsked v hs → AreOfNodes net v hs
  of_nodes [] v asked = tt
  of_nodes (h ∷ hs) v asked = (turns_of_jobs net.site v workers jobs h (first_asked v h hs asked), of_nodes hs (v + 1) (later_asked v h hs asked))

module _ (net : Network) where
  turns_at : (v : ℕ) → v < net.site.nodes → (h : List Work) → list_all (is_turn_of net.site v) (actions_in h) ≡ true → AreTurns net h
  turns_at v node [] turns = tt
  turns_at v node (x ∷ h) turns = (
    (v, node, and_left (is_turn_of net.site v x.action) (list_all (is_turn_of net.site v) (actions_in h)) turns),
    turns_at v node h (and_right (is_turn_of net.site v x.action) (list_all (is_turn_of net.site v) (actions_in h)) turns),
  )

  pub all_turns : (hs : List (List Work)) (v : ℕ) → v + length hs ≤ net.site.nodes → AreOfNodes net v hs → AreTurns net (flat hs)
  all_turns [] v few nodes = tt
  all_turns (h ∷ hs) v few nodes =
      all_both (λ (x : Work). (u : ℕ) × (u < net.site.nodes) × (is_turn_of net.site u x.action ≡ true)) h (flat hs) (turns_at v (omega (arith, few)) h nodes.0)
      (all_turns hs (v + 1) (omega (arith, few)) nodes.1)
