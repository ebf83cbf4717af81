-- What the lines of a block ask for.
use Rattle.std.proofs.Common.{◌≡◌, ℕ, suc, ◌+◌, ◌%◌, Bool, true, false, ◌&&◌, List, [], ◌∷◌, ◌++◌, map, refl, sym, ap, ◌∙◌, arith}
use Rattle.std.specs.Prelude.{◌==◌, slice_get, if◌then◌else◌, Option, Some, None}
use Rattle.std.specs.List.{AllByRecursion}
use Rattle.net_model.specs.Site.{Site, count_up}
use Rattle.net_model.specs.World.{Network, World}
use Rattle.net_model.specs.Action.{Action}
use Rattle.net_model.specs.BlockOrder.{IsMerge, is_turn_of}
use Rattle.run_types.specs.declared.line.Line.{Line}
use Rattle.run_model.specs.Turn.{HttpTexts, Turn, Unasked, Asked}
use Rattle.run_model.specs.Works.{Work, Works, Done, flat, plain_work, block_turn, done_from, turns_done, asked_of, asked_by as asked_for_lines}
use Rattle.run_ops.specs.declared.job.Job.{Job}
use Rattle.run_ops.specs.Jobs.{asked_for, turn_for, asked_by}
use Rattle.run_ops.specs.Together.{AreWorks}
use Rattle.run_tasks.specs.declared.prepared.Place.{Place}
use Rattle.run_tasks.specs.Prepared.{asked_in, AreOfLines}
use Rattle.run_tasks.proofs.Merged.{all_on, all_as, all_mapped, all_before, of_parts}

-- ---- lines ask what their jobs ask

turn_asks : (site : Site) (v place : ℕ) (turn : Turn) → asked_of site v place turn ≡ turn_for site v place (asked_in turn)
turn_asks site v place (Unasked said) = refl
turn_asks site v place (Asked action said) = refl

one_asks : (b : Bool) (xs ys : List Work) → xs ≡ ys → (if b && true then xs else []) ≡ (if b then ys else [])
one_asks true xs ys e = e
one_asks false xs ys e = refl

module _ (http : HttpTexts) (site : Site) (w : World) where
  pub same_asked : (workers k v place : ℕ) (lines : List Line) (jobs : List Job) (places : List Place) → AreOfLines http site w lines jobs places →
      asked_for_lines http site w None workers k v place lines ≡ asked_by site workers k v place jobs
  unfolding asked_for_lines asked_by
  same_asked workers k v place [] [] places h = refl
  same_asked workers k v place [] (j ∷ js) places h = absurd h
  same_asked workers k v place (l ∷ ls) [] places h = absurd h
  same_asked workers k v place (l ∷ ls) (j ∷ js) [] h = absurd h
  same_asked workers k v place (l ∷ ls) (j ∷ js) (p ∷ ps) h =
      let turn = block_turn http site w l.command in
      let one : asked_of site v place turn ≡ turn_for site v place (asked_for j) = turn_asks site v place turn ∙ ap (turn_for site v place) (sym h.0.1.asks) in
      let here = one_asks (place % workers == k) (asked_of site v place turn) (turn_for site v place (asked_for j)) one in
      ap (λ (xs : List Work). xs ++ asked_for_lines http site w None workers k v (place + 1) ls) here
      ∙ ap (λ (xs : List Work). (if place % workers == k then turn_for site v place (asked_for j) else []) ++ xs) (same_asked workers k v (place + 1) ls js ps h.1)

  pub all_same_asked : (workers v : ℕ) (lines : List Line) (jobs : List Job) (places : List Place) → AreOfLines http site w lines jobs places → (ks : List ℕ) →
      map (λ k. asked_for_lines http site w None workers k v 0 lines) ks ≡ map (λ k. asked_by site workers k v 0 jobs) ks
  all_same_asked workers v lines jobs places h [] = refl
  all_same_asked workers v lines jobs places h (k ∷ ks) =
      ap (λ (xs : List Work). xs ∷ map (λ k. asked_for_lines http site w None workers k v 0 lines) ks) (same_asked workers k v 0 lines jobs places h)
      ∙ ap (λ (xs : List (List Work)). asked_by site workers k v 0 jobs ∷ xs) (all_same_asked workers v lines jobs places h ks)

-- ---- each action was asked for at its place

abbrev pub asks_at : Option Job → Option Action
asks_at None = None
asks_at (Some job) = asked_for job

-- The job at this place asks for something.
pub record IsAsked (jobs : List Job) (first place : ℕ) : Type 0 where
  pub at : ℕ
  pub is : place ≡ first + at
  pub action : Action
  pub asks : asks_at (slice_get jobs at) ≡ Some action

further : (job : Job) (jobs : List Job) (first place : ℕ) → IsAsked jobs (first + 1) place → IsAsked (job ∷ jobs) first place
further job jobs first place h = record { at = suc h.at; is = (let is = h.is in omega (arith, is)); action = h.action; asks = h.asks }

module _ (site : Site) (workers k v : ℕ) where
  asked_here : (job : Job) (jobs : List Job) (first : ℕ) (o : Option Action) → asked_for job ≡ o →
      AllByRecursion (λ (x : Work). IsAsked (job ∷ jobs) first x.place) (turn_for site v first o)
  asked_here job jobs first None e = tt
  asked_here job jobs first (Some action) e =
      elim (is_turn_of site v action) as (λ b. AllByRecursion (λ (x : Work). IsAsked (job ∷ jobs) first x.place) (if b then record { place = first; action = action } ∷ [] else [])) [
        | true ↦ (record { at = 0; is = omega arith; action = action; asks = e }, tt)
        | false ↦ tt
      ]

  if_asked : (b : Bool) (P : Work → Type 0) (xs : List Work) → AllByRecursion P xs → AllByRecursion P (if b then xs else [])
  if_asked true P xs h = h
  if_asked false P xs h = tt

  pub are_asked : (first : ℕ) (jobs : List Job) → AllByRecursion (λ (x : Work). IsAsked jobs first x.place) (asked_by site workers k v first jobs)
  unfolding asked_by
  are_asked first [] = tt
  are_asked first (job ∷ jobs) =
      all_on (λ (x : Work). IsAsked (job ∷ jobs) first x.place) (if first % workers == k then turn_for site v first (asked_for job) else []) (asked_by site workers k v (first + 1) jobs)
      (if_asked (first % workers == k) (λ (x : Work). IsAsked (job ∷ jobs) first x.place) (turn_for site v first (asked_for job)) (asked_here job jobs first (asked_for job) refl))
      (all_as (λ (x : Work). IsAsked jobs (first + 1) x.place) (λ (x : Work). IsAsked (job ∷ jobs) first x.place) (λ x h. further job jobs first x.place h)
      (asked_by site workers k v (first + 1) jobs) (are_asked (first + 1) jobs))

module _ (net : Network) (w : World) (jobs : List Job) where
  history_asked : (workers v : ℕ) (h : List Work) → IsMerge (map (λ k. asked_by net.site workers k v 0 jobs) (count_up workers)) (map plain_work h) →
      AllByRecursion (λ (x : Work). IsAsked jobs 0 x.place) h
  history_asked workers v h merged =
      all_before (λ (x : Work). IsAsked jobs 0 x.place) plain_work h
      (of_parts (λ (x : Work). IsAsked jobs 0 x.place) (map (λ k. asked_by net.site workers k v 0 jobs) (count_up workers)) (map plain_work h) merged
      (all_mapped (AllByRecursion (λ (x : Work). IsAsked jobs 0 x.place)) (λ k. asked_by net.site workers k v 0 jobs) (λ k. are_asked net.site workers k v 0 jobs) (count_up workers)))

  done_asked : (h : List Work) (at : World) → AllByRecursion (λ (x : Work). IsAsked jobs 0 x.place) h → AllByRecursion (λ (d : Done). IsAsked jobs 0 d.work.place) (done_from net at h)
  unfolding done_from
  done_asked [] at h = tt
  done_asked (x ∷ xs) at h = (h.0, done_asked xs _ h.1)

  all_asked : (hs : List (List Work)) → ((v : ℕ) (h : List Work) → slice_get hs v ≡ Some h → AllByRecursion (λ (x : Work). IsAsked jobs 0 x.place) h) →
      AllByRecursion (λ (d : Done). IsAsked jobs 0 d.work.place) (flat (map (done_from net w) hs))
  all_asked [] each = tt
  all_asked (h ∷ hs) each =
      all_on (λ (d : Done). IsAsked jobs 0 d.work.place) (done_from net w h) (flat (map (done_from net w) hs)) (done_asked h w (each 0 h refl))
      (all_asked hs (λ v x at. each (suc v) x at))

  pub turns_asked : (workers : ℕ) (works : Works) → AreWorks net workers w jobs works → AllByRecursion (λ (d : Done). IsAsked jobs 0 d.work.place) (flat (turns_done net w works))
  turns_asked workers works are = all_asked works.histories (λ v h at. history_asked workers v h (are.merged v h at))
