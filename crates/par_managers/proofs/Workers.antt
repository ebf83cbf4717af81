-- The shifts of all workers, in order.
use Rattle.std.proofs.Common.{◌≡◌, inl, inr, ℕ, zero, suc, ◌+◌, ◌<◌, ◌≤◌, ◌%◌, true, false, List, [], ◌∷◌, ◌++◌, length, map, drop, refl, sym, ap, subst, ◌∙◌, arith, length-append, Option, Some, None}
use Rattle.std.specs.Prelude.{◌==◌, slice_get, get_or, IfSome}
use Rattle.std.proofs.lemmas.Option.{slice_get-get_or}
use Rattle.std.specs.List.{AllByRecursion}
use Rattle.std.proofs.lemmas.List.{map-append}
use Rattle.net_model.specs.Site.{count_up}
use Rattle.block_run.specs.Jobs.{job_count, jobs_from}
use Rattle.declared_site.specs.SiteOf.{site_of}
use Rattle.run_model.specs.Works.{Work}
use Rattle.run_ops.specs.declared.job.Job.{Job}
use Rattle.run_ops.specs.Jobs.{asked_by}
use Rattle.law_base.proofs.Base.{eq_same, eq_from, split, slice_get-append_left, slice_get-append_right}
use Rattle.shared_objects.specs.declared.call.Call.{Call}
use Rattle.shared_objects.specs.Asked.{requests_on}
use Rattle.par_managers.specs.declared.turn.Turn.{Turn}
use Rattle.world_state.specs.declared.state.State.{State}
use Rattle.par_managers.specs.Calls.{work_of, IsOf, IsEntry, IsComing, AreComing, AreShifts}
use Rattle.par_managers.proofs.Asking.{drop_next, drop_all}
use Rattle.par_managers.proofs.Counting.{count_none, count_in, count_out}
use Rattle.par_managers.proofs.Requests.{Going, going_none, going_on, going_more, going_all}
use Rattle.world_state.specs.Outside.{Outside}

apart_test : (a b : ℕ) → (a ≡ b → ⊥) → (a == b) ≡ false
apart_test a b apart = elim (a == b) as (λ t. (a == b) ≡ t → t ≡ false) [ true ↦ λ e. absurd (apart (eq_from a b e)) | false ↦ λ e. refl ] refl

pub all_more : {A : Type 0} (P : A → Type 0) (xs : List A) (x : A) → AllByRecursion P xs → P x → AllByRecursion P (xs ++ x ∷ [])
all_more P [] x h one = (one, tt)
all_more P (y ∷ ys) x h one = (h.0, all_more P ys x h.1 one)

-- A worker has n jobs, with an entry for each.
pub long_jobs : (first step n : ℕ) → length (jobs_from first step n) ≡ n
long_jobs first step zero = refl
long_jobs first step (suc n) = ap suc (long_jobs (first + step) step n)

some_is : {A : Type 0} {a b : A} → ◌≡◌ {A = Option A} (Some a) (Some b) → a ≡ b
some_is h = cc

module _ {K Q E X : Type 0} (outside : Outside K Q E X) (opening : State K Q E X) (workers : ℕ) (jobs : List Job) where
  -- the shifts of the first n workers
  pub record SoManyShifts (n : ℕ) (shifts : List (List (Option (Call Turn)))) : Type 0 where
    pub many : length shifts ≡ n
    pub asked : (v : ℕ) → map (λ shift. map work_of (requests_on v shift)) shifts ≡ map (λ k. asked_by (site_of opening.site) workers k v 0 jobs) (count_up n)
    pub coming : AllByRecursion (AreComing outside opening jobs) shifts
    pub entries : (k : ℕ) (shift : List (Option (Call Turn))) → slice_get shifts k ≡ Some shift → length shift ≡ job_count k workers (length jobs)

  pub no_shifts : SoManyShifts 0 []
  no_shifts = record { many = refl; asked = λ v. refl; coming = tt; entries = λ k shift at. cc }

  one_more : (n : ℕ) (shifts : List (List (Option (Call Turn)))) (shift : List (Option (Call Turn))) → SoManyShifts n shifts →
      ((v : ℕ) → map work_of (requests_on v shift) ≡ asked_by (site_of opening.site) workers n v 0 jobs) → AreComing outside opening jobs shift →
      length shift ≡ job_count n workers (length jobs) → SoManyShifts (suc n) (shifts ++ shift ∷ [])
  one_more n shifts shift so asked coming entries = record {
    many = length-append shifts (shift ∷ []) ∙ ap (λ (m : ℕ). m + 1) so.many ∙ next n;
    asked = λ v.
        map-append (λ shift. map work_of (requests_on v shift)) shifts (shift ∷ [])
        ∙ ap (λ (xss : List (List Work)). xss ++ map work_of (requests_on v shift) ∷ []) (so.asked v)
        ∙ ap (λ (xs : List Work). map (λ k. asked_by (site_of opening.site) workers k v 0 jobs) (count_up n) ++ xs ∷ []) (asked v)
        ∙ sym (map-append (λ k. asked_by (site_of opening.site) workers k v 0 jobs) (count_up n) (n ∷ []));
    coming = all_more (AreComing outside opening jobs) shifts shift so.coming coming;
    entries = λ k other at.
        elim (split k (length shifts)) as (λ s. length other ≡ job_count k workers (length jobs)) [
          | inl below ↦ so.entries k other (sym (slice_get-append_left shifts (shift ∷ []) k below) ∙ at)
          | inr there ↦ last (there.0) k other there.1 at
        ];
  } where
    next : (n : ℕ) → n + 1 ≡ suc n
    next n = omega arith

    last : (i k : ℕ) (other : List (Option (Call Turn))) → k ≡ length shifts + i → slice_get (shifts ++ shift ∷ []) k ≡ Some other → length other ≡ job_count k workers (length jobs)
    last zero k other is at =
        let here : Some shift ≡ Some other = sym (slice_get-append_right shifts (shift ∷ []) zero) ∙ ap (slice_get (shifts ++ shift ∷ [])) (sym is) ∙ at in
        let many = so.many in
        let same : n ≡ k = omega (arith, is, many) in
        sym (ap (λ xs. length xs) (some_is here)) ∙ entries ∙ ap (λ (m : ℕ). job_count m workers (length jobs)) same
    last (suc i) k other is at =
        let here : None ≡ Some other = sym (slice_get-append_right shifts (shift ∷ []) (suc i)) ∙ ap (slice_get (shifts ++ shift ∷ [])) (sym is) ∙ at in
        absurd (cc here)

  pub one_shift : (n : ℕ) (shifts after : List (List (Option (Call Turn)))) (shift : List (Option (Call Turn))) → after ≡ shifts ++ shift ∷ [] → SoManyShifts n shifts →
      ((v : ℕ) → map work_of (requests_on v shift) ≡ asked_by (site_of opening.site) workers n v 0 jobs) → AreComing outside opening jobs shift →
      length shift ≡ job_count n workers (length jobs) → SoManyShifts (n + 1) after
  one_shift n shifts after shift is so asked coming entries =
      subst (λ (xs : List (List (Option (Call Turn)))). SoManyShifts (n + 1) xs) (sym is)
      (subst (λ (m : ℕ). SoManyShifts m (shifts ++ shift ∷ [])) (next n) (one_more n shifts shift so asked coming entries))
    where
      next : (n : ℕ) → suc n ≡ n + 1
      next n = omega arith

  -- ---- one shift, entry by entry

  module _ (worker : ℕ) where
    pub record Shifting (i : ℕ) (entries : List (Option (Call Turn))) : Type 0 where
      pub asked : (v : ℕ) → Going (site_of opening.site) workers worker v jobs i entries
      pub coming : AreComing outside opening jobs entries
      pub many : length entries ≡ job_count worker workers i

    pub shifting_none : worker < workers → Shifting 0 []
    shifting_none mine = record { asked = λ v. going_none (site_of opening.site) workers worker v jobs; coming = tt; many = sym (count_none worker workers mine) }

    module _ (mine : worker < workers) (i : ℕ) (job : Job) (below : i < length jobs) (is : job ≡ get_or jobs i job) (entries after : List (Option (Call Turn))) (so : Shifting i entries) where
      rest : drop i jobs ≡ job ∷ drop (i + 1) jobs
      rest = drop_next jobs i job below is

      comes : (entry : Option (Call Turn)) → IsEntry (site_of opening.site) i job entry → IfSome entry (IsComing outside opening) →
          IfSome entry (λ call. IsComing outside opening call × IsOf jobs call.request)
      comes None h coming = coming
      comes (Some call) h coming =
          (coming, ap (slice_get jobs) h.at ∙ slice_get-get_or jobs i job below ∙ ap (λ (j : Job). Some j) (sym is) ∙ ap (λ (j : Job). Some j) (sym h.is))

      pub shifting_in : i % workers ≡ worker → (entry : Option (Call Turn)) → IsEntry (site_of opening.site) i job entry → IfSome entry (IsComing outside opening) →
          after ≡ entries ++ entry ∷ [] → Shifting (i + 1) after
      shifting_in here entry h coming more = subst (Shifting (i + 1)) (sym more) (record {
        asked = λ v. going_more (site_of opening.site) workers worker v jobs i job entries rest (so.asked v) (ap (λ (n : ℕ). n == worker) here ∙ eq_same worker) entry h;
        coming = all_more (λ entry. IfSome entry (λ call. IsComing outside opening call × IsOf jobs call.request)) entries entry so.coming (comes entry h coming);
        many = length-append entries (entry ∷ []) ∙ ap (λ (n : ℕ). n + 1) so.many ∙ sym (count_in worker workers mine i here);
      })

      pub shifting_out : (i % workers ≡ worker → ⊥) → after ≡ entries → Shifting (i + 1) after
      shifting_out apart same = subst (Shifting (i + 1)) (sym same) (record {
        asked = λ v. going_on (site_of opening.site) workers worker v jobs i job entries rest (so.asked v) (apart_test (i % workers) worker apart);
        coming = so.coming;
        many = so.many ∙ sym (count_out worker workers mine i apart);
      })

    pub shifting_all : (i : ℕ) (entries : List (Option (Call Turn))) → length jobs ≤ i → Shifting i entries → (v : ℕ) → map work_of (requests_on v entries) ≡ asked_by (site_of opening.site) workers worker v 0 jobs
    shifting_all i entries above so v = going_all (site_of opening.site) workers worker v jobs i entries (drop_all jobs i above) (so.asked v)

  pub are_shifts : (n : ℕ) (shifts : List (List (Option (Call Turn)))) → n ≡ workers → SoManyShifts n shifts → AreShifts outside opening workers jobs shifts
  are_shifts n shifts is so = record {
    asked = λ v. so.asked v ∙ ap (λ (m : ℕ). map (λ k. asked_by (site_of opening.site) workers k v 0 jobs) (count_up m)) is;
    coming = so.coming;
    entries = so.entries;
  }
