-- What a single worker asks, job by job, is a merge of what several workers ask.
use Rattle.std.proofs.Common.{◌≡◌, ℕ, zero, suc, ◌+◌, ◌<◌, ◌≤◌, ◌%◌, Bool, true, false, List, [], ◌∷◌, ◌++◌, length, map, refl, sym, ◌∙◌, ap, subst, arith, append_assoc}
use Rattle.std.specs.Prelude.{◌==◌, if◌then◌else◌}
use Rattle.std.specs.List.{list_all, AllByRecursion}
use Rattle.std.proofs.lemmas.List.{map-append}
use Rattle.std.proofs.lemmas.Bool.Decides.{nat_tests}
use Rattle.std.proofs.Math.Nat.{mod-lt}
use Rattle.net_model.specs.Site.{Site, count_up}
use Rattle.net_model.specs.BlockOrder.{IsMerge, Done, Next}
use Rattle.run_model.specs.Works.{Work}
use Rattle.run_ops.specs.declared.job.Job.{Job}
use Rattle.run_ops.specs.Jobs.{asked_for, turn_for, asked_by, asked_in_order}
use Rattle.law_base.proofs.Base.{eq_same, eq_from, not_false, when_true}
use Rattle.law_base.proofs.Lists.{all_both}

-- If one of the lists gets more items in front, a merge can begin with these.
goes_on : {A : Type 0} (before after : List (List A)) (xs rest out : List A) → IsMerge (before ++ rest ∷ after) out → IsMerge (before ++ (xs ++ rest) ∷ after) (xs ++ out)
goes_on before after [] rest out h = h
goes_on before after (x ∷ xs) rest out h = Next before after x (xs ++ rest) (xs ++ out) (goes_on before after xs rest out h)

-- None of these numbers equals k.

abbrev AreOthers : ℕ → List ℕ → Type 0
AreOthers k ns = AllByRecursion (λ u. (k == u) ≡ false) ns

record Parted (k n : ℕ) : Type 0 where
  before : List ℕ
  after : List ℕ
  is : count_up n ≡ before ++ k ∷ after
  apart_before : AreOthers k before
  apart_after : AreOthers k after

below_others : (k n : ℕ) → n ≤ k → AreOthers k (count_up n)
below_others k zero h = tt
below_others k (suc n) h =
    all_both (λ u. (k == u) ≡ false) (count_up n) (n ∷ []) (below_others k n (omega arith)) (not_false (k == n) (λ e. let is = eq_from k n e in absurd (omega (arith, h, is))), tt)

parted : (k n : ℕ) → k < n → Parted k n
parted k zero h = absurd (omega (arith, h))
parted k (suc n) h =
    elim (k == n) as (λ t. (k == n) ≡ t → Parted k (suc n)) [
      | true ↦ λ e. let is : k ≡ n = eq_from k n e in record {
        before = count_up n;
        after = [];
        is = ap (λ (m : ℕ). count_up n ++ m ∷ []) (sym is);
        apart_before = below_others k n (omega (arith, is));
        apart_after = tt;
      }
      | false ↦ λ e. let p = parted k n (below k n h e) in record {
        before = p.before;
        after = p.after ++ n ∷ [];
        is = ap (λ (ns : List ℕ). ns ++ n ∷ []) p.is ∙ append_assoc p.before (k ∷ p.after) (n ∷ []);
        apart_before = p.apart_before;
        apart_after = all_both (λ u. (k == u) ≡ false) p.after (n ∷ []) p.apart_after (e, tt);
      }
    ] refl
  where
    below : (k n : ℕ) → k < suc n → (k == n) ≡ false → k < n
    below k n h e = elim (k == n) as (λ t. (k == n) ≡ t → k < n) [
      | true ↦ λ x. absurd (cc)
      | false ↦ λ x. grind (arith, nat_tests)
    ] refl

module _ {A : Type 0} (f : ℕ → List A) (k : ℕ) (xs : List A) where
  -- One of the lists has more items in front.
  abbrev grown : ℕ → List A
  grown u = (if k == u then xs else []) ++ f u

  same_others : (us : List ℕ) → AreOthers k us → map grown us ≡ map f us
  same_others [] h = refl
  same_others (u ∷ us) h =
      let one : grown u ≡ f u = ap (λ (t : Bool). (if t then xs else []) ++ f u) h.0 in
      let rest = same_others us h.1 in
      λ i. one i ∷ rest i

  grown_here : grown k ≡ xs ++ f k
  grown_here = ap (λ (t : Bool). (if t then xs else []) ++ f k) (eq_same k)

  grown_parted : (n : ℕ) (p : Parted k n) → map grown (count_up n) ≡ map f p.before ++ (xs ++ f k) ∷ map f p.after
  grown_parted n p =
      ap (map grown) p.is ∙ map-append grown p.before (k ∷ p.after) ∙
      (let one = same_others p.before p.apart_before in
      let here = grown_here in
      let rest = same_others p.after p.apart_after in
      λ i. one i ++ here i ∷ rest i)

  plain_parted : (n : ℕ) (p : Parted k n) → map f (count_up n) ≡ map f p.before ++ f k ∷ map f p.after
  plain_parted n p = ap (map f) p.is ∙ map-append f p.before (k ∷ p.after)

  pub one_goes_on : (n : ℕ) → k < n → (out : List A) → IsMerge (map f (count_up n)) out → IsMerge (map grown (count_up n)) (xs ++ out)
  one_goes_on n h out m =
      let p = parted k n h in
      subst (λ ps. IsMerge ps (xs ++ out)) (sym (grown_parted n p))
      (goes_on (map f p.before) (map f p.after) xs (f k) out (subst (λ ps. IsMerge ps out) (plain_parted n p) m))

no_works : (A : Type 0) (ks : List ℕ) → list_all (λ (p : List A). length p == 0) (map (λ k. []) ks) ≡ true
no_works A [] = refl
no_works A (k ∷ ks) = no_works A ks

module _ (site : Site) (workers v : ℕ) (some : 1 ≤ workers) where
  from_place : (place : ℕ) (jobs : List Job) → IsMerge (map (λ k. asked_by site workers k v place jobs) (count_up workers)) (asked_by site 1 0 v place jobs)
  unfolding asked_by
  from_place place [] = Done (map (λ k. []) (count_up workers)) (no_works Work (count_up workers))
  from_place place (job ∷ rest) =
      let xs : List Work = turn_for site v place (asked_for job) in
      let alone : (if place % 1 == 0 then xs else []) ≡ xs = when_true (place % 1 == 0) xs [] (only place) in
      subst (λ (ys : List Work). IsMerge (map (λ k. asked_by site workers k v place (job ∷ rest)) (count_up workers)) (ys ++ asked_by site 1 0 v (place + 1) rest)) (sym alone)
      (one_goes_on (λ k. asked_by site workers k v (place + 1) rest) (place % workers) xs workers (mod-lt place some) (asked_by site 1 0 v (place + 1) rest) (from_place (place + 1) rest))
    where
      only : (place : ℕ) → (place % 1 == 0) ≡ true
      only place = let small : place % 1 < 1 = mod-lt place (omega arith) in let is : place % 1 ≡ 0 = omega (arith, small) in ap (λ n. n == 0) is

pub in_order_is_a_merge : (site : Site) (workers v : ℕ) (jobs : List Job) → 1 ≤ workers →
    IsMerge (map (λ k. asked_by site workers k v 0 jobs) (count_up workers)) (asked_in_order site v jobs)
in_order_is_a_merge site workers v jobs some = from_place site workers v some 0 jobs
