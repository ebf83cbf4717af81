-- How a sequence of disk calls is extended.
use Rattle.std.proofs.Common.{◌≡◌, inl, inr, ℕ, List, subst, arith}
use Rattle.std.proofs.lemmas.Bool.{cases_lt}
use Rattle.disk_model.specs.Images.{Passes, StandsStill, AtEachMoment}

module _ {D : Type 0} (moment : D → ℕ) (image : D → ℕ → List ℕ → Type 0) where
  -- no call yet: P must hold of the present images
  pub started : (old : D) (P : List ℕ → Type 0) → ((c : List ℕ) → image old (moment old) c → P c) → AtEachMoment moment image old old P
  started old P here = record {
    later = omega arith;
    stays = λ t c le. (λ i. i, λ i. i);
    each = λ t c from to i. let same : t ≡ moment old = omega arith in here c (subst (λ n. image old n c) same i);
  }

  -- one more call, after which P holds of each image
  pub goes_on : (old mid new : D) (P : List ℕ → Type 0) → AtEachMoment moment image old mid P → Passes (moment mid) (moment new) (image mid) (image new)
      → ((c : List ℕ) → image new (moment new) c → P c) → AtEachMoment moment image old new P
  goes_on old mid new P so_far time here = record {
    later = omega (arith, so_far.later, time.later);
    stays = λ t c le.
        let a = so_far.stays t c le in
        let b = time.stays t c (omega (arith, le, so_far.later)) in
        (λ i. a.0 (b.0 i), λ i. b.1 (a.1 i));
    each = λ t c from to i. elim (cases_lt (moment mid) t) [
      | inl after ↦ let same : t ≡ moment new = omega (arith, after, to, time.one) in here c (subst (λ n. image new n c) same i)
      | inr before ↦ so_far.each t c from before ((time.stays t c before).0 i)
    ];
  }

  -- a call during which no moment passes
  pub as_passes : (mid new : D) → StandsStill (moment mid) (moment new) (image mid) (image new) → Passes (moment mid) (moment new) (image mid) (image new)
  as_passes mid new still = record { later = omega (arith, still.same); one = omega (arith, still.same); stays = still.stays }

  pub stands : (old mid new : D) (P : List ℕ → Type 0) → AtEachMoment moment image old mid P → StandsStill (moment mid) (moment new) (image mid) (image new) → AtEachMoment moment image old new P
  stands old mid new P so_far still =
      goes_on old mid new P so_far (as_passes mid new still) (λ c i.
      let there : image new (moment mid) c = subst (λ n. image new n c) still.same i in
      so_far.each (moment mid) c so_far.later (omega arith) ((still.stays (moment mid) c (omega arith)).0 there))

  -- two consecutive sequences of calls are one sequence
  pub joined : (old mid new : D) (P : List ℕ → Type 0) → AtEachMoment moment image old mid P → AtEachMoment moment image mid new P → AtEachMoment moment image old new P
  joined old mid new P first second = record {
    later = omega (arith, first.later, second.later);
    stays = λ t c le.
        let a = first.stays t c le in
        let b = second.stays t c (omega (arith, le, first.later)) in
        (λ i. a.0 (b.0 i), λ i. b.1 (a.1 i));
    each = λ t c from to i. elim (cases_lt t (moment mid)) [
      | inl before ↦ first.each t c from (omega (arith, before)) ((second.stays t c (omega (arith, before))).0 i)
      | inr after ↦ second.each t c after to i
    ];
  }

  -- if P holds at each moment and implies Q, Q holds at each moment
  pub weaker : (old new : D) (P Q : List ℕ → Type 0) → AtEachMoment moment image old new P → ((c : List ℕ) → P c → Q c) → AtEachMoment moment image old new Q
  weaker old new P Q run implies = record { later = run.later; stays = run.stays; each = λ t c from to i. implies c (run.each t c from to i) }
