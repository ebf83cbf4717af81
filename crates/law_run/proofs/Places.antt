-- Counts that rise with faults, in the actions that report them.
use Rattle.std.proofs.Common.{◌≡◌, ◌⊎◌, inl, inr, ℕ, ◌+◌, ◌-◌, ◌≤◌, Bool, true, false, List, [], ◌∷◌, ◌++◌, map, refl, sym, ap, subst, ◌∙◌, arith}
use Rattle.std.specs.Prelude.{count_by}
use Rattle.std.proofs.lemmas.List.{map-append}
use Rattle.std.proofs.lemmas.List.Concat.{flat_map-append}
use Rattle.net_model.specs.World.{Network}
use Rattle.net_model.specs.Action.{Action}
use Rattle.run_model.specs.Bench.{Count, Went, Rises, RoseWith, RoseBy}
use Rattle.run_model.specs.Report.{Performed, actions_for, actions_of}
use Rattle.law_locality.proofs.Counting.{one_if, count_more}

-- lists of faults behind one another

pub split : (greatest : ℕ) (xs ys : List Bool) (before now : ℕ) → Rises greatest (xs ++ ys) before now → (mid : ℕ) × Rises greatest xs before mid × Rises greatest ys mid now
split greatest [] ys before now h = (before, refl, h)
split greatest (x ∷ xs) ys before now h = let r = split greatest xs ys h.0 now h.2 in (r.0, (h.0, h.1, r.1), r.2)

pub joined : (greatest : ℕ) (xs ys : List Bool) (before mid now : ℕ) → Rises greatest xs before mid → Rises greatest ys mid now → Rises greatest (xs ++ ys) before now
joined greatest [] ys before mid now h k = subst (λ (n : ℕ). Rises greatest ys n now) h k
joined greatest (x ∷ xs) ys before mid now h k = (h.0, h.1, joined greatest xs ys h.0 mid now h.2 k)

-- from totals to places, and back

module _ {A : Type 0} (p : A → Bool) where
  -- The totals say as much: with them, there are counts after each action.
  first_placed : (greatest : ℕ) (xs : List A) → ((before now : ℕ) → (before + count_by p xs ≤ now) ⊎ (now ≡ greatest) → (count_by p xs ≡ 0 → now ≡ before) → Rises greatest (map p xs) before now) →
      (fault : Bool) (all : ℕ) → all ≡ one_if fault + count_by p xs → (before now : ℕ) → (before + all ≤ now) ⊎ (now ≡ greatest) → (all ≡ 0 → now ≡ before) →
      (mid : ℕ) × Went greatest fault before mid × Rises greatest (map p xs) mid now
  first_placed greatest xs rest false all is before now rose calm =
      let same : all ≡ count_by p xs = omega (arith, is) in
      (before, refl, rest before now (subst (λ (n : ℕ). (before + n ≤ now) ⊎ (now ≡ greatest)) same rose) (λ none. calm (same ∙ none)))
  first_placed greatest xs rest true all is before now (inl h) calm =
      (now - count_by p xs, inl (omega (arith, is, h)), rest (now - count_by p xs) now (inl (omega (arith, is, h))) (λ none. omega (arith, none)))
  first_placed greatest xs rest true all is before now (inr full) calm = (now, inr full, rest now now (inr full) (λ none. refl))

  pub placed : (greatest : ℕ) (xs : List A) (before now : ℕ) → (before + count_by p xs ≤ now) ⊎ (now ≡ greatest) → (count_by p xs ≡ 0 → now ≡ before) → Rises greatest (map p xs) before now
  placed greatest [] before now rose calm = calm refl
  placed greatest (x ∷ xs) before now rose calm =
      first_placed greatest xs (λ b n r c. placed greatest xs b n r c) (p x) (count_by p (x ∷ xs)) (count_more p x xs) before now rose calm

  went_most : (greatest : ℕ) (fault : Bool) (n all before mid now : ℕ) → all ≡ one_if fault + n → Went greatest fault before mid → (mid + n ≤ now) ⊎ (greatest ≤ now) → (before + all ≤ now) ⊎ (greatest ≤ now)
  went_most greatest false n all before mid now is went (inl h) = inl (omega (arith, is, went, h))
  went_most greatest true n all before mid now is (inl rose) (inl h) = inl (omega (arith, is, rose, h))
  went_most greatest true n all before mid now is (inr full) (inl h) = inr (omega (arith, full, h))
  went_most greatest fault n all before mid now is went (inr h) = inr h

  most : (greatest : ℕ) (xs : List A) (before now : ℕ) → Rises greatest (map p xs) before now → (before + count_by p xs ≤ now) ⊎ (greatest ≤ now)
  most greatest [] before now h = inl (omega (arith, h))
  most greatest (x ∷ xs) before now h = went_most greatest (p x) (count_by p xs) (count_by p (x ∷ xs)) before h.0 now (count_more p x xs) h.1 (most greatest xs h.0 now h.2)

  pub totals : (greatest : ℕ) (xs : List A) (before now : ℕ) → now ≤ greatest → Rises greatest (map p xs) before now → (before + count_by p xs ≤ now) ⊎ (now ≡ greatest)
  totals greatest xs before now within h = elim (most greatest xs before now h) [ inl rose ↦ inl rose | inr full ↦ inr (omega (arith, within, full)) ]

  none_first : (fault : Bool) (n all : ℕ) → all ≡ one_if fault + n → all ≡ 0 → n ≡ 0
  none_first fault n all is none = omega (arith, is, none)

  went_calm : (greatest : ℕ) (fault : Bool) (n all before mid : ℕ) → all ≡ one_if fault + n → all ≡ 0 → Went greatest fault before mid → mid ≡ before
  went_calm greatest false n all before mid is none went = went
  went_calm greatest true n all before mid is none went = absurd (omega (arith, is, none))

  -- Without a fault, the count stayed.
  pub calm : (greatest : ℕ) (xs : List A) (before now : ℕ) → Rises greatest (map p xs) before now → count_by p xs ≡ 0 → now ≡ before
  calm greatest [] before now h none = h
  calm greatest (x ∷ xs) before now h none =
      calm greatest xs h.0 now h.2 (none_first (p x) (count_by p xs) (count_by p (x ∷ xs)) (count_more p x xs) none)
      ∙ went_calm greatest (p x) (count_by p xs) (count_by p (x ∷ xs)) before h.0 (count_more p x xs) none h.1

-- ---- the tasks of a run

-- The counts around a task: those of the actions before it, its own and those after it.
module _ (net : Network) (p : Action → Bool) (greatest : ℕ) (earlier : List Performed) (task : Performed) (later : List Performed) where
  apart : map p (actions_of net (earlier ++ task ∷ later)) ≡ map p (actions_of net earlier) ++ (map p (actions_for net task) ++ map p (actions_of net later))
  unfolding actions_of
  apart =
      ap (map p) (flat_map-append (actions_for net) earlier (task ∷ later))
      ∙ map-append p (actions_of net earlier) (actions_for net task ++ actions_of net later)
      ∙ ap (λ (fs : List Bool). map p (actions_of net earlier) ++ fs) (map-append p (actions_for net task) (actions_of net later))

  pub task_apart : (before now : ℕ) → Rises greatest (map p (actions_of net (earlier ++ task ∷ later))) before now →
      (start : ℕ) × (end : ℕ) × Rises greatest (map p (actions_of net earlier)) before start × Rises greatest (map p (actions_for net task)) start end × Rises greatest (map p (actions_of net later)) end now
  task_apart before now h =
      let first = split greatest (map p (actions_of net earlier)) (map p (actions_for net task) ++ map p (actions_of net later)) before now (subst (λ (fs : List Bool). Rises greatest fs before now) apart h) in
      let then = split greatest (map p (actions_for net task)) (map p (actions_of net later)) first.0 now first.2 in
      (first.0, then.0, first.1, then.1, then.2)
