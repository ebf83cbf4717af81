-- Counts of faults and armings, as they are seen.
use Rattle.std.proofs.Common.{◌≡◌, ◌⊎◌, inl, inr, ℕ, ◌+◌, ◌-◌, ◌^◌, ◌<◌, ◌≤◌, Bool, true, false, List, [], map, refl, sym, ap, subst, arith, Option, Some}
use Rattle.std.specs.Prelude.{min, nat_le, count_by, slice_get}
use Rattle.std.proofs.lemmas.Bool.Decides.{nat_tests}
use Rattle.disk_model.specs.declared.arm.Armings.{Armings}
use Rattle.net_model.specs.Action.{Action, Fault}
use Rattle.run_model.specs.Bench.{RoseWith, IsArmedWith}
use Rattle.law_run.specs.Benched.{counter}
use Rattle.law_run.proofs.Places.{placed}
use Rattle.world_state.specs.Tallied.{Counted, IsArmedBy}
use Rattle.net_world.specs.Seen.{shown, counted_in, armings_of, armed_between}
use Rattle.disk_model.specs.declared.disk.Disk as Disk

rose : (n before now top : ℕ) → min (before + n) top ≤ now → (min before top + n ≤ min now top) ⊎ (min now top ≡ top)
rose n before now top least =
    elim (nat_le top now) as (λ t. nat_le top now ≡ t → (min before top + n ≤ min now top) ⊎ (min now top ≡ top)) [
      | true ↦ λ e. inr (full (past e))
      | false ↦ λ e. inl (few (under e))
    ] refl
  where
    past : nat_le top now ≡ true → top ≤ now
    past e = grind (arith, nat_tests)

    under : nat_le top now ≡ false → now < top
    under e = grind (arith, nat_tests)

    full : top ≤ now → min now top ≡ top
    full h = omega (arith, h)

    few : now < top → min before top + n ≤ min now top
    few h = omega (arith, h, least)

still_shown : (a n top : ℕ) → n ≡ 0 → (a + n ≤ a) ⊎ (a ≡ top)
still_shown a n top none = inl (omega (arith, none))

-- the count of a part, over the actions in which it failed
module _ {T : Type 0} (faults : T → ℕ) (p : Action → Bool) (actions : List Action) where
  rises_shown : (before now : T) → Counted (count_by p actions) (faults before) (faults now) → RoseWith (counter (shown faults (Some before)) (shown faults (Some now))) (map p actions)
  rises_shown before now h =
      placed p (2 ^ 64 - 1) actions (shown faults (Some before)) (shown faults (Some now)) (rose (count_by p actions) (faults before) (faults now) (2 ^ 64 - 1) h.rose)
      (λ none. ap (λ (n : ℕ). min n (2 ^ 64 - 1)) (h.calm none))

  module _ (olds news : List T) (i : ℕ) where
    pub seen_risen : (before now : T) → slice_get olds i ≡ Some before → slice_get news i ≡ Some now → Counted (count_by p actions) (faults before) (faults now) →
        RoseWith (counted_in faults olds news i) (map p actions)
    seen_risen before now was is h =
        subst (λ (o : Option T). RoseWith (counter (shown faults o) (shown faults (slice_get news i))) (map p actions)) (sym was)
        (subst (λ (o : Option T). RoseWith (counter (shown faults (Some before)) (shown faults o)) (map p actions)) (sym is) (rises_shown before now h))

    pub seen_still : count_by p actions ≡ 0 → slice_get news i ≡ slice_get olds i → RoseWith (counted_in faults olds news i) (map p actions)
    seen_still none same =
        subst (λ (o : Option T). RoseWith (counter (shown faults (slice_get olds i)) (shown faults o)) (map p actions)) (sym same)
        (placed p (2 ^ 64 - 1) actions (shown faults (slice_get olds i)) (shown faults (slice_get olds i)) (still_shown (shown faults (slice_get olds i)) (count_by p actions) (2 ^ 64 - 1) none) (λ _. refl))

-- the armings that are seen are those of the run

armed_by : (faults : List Fault) (before now : Armings) → IsArmedBy faults before now → IsArmedWith (armed_between before now) faults
armed_by faults before now h = (omega (arith, h.times), h.last)

module _ {K : Type 0} (disk_says : Disk.Ghosts K) (olds news : List K) (v : ℕ) where
  abbrev Armed : List Fault → Type 0
  Armed faults = IsArmedWith (armed_between (armings_of disk_says (slice_get olds v)) (armings_of disk_says (slice_get news v))) faults

  pub seen_armed : (faults : List Fault) (before now : K) → slice_get olds v ≡ Some before → slice_get news v ≡ Some now → IsArmedBy faults (disk_says.armings before) (disk_says.armings now) → Armed faults
  seen_armed faults before now was is h =
      subst (λ (o : Option K). IsArmedWith (armed_between (armings_of disk_says o) (armings_of disk_says (slice_get news v))) faults) (sym was)
      (subst (λ (o : Option K). IsArmedWith (armed_between (disk_says.armings before) (armings_of disk_says o)) faults) (sym is) (armed_by faults (disk_says.armings before) (disk_says.armings now) h))

  pub seen_unarmed : (faults : List Fault) → faults ≡ [] → slice_get news v ≡ slice_get olds v → Armed faults
  seen_unarmed faults none same =
      subst (λ (fs : List Fault). Armed fs) (sym none)
      (subst (λ (o : Option K). IsArmedWith (armed_between (armings_of disk_says (slice_get olds v)) (armings_of disk_says o)) []) (sym same)
      (armed_by [] (armings_of disk_says (slice_get olds v)) (armings_of disk_says (slice_get olds v)) (record { times = omega arith; last = refl })))
