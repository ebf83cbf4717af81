-- The highest count of armings, after one post of a list was replaced.
use Rattle.std.proofs.Common.{◌≡◌, ℕ, zero, suc, ◌+◌, ◌<◌, ◌≤◌, Bool, List, [], ◌∷◌, refl, sym, ap, ◌∙◌, arith, Option, Some}
use Rattle.std.specs.Prelude.{max, slice_get, slice_set}
use Rattle.disk_model.specs.declared.arm.Armings.{Armings}
use Rattle.world_nodes.specs.Passed.{Post}
use Rattle.world_nodes.specs.Counts.{disk_of, Counts}
use Rattle.world_state.specs.Armed.{times_of, most_armed}
use Rattle.disk_model.specs.declared.disk.Disk as Disk
use Rattle.source_devices.specs.declared.entropy.Entropy as Entropy

some_is : {A : Type 0} {a b : A} → ◌≡◌ {A = Option A} (Some a) (Some b) → a ≡ b
some_is h = cc

module _ {K E : Type 0} (disk_says : Disk.Ghosts K) where
  abbrev times : Post K E → ℕ
  times p = times_of disk_says (disk_of p)

  pub most_same : (ps : List (Post K E)) (v : ℕ) (p q : Post K E) → slice_get ps v ≡ Some p → times q ≡ times p → most_armed disk_says (slice_set ps v q) ≡ most_armed disk_says ps
  most_same [] v p q at same = refl
  most_same (x ∷ ps) zero p q at same = ap (λ (n : ℕ). max n (most_armed disk_says ps)) (same ∙ ap times (sym (some_is at)))
  most_same (x ∷ ps) (suc v) p q at same = ap (max (times x)) (most_same ps v p q at same)

  pub most_more : (ps : List (Post K E)) (v : ℕ) (p q : Post K E) → slice_get ps v ≡ Some p → times q ≡ times p + 1 → most_armed disk_says (slice_set ps v q) ≤ most_armed disk_says ps + 1
  most_more [] v p q at more = omega arith
  most_more (x ∷ ps) zero p q at more =
      let is : times x ≡ times p = ap times (some_is at) in
      head (times q) (times x) (most_armed disk_says ps) (omega (arith, is, more))
    where
      head : (a b m : ℕ) → a ≡ b + 1 → max a m ≤ max b m + 1
      head a b m h = omega (arith, h)
  most_more (x ∷ ps) (suc v) p q at more = tail (times x) (most_armed disk_says (slice_set ps v q)) (most_armed disk_says ps) (most_more ps v p q at more)
    where
      tail : (a m n : ℕ) → m ≤ n + 1 → max a m ≤ max a n + 1
      tail a m n h = omega (arith, h)

  pub below_most : (ps : List (Post K E)) (v : ℕ) (p : Post K E) (top : ℕ) → slice_get ps v ≡ Some p → most_armed disk_says ps < top → times p < top
  below_most [] v p top at few = absurd (cc at)
  below_most (x ∷ ps) zero p top at few =
      let is : times x ≡ times p = ap times (some_is at) in
      head (times p) (times x) (most_armed disk_says ps) top (omega (arith, is)) few
    where
      head : (a b m top : ℕ) → a ≡ b → max b m < top → a < top
      head a b m top same h = omega (arith, same, h)
  below_most (x ∷ ps) (suc v) p top at few = below_most ps v p top at (tail (times x) (most_armed disk_says ps) top few)
    where
      tail : (a m top : ℕ) → max a m < top → m < top
      tail a m top h = omega (arith, h)

  -- The disk is armed as before.
  pub times_same : (entropy_says : Entropy.Ghosts E) (disk_fault entropy_fault : Bool) (p q : Post K E) → Counts disk_says entropy_says disk_fault entropy_fault p q → times q ≡ times p
  times_same entropy_says disk_fault entropy_fault p q c =
      ap (times_of disk_says) c.is ∙ ap (λ (a : Armings). a.count) c.arms ∙ sym (ap (times_of disk_says) c.was)
