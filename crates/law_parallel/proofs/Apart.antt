-- All lanes of a site are different.
use Rattle.std.proofs.Common.{◌≡◌, ℕ, zero, suc, ◌<◌, false, ◌&&◌, ◌||◌, List, [], ◌∷◌, ◌++◌, refl, sym, ◌∙◌, ap, subst, arith}
use Rattle.std.specs.Prelude.{◌==◌}
use Rattle.std.specs.List.{list_any, AllByRecursion}
use Rattle.std.proofs.Math.Bool.{and-false}
use Rattle.std.proofs.lemmas.Bool.Decides.{nat_tests}
use Rattle.std.proofs.lemmas.Grind.{flat_map-append}
use Rattle.std.proofs.lemmas.List.Folds.{list_any-append}
use Rattle.qkd_base.specs.Lane.{lane_eq, way_eq}
use Rattle.qkd_base.specs.declared.lane.Way.{Way}
use Rattle.qkd_base.specs.declared.lane.Way.TheVariants.{Up, Down}
use Rattle.qkd_base.specs.declared.lane.Lane.{Lane}
use Rattle.net_model.specs.Site.{Site, count_up, lane_of as lane_at}
use Rattle.run_model.specs.Lines.{all_lanes}
use Rattle.law_base.proofs.Base.{or_both}
use Rattle.law_base.proofs.Lists.{all_both}
use Rattle.law_locality.proofs.Lists.{all_weaker}
use Rattle.law_parallel.proofs.Lanes.{lanes_of, lanes_below}

abbrev pub AreApart : List Lane → Type 0
AreApart [] = Unit {0}
AreApart (l ∷ ls) = (list_any (λ k. lane_eq k l) ls ≡ false) × AreApart ls

abbrev AreBelow : ℕ → List Lane → Type 0
AreBelow n ls = AllByRecursion (λ (l : Lane). l.link < n) ls

other_link : (a n : ℕ) → a < n → (n == a) ≡ false
other_link a n h = grind (arith, nat_tests)

away : (n : ℕ) (way : Way) (l : Lane) → l.link < n → lane_eq (lane_at n way) l ≡ false
away n way l h = ap (λ b. b && way_eq way l.way) (other_link l.link n h)

apart_pair : (n : ℕ) (ls : List Lane) → AreApart ls → AreBelow n ls → AreApart (ls ++ lanes_of n)
apart_pair n [] h below = (or_both (lane_eq (lane_at n Down) (lane_at n Up)) false (and-false (n == n)) refl, (refl, tt))
apart_pair n (l ∷ ls) h below = (
  list_any-append (λ k. lane_eq k l) ls (lanes_of n)
      ∙ or_both (list_any (λ k. lane_eq k l) ls) (lane_eq (lane_at n Up) l || (lane_eq (lane_at n Down) l || false)) h.0
      (or_both (lane_eq (lane_at n Up) l) (lane_eq (lane_at n Down) l || false) (away n Up l below.0) (or_both (lane_eq (lane_at n Down) l) false (away n Down l below.0) refl)),
  apart_pair n ls h.1 below.1,
)

record Apart (n : ℕ) : Type 0 where
  apart : AreApart (lanes_below n)
  below : AreBelow n (lanes_below n)

all_apart : (n : ℕ) → Apart n
all_apart zero = record { apart = tt; below = tt }
all_apart (suc n) =
    let rest = all_apart n in
    let split : lanes_below (suc n) ≡ lanes_below n ++ lanes_of n = flat_map-append lanes_of (count_up n) (n ∷ []) in
    record {
      apart = subst AreApart (sym split) (apart_pair n (lanes_below n) rest.apart rest.below);
      below = subst (AreBelow (suc n)) (sym split)
          (all_both (λ (l : Lane). l.link < suc n) (lanes_below n) (lanes_of n) (all_weaker (λ (l : Lane). l.link < n) (λ (l : Lane). l.link < suc n) (λ l h. omega (arith, h)) (lanes_below n) rest.below)
          (omega arith, (omega arith, tt)));
    }

pub lanes_apart : (s : Site) → AreApart (all_lanes s)
lanes_apart s = (all_apart s.links).apart
