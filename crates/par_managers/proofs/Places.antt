-- The places of lanes.
use Rattle.std.proofs.Common.{◌≡◌, ℕ, zero, suc, ◌+◌, ◌*◌, ◌/◌, ◌%◌, ◌<◌, true, false, refl, ap, subst, arith}
use Rattle.std.specs.Prelude.{◌==◌, if◌then◌else◌}
use Rattle.std.proofs.lemmas.Bool.{ltb-true, lt-ltb}
use Rattle.qkd_base.specs.Lane.{lane_place, way_number}
use Rattle.qkd_base.specs.declared.lane.Lane.{Lane}
use Rattle.qkd_base.specs.declared.lane.Way.{Way}
use Rattle.qkd_base.specs.declared.lane.Way.TheVariants.{Up, Down}
use Rattle.net_model.specs.Site.{Site}
use Rattle.net_model.specs.Events.{is_lane}
use Rattle.law_base.proofs.Base.{eq_from, eq_same, not_both, when_true, when_false}
use Rattle.world_state.specs.Stands.{of_way, place_of}

pub same_place : (l : Lane) → place_of l ≡ lane_place l
same_place l = by l.way
  where
    by : (way : Way) → 2 * l.link + of_way way ≡ 2 * l.link + way_number way
    by Up = refl
    by Down = refl

pub lane_there : (a b : Lane) → lane_place a ≡ lane_place b → a ≡ b
lane_there a b h = by a.way b.way h
  where
    by : (x y : Way) → 2 * a.link + way_number x ≡ 2 * b.link + way_number y → ◌≡◌ {A = Lane} (record { link = a.link; way = x }) (record { link = b.link; way = y })
    by Up Up e = let same : a.link ≡ b.link = omega (arith, e) in λ i. record { link = same i; way = Up }
    by Down Down e = let same : a.link ≡ b.link = omega (arith, e) in λ i. record { link = same i; way = Down }
    by Up Down e = absurd (omega (arith, e))
    by Down Up e = absurd (omega (arith, e))

pub lane_within : (s : Site) (l : Lane) → is_lane s l ≡ true → lane_place l < 2 * s.links
lane_within s l at = by l.way (ltb-true l.link s.links at)
  where
    by : (way : Way) → l.link < s.links → 2 * l.link + way_number way < 2 * s.links
    by Up below = omega (arith, below)
    by Down below = omega (arith, below)

-- the lane at a place
pub lane_from : ℕ → Lane
lane_from i = record { link = i / 2; way = if i % 2 == 0 then Up else Down }

back : (link : ℕ) (way : Way) → lane_from (2 * link + way_number way) ≡ record { link = link; way = way }
unfolding lane_from
back link Up =
    let half : (2 * link + 0) / 2 ≡ link = omega arith in
    let even : (2 * link + 0) % 2 ≡ 0 = omega arith in
    let way : (if (2 * link + 0) % 2 == 0 then Up else Down) ≡ Up = when_true ((2 * link + 0) % 2 == 0) Up Down (ap (λ (n : ℕ). n == 0) even) in
    λ i. record { link = half i; way = way i }
back link Down =
    let half : (2 * link + 1) / 2 ≡ link = omega arith in
    let odd : (2 * link + 1) % 2 ≡ 1 = omega arith in
    let way : (if (2 * link + 1) % 2 == 0 then Up else Down) ≡ Down = when_false ((2 * link + 1) % 2 == 0) Up Down (ap (λ (n : ℕ). n == 0) odd) in
    λ i. record { link = half i; way = way i }

pub lane_back : (l : Lane) → lane_from (lane_place l) ≡ l
lane_back l = back l.link l.way

pub record LaneAt (s : Site) (i : ℕ) : Type 0 where
  pub lane : Lane
  pub at : is_lane s lane ≡ true
  pub here : lane_place lane ≡ i

odd_rest : (i : ℕ) → (i % 2 == 0) ≡ false → i % 2 ≡ 1
odd_rest i e = by (i % 2) e (omega arith)
  where
    by : (n : ℕ) → (n == 0) ≡ false → n < 2 → n ≡ 1
    by zero e below = cc
    by (suc zero) e below = refl
    by (suc (suc n)) e below = absurd (omega (arith, below))

pub lane_at : (s : Site) (i : ℕ) → i < 2 * s.links → LaneAt s i
lane_at s i below =
    let link : i / 2 < s.links = omega (arith, below) in
    let within = lt-ltb (i / 2) s.links link in
    elim (i % 2 == 0) as (λ t. (i % 2 == 0) ≡ t → LaneAt s i) [
      | true ↦ λ e. let even = eq_from (i % 2) 0 e in record { lane = record { link = i / 2; way = Up }; at = within; here = omega (arith, even) }
      | false ↦ λ e. let odd = odd_rest i e in record { lane = record { link = i / 2; way = Down }; at = within; here = omega (arith, odd) }
    ] refl

-- Two numbers are equal or not.
pub same_or : {A : Type 0} (a b : ℕ) → (a ≡ b → A) → ((a ≡ b → ⊥) → A) → A
same_or {A} a b here apart = elim (a == b) as (λ t. (a == b) ≡ t → A) [
  | true ↦ λ e. here (eq_from a b e)
  | false ↦ λ e. apart (λ is. not_both (a == b) (subst (λ (n : ℕ). (a == n) ≡ true) is (eq_same a)) e)
] refl
