-- Writing down the leases of lanes, place by place.
use Rattle.std.proofs.Common.{◌≡◌, ℕ, ◌+◌, ◌*◌, ◌/◌, ◌%◌, ◌<◌, ◌≤◌, true, false, List, length, refl, sym, ap, subst, ◌∙◌, arith, Option, Some, None}
use Rattle.std.specs.Prelude.{◌==◌, slice_get, slice_set, is_some}
use Rattle.qkd_base.specs.declared.lane.Lane.{Lane}
use Rattle.qkd_base.specs.declared.lane.Way.{Way}
use Rattle.qkd_base.specs.declared.lane.Way.TheVariants.{Up, Down}
use Rattle.net_model.specs.Site.{Site, sender}
use Rattle.net_model.specs.Events.{is_lane}
use Rattle.world_state.specs.Passed.{Post}
use Rattle.law_base.proofs.Base.{eq_same, eq_from, not_both}
use Rattle.resend_window.proofs.Lists.{get_set_same, get_set_other}
use Rattle.world_state.specs.Stands.{of_way, place_of}
use Rattle.world_state.proofs.Others.{placed_length}
use Rattle.par_managers.specs.Leases.{lease_at, EndsOf, EndsAt, WroteOf, WroteAt}

-- ---- the lane at a place

half : (way : Way) (link place : ℕ) → 2 * link + of_way way ≡ place → place / 2 ≡ link
half Up link place h = omega (arith, h)
half Down link place h = omega (arith, h)

even_up : (way : Way) (link place : ℕ) → 2 * link + of_way way ≡ place → place % 2 ≡ 0 → Up ≡ way
even_up Up link place h even = refl
even_up Down link place h even = absurd (omega (arith, h, even))

odd_down : (way : Way) (link place : ℕ) → 2 * link + of_way way ≡ place → (place % 2 ≡ 0 → ⊥) → Down ≡ way
odd_down Up link place h odd = absurd (odd (omega (arith, h)))
odd_down Down link place h odd = refl

pub too_high : {A : Type 0} (l : Lane) (place : ℕ) → l.link < 32 → place_of l ≡ place → 64 ≤ place → A
too_high l place below at high = by l.way at
  where
    by : {A : Type 0} (way : Way) → 2 * l.link + of_way way ≡ place → A
    by Up h = absurd (omega (arith, below, h, high))
    by Down h = absurd (omega (arith, below, h, high))

module _ (l : Lane) (place link : ℕ) (at : place_of l ≡ place) (is : link ≡ place / 2) where
  its_link : link ≡ l.link
  its_link = is ∙ half l.way l.link place at

  lane_with : (way : Way) → way ≡ l.way → ◌≡◌ {A = Lane} (record { link = link; way = way }) l
  lane_with way same i = record { link = its_link i; way = same i }

  pub lane_up : place % 2 ≡ 0 → ◌≡◌ {A = Option Lane} (Some (record { link = link; way = Up })) (Some l)
  lane_up even = ap Some (lane_with Up (even_up l.way l.link place at even))

  pub lane_down : (place % 2 ≡ 0 → ⊥) → ◌≡◌ {A = Option Lane} (Some (record { link = link; way = Down })) (Some l)
  lane_down odd = ap Some (lane_with Down (odd_down l.way l.link place at odd))

pub half_below : (l : Lane) (place : ℕ) → l.link < 32 → place_of l ≡ place → place / 2 < 32
half_below l place below at = subst (λ (n : ℕ). n < 32) (sym (half l.way l.link place at)) below

-- ---- the leases that were written down so far

-- Two numbers are equal or not.
same_or : {A : Type 0} (a b : ℕ) → (a ≡ b → A) → ((a ≡ b → ⊥) → A) → A
same_or {A} a b here apart = elim (a == b) as (λ t. (a == b) ≡ t → A) [
  | true ↦ λ e. here (eq_from a b e)
  | false ↦ λ e. apart (λ is. not_both (a == b) (subst (λ (n : ℕ). (a == n) ≡ true) is (eq_same a)) e)
] refl

pub record WroteTo (s : Site) (v : ℕ) (end : Lane → ℕ) (place : ℕ) (old new : List ℕ) : Type 0 where
  pub sides : length new ≡ length old
  pub mine : (l : Lane) → is_lane s l ≡ true → sender s l ≡ v → place_of l < place → place_of l < length old → slice_get new (place_of l) ≡ Some (end l)
  pub others : (l : Lane) → is_lane s l ≡ true → (sender s l ≡ v → ⊥) → slice_get new (place_of l) ≡ slice_get old (place_of l)

module _ (s : Site) (v : ℕ) (end : Lane → ℕ) where
  pub wrote_none : (old : List ℕ) → WroteTo s v end 0 old old
  wrote_none old = record { sides = refl; mine = λ l at from below within. absurd (omega (arith, below)); others = λ l at apart. refl }

  pub wrote_more : (place : ℕ) (old mid : List ℕ) (before now : ℕ) → WroteTo s v end place old mid → slice_get mid place ≡ Some before → EndsAt s v end place before now →
      WroteTo s v end (place + 1) old (slice_set mid place now)
  wrote_more place old mid before now h there ends = record {
    sides = placed_length mid (slice_set mid place now) place now refl ∙ h.sides;
    mine = λ l at from below within.
        same_or place (place_of l)
        (λ is. ap (slice_get (slice_set mid place now)) (sym is) ∙ get_set_same mid place before now there ∙ ap Some ((ends l at (sym is)).mine from))
        (λ apart. get_set_other mid place (place_of l) now apart ∙ h.mine l at from (under (place_of l) place below (λ e. apart (sym e))) within);
    others = λ l at apart.
        same_or place (place_of l)
        (λ is. ap (slice_get (slice_set mid place now)) (sym is) ∙ get_set_same mid place before now there ∙ ap Some ((ends l at (sym is)).other apart) ∙ sym there
        ∙ ap (slice_get mid) is ∙ h.others l at apart)
        (λ other. get_set_other mid place (place_of l) now other ∙ h.others l at apart);
  } where
    under : (a b : ℕ) → a < b + 1 → (a ≡ b → ⊥) → a < b
    under a b h apart = omega (arith, h, apart)

pub wrote_all : {K E : Type 0} (s : Site) (v : ℕ) (post : Post K E) (place : ℕ) (old new : List ℕ) → length old ≤ place → WroteTo s v (lease_at post) place old new → WroteOf s v post old new
wrote_all s v post place old new above h = record {
  sides = h.sides;
  mine = λ l at from within. h.mine l at from (omega (arith, within, above)) within;
  others = h.others;
}

-- ---- the lease of a lane

module _ (s : Site) (v : ℕ) (end : Lane → ℕ) (l : Lane) (before : ℕ) where
  pub mine_end : (now : ℕ) → sender s l ≡ v → now ≡ end l → EndsOf s v end l before now
  mine_end now from is = record { mine = λ from. is; other = λ apart. absurd (apart from) }

  pub other_end : (sender s l ≡ v → ⊥) → EndsOf s v end l before before
  other_end apart = record { mine = λ from. absurd (apart from); other = λ apart. refl }

-- ---- leases are written down if a plan was replied

module _ {K E : Type 0} (s : Site) (v : ℕ) (post : Post K E) (old new : List ℕ) where
  pub wrote_some : (planner : Option ℕ) → is_some planner ≡ true → WroteOf s v post old new → WroteAt s v planner post old new
  wrote_some None is h = cc
  wrote_some (Some u) is h = h

  pub wrote_not : (planner : Option ℕ) → is_some planner ≡ false → new ≡ old → WroteAt s v planner post old new
  wrote_not None is h = h
  wrote_not (Some u) is h = cc
